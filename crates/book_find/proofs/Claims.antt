-- The claim of `specs/Claims.antt` holds. Assumes nothing.
use Rattle.book_find.specs.Claims.{All}
use Rattle.book_find.proofs.HeldLaws.{found-message, missing-message}

pub claims : All
claims used b n sound = (found-message used b n sound, missing-message used b n sound)
