-- The claims of `specs/Claims.antt`. Assumes nothing.
use lib.ListN.{length}
use Rattle.syntax.specs.Claims.{All}
use Rattle.syntax.proofs.GrammarLaws.{fine, formed}
use Rattle.syntax.proofs.FaultLaws.{within, viable, dead, early}

pub claims : All
claims = (λ d. (formed d, λ w. fine w), within, viable, dead, λ d. early d (length d))
