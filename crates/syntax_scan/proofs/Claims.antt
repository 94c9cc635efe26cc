-- The claims of `specs/Claims.antt` hold. Assumes nothing.
use Rattle.syntax_scan.specs.Claims.{All}
use Rattle.syntax_scan.proofs.ScannedLaws.{scanned-append, scanned-from, fault-scanned, stuck-first}

pub claims : All
claims = (scanned-append, scanned-from, fault-scanned, λ s d j e. stuck-first s d j e)
