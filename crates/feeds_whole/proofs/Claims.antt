-- The claims of specs/Claims.antt, proved. Assumes nothing.
use Rattle.feeds_whole.specs.Claims.{All}
use Rattle.feeds_whole.proofs.PartLaws.{cutting}
use Rattle.feeds_whole.proofs.CallLaws.{parts-are-whole, staging-holds}
use Rattle.feeds_whole.proofs.RuleLaws.{never-begun, accepted-clears, rows-out-of-range, unregistered}

pub claims : All
claims = (cutting, parts-are-whole, staging-holds, never-begun, accepted-clears, rows-out-of-range, unregistered)
