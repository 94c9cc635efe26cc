-- The claims of specs/Claims.antt, proved. Assumes nothing.
use Rattle.feeds.specs.Claims.{All}
use Rattle.feeds.proofs.FitLaws.{kept_read, begun-fits, new-fits, fed-fits}

pub claims : All
claims = (kept_read, begun-fits, new-fits, fed-fits)
