-- The claims of `specs/Claims.antt`. Assumes nothing.
use Rattle.turbo.specs.Claims.{All}
use Rattle.turbo.proofs.GrammarLaws.{fields-grammar, decode-grammar}

pub claims : All
claims = (λ l f. fields-grammar f, λ l t. decode-grammar t)
