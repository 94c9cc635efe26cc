-- The claims of `specs/Claims.antt` hold. Assumes nothing.
use Rattle.turbo_lines.specs.Claims.{All}
use Rattle.turbo_lines.proofs.GrammarLaws.{dossier-grammar}
use Rattle.turbo_lines.proofs.LongLaws.{long-found, none_found, long-number, line-from, front-before}
use Rattle.turbo_lines.proofs.EndedLaws.{ended-append, held-append, ended-lines, held-nothing}

pub claims : All
claims =
    (λ d w. dossier-grammar w, long-found, none_found, λ n ls. (long-number n ls, line-from n ls), front-before, λ h a b. (ended-append h a b, held-append h a b), λ d w. (ended-lines d w, held-nothing d w))
