-- The claim of `specs/Claims.antt`. Assumes nothing.
use mathlib.Core.Path.{sym, ap}
use Rattle.reader_step.specs.declared.State.{State}
use Rattle.reader_step.specs.Claims.{All}
use Rattle.reader_step.proofs.StepLaws.{line-counted}

pub claims : All
claims t register sender s l staging h =
    let c = line-counted t register sender s l staging h in
    (sym (ap (λ (x : State). x.form) c.0), sym (ap (λ (x : State). x.rows) c.0), sym c.1)
