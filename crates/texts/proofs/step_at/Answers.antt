use mathlib.Core.Path.{◌∙◌, ap}
use Rattle.std.specs.Option.{unwrap_or}
use borrow.Author.Tests.{eq-eqb, ne_eqb}
use Rattle.texts.specs.inner.Steps.{step_of, kept_step}
use Rattle.texts.proofs.step_at.Goals as goal

pub returns-in_err-escaped : goal.returns-in_err-escaped
unfolding step_of
returns-in_err-escaped c = c.from_residual.ensures ∙ ap (λ o. kept_step (unwrap_or o 0)) c.in_err-escaped.ensures ∙ rw c.if-after.true

pub returns-then-after : goal.returns-then-after
unfolding step_of
returns-then-after c = c.kept_step.ensures ∙ ap (λ o. kept_step (unwrap_or o 0)) c.in_ok-escaped.ensures ∙ rw c.if-after.true

pub returns-then-b-eq92 : goal.returns-then-b-eq92
unfolding step_of
returns-then-b-eq92 c = rw (c.if-after.false, eq-eqb _ 92 c.if-b-eq92.true)

pub returns : goal.returns
unfolding step_of
returns c = c.kept_step-2.ensures ∙ rw (c.if-after.false, ne_eqb _ 92 c.if-b-eq92.false)
