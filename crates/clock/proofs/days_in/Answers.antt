use mathlib.Core.Logic.{inl, inr}
use Rattle.clock.proofs.DateLaws.{days-29, days-28, days-30, days-31}
use Rattle.clock.proofs.days_in.Goals as goal

pub returns-then-y-eq0 : goal.returns-then-y-eq0
returns-then-y-eq0 c = days-29 _ _ c.in-2.is c.if-y-eq0.true

pub returns-else-y-eq0 : goal.returns-else-y-eq0
returns-else-y-eq0 c = days-28 _ _ c.in-2.is c.if-y-eq0.false

pub returns-in-4 : goal.returns-in-4
returns-in-4 c = days-30 _ _ c.in-4.is

pub returns-in_default : goal.returns-in_default
returns-in_default c = let r = c.in_default.in_default-own.rest.1 in
    days-31 _ _ c.in_default.in_default-own.rest.0.1 (λ e. r (inl e)) (λ e. r (inr (inl e))) (λ e. r (inr (inr (inl e)))) (λ e. r (inr (inr (inr e))))
