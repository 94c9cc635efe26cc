use Prim.Native.Nat.{ℕ, ◌+◌}
use mathlib.Core.Path.{ap}
use Rattle.feeds.proofs.machine_number.Goals as goal

pub returns-in-Mark : goal.returns-in-Mark
returns-in-Mark c = rw c.in-Mark.is (ap (λ (n : ℕ). 4 + n) c.kind_number-in-Mark.ensures.is)

pub returns-in-First : goal.returns-in-First
returns-in-First c = rw c.in-First.is (ap (λ (n : ℕ). 8 + n) c.kind_number-in-First.ensures.is)

pub returns-in-Inside : goal.returns-in-Inside
returns-in-Inside c = rw c.in-Inside.is (ap (λ (n : ℕ). 12 + n) c.kind_number-in-Inside.ensures.is)

pub returns-in-FirstEsc : goal.returns-in-FirstEsc
returns-in-FirstEsc c = rw c.in-FirstEsc.is (ap (λ (n : ℕ). 16 + n) c.kind_number-in-FirstEsc.ensures.is)

pub returns-in-InsideEsc : goal.returns-in-InsideEsc
returns-in-InsideEsc c = rw c.in-InsideEsc.is (ap (λ (n : ℕ). 20 + n) c.kind_number-in-InsideEsc.ensures.is)

pub returns-in-Null : goal.returns-in-Null
returns-in-Null c = rw c.in-Null.is (ap (λ (n : ℕ). 24 + n) c.kind_number-in-Null.ensures.is)

pub returns-in-Ret : goal.returns-in-Ret
returns-in-Ret c = rw c.in-Ret.is (ap (λ (n : ℕ). 28 + n) c.kind_number-in-Ret.ensures.is)
