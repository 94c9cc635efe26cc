use Prim.Native.Nat.{◌-◌}
use borrow.Author.Tests.{ne_eqb}
use Rattle.turbo_lines.proofs.mark_letter.Goals as goal

pub returns-in-71 : goal.returns-in-71
returns-in-71 c = rw c.in-71.is

pub returns-in-84 : goal.returns-in-84
returns-in-84 c = rw c.in-84.is

pub returns-in-76 : goal.returns-in-76
returns-in-76 c = rw c.in-76.is

pub returns-in_default : goal.returns-in_default
returns-in_default c = let r = c.in_default.in_default-own.rest in rw (ne_eqb _ 71 r.0.0.1, ne_eqb _ 84 r.0.1, ne_eqb _ 76 r.1)
