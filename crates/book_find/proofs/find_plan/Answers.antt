use native.Mathlib.Omega.{arith}
use Rattle.book_find.proofs.find_plan.Goals as goal

pub find_key-requires : goal.find_key-requires
find_key-requires c = let p = c.requires in record { width_in_bounds = (p.plan_wide_in_bounds.0, omega arith, p.plan_wide_in_bounds.1); bytes_value = p.book_value }

pub returns : goal.returns
returns c = c.find_key.ensures
