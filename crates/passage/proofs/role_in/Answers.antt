use mathlib.Core.Path.{refl}
use mathlib.Core.Bool.{Bool, not, ◌&&◌}
use Prim.Native.Nat.{◌+◌}
use native.Mathlib.Omega.{arith}
use lib.Dec.{eqb, leb, ltb}
use Rattle.lists.proofs.LogicLaws.{bool-most}
use Rattle.passage.specs.Layout.{text_wide}
use Rattle.passage.specs.inner.Roles.{role_in}
use Rattle.passage.proofs.RoleLaws.{role-most}
use Rattle.passage.proofs.role_in.Goals as goal

pub overflow_add-result : goal.overflow_add-result
overflow_add-result c =
    let i = c.args.i in
    let from = c.args.from in
    let inside : Bool = leb from i && ltb i (from + text_wide) in
    omega (arith, bool-most inside, bool-most (inside && not (eqb i from)))

pub overflow_add-result-4 : goal.overflow_add-result-4
overflow_add-result-4 c =
    let i = c.args.i in
    let from = c.args.from in
    let inside : Bool = leb from i && ltb i (from + text_wide) in
    omega (arith, bool-most inside, bool-most (inside && not (eqb i from)), bool-most (eqb (i + 1) (from + text_wide)))

pub returns : goal.returns
unfolding role_in
returns c = record { is = refl; few = role-most c.args.from c.args.i }
