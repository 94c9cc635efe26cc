use mathlib.Core.Path.{◌∙◌}
use Prim.Native.Nat.{◌-◌}
use borrow.Author.Tests.{le-leb}
use Rattle.messages_take.proofs.AbsentLaws.{few-fit}
use Rattle.messages_take.proofs.fits_with.Goals as goal

pub returns-then-missing-most : goal.returns-then-missing-most
returns-then-missing-most c =
    let a = c.args in
    le-leb a.missing (a.most - a.count) c.if-missing-most.true
    ∙ few-fit a.bodies.now a.table.now a.count a.updates a.most a.missing c.requires.row_wide_in_bounds.1 c.requires.row_wide_in_bounds.2 c.requires.missing_value c.if-missing-most.true
