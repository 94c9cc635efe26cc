-- `open_by` meets its contract. Assumes nothing.
use mathlib.Core.Path.{◌≡◌, sym, ap, ◌∙◌}
use mathlib.Core.List.{[]}
use Prim.Native.Nat.{◌*◌, ◌≤◌}
use native.Mathlib.Omega.{arith}
use lib.ListN.{length}
use Rattle.std.specs.Prelude.{Ok}
use Rattle.lists.proofs.AreaLaws.{room_for}
use Rattle.columns.specs.declared.Table.TheVariants as Tables
use Rattle.reader.specs.Rules.{reading_of}
use Rattle.reader.specs.Passes.{pass_wide}
use Rattle.reader.proofs.AnswerLaws.{planning-few}
use Rattle.calls.specs.inner.Steps.{passed_of}
use Rattle.calls.proofs.LeavesLaws.{passed_on}
use Rattle.opening.proofs.StageLaws.{planning-refused, planning-taken}
use Rattle.opening.proofs.open_by.Goals as goal

pub read_and_join-requires : goal.read_and_join-requires
read_and_join-requires c =
    let rows : reading_of Tables.Planning [] 0 c.args.planning.now ≡ Ok c.in-Ok.times = passed_on 1 _ _ (sym (c.passed.ensures ∙ ap (passed_of 1) c.read_planning-reading.ensures.answer) ∙ c.in-Ok.is) in
    let fits : c.in-Ok.times * pass_wide ≤ length c.args.passes.now = c.requires.holds_passes _ rows in
    let r = c.read_planning-reading in
    record { pass_wide_in_bounds = (room_for _ (length c.args.passes.now) r.new.staging (omega arith) fits, (planning-few c.args.planning.now _ rows).1); holds_validities = c.requires.holds_validities }

pub returns-in-Ok : goal.returns-in-Ok
returns-in-Ok c =
    let rows : reading_of Tables.Planning [] 0 c.args.planning.now ≡ Ok c.in-Ok.times = passed_on 1 _ _ (sym (c.passed.ensures ∙ ap (passed_of 1) c.read_planning-reading.ensures.answer) ∙ c.in-Ok.is) in
    let fits : c.in-Ok.times * pass_wide ≤ length c.args.passes.now = c.requires.holds_passes _ rows in
    let r = c.read_planning-reading in
    let a = c.args in
    planning-taken a.planning.now a.calendar.now a.book.now a.table.now a.counts c.read_and_join.result c.read_and_join.new.book c.read_and_join.new.table a.passes.now r.new.staging c.in-Ok.times rows r.ensures.area fits c.read_and_join.ensures

pub returns-in-Err : goal.returns-in-Err
returns-in-Err c =
    let a = c.args in
    planning-refused a.planning.now a.calendar.now a.book.now a.table.now a.counts _ (sym (c.passed.ensures ∙ ap (passed_of 1) c.read_planning-reading.ensures.answer) ∙ c.in-Err.is) c.unchanged.result c.unchanged.ensures
