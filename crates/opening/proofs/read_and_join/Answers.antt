-- `read_and_join` meets its contract. Assumes nothing.
use mathlib.Core.Path.{◌≡◌, sym, ap, ◌∙◌}
use mathlib.Core.List.{List, []}
use Prim.Native.Nat.{ℕ, ◌*◌, ◌≤◌}
use native.Mathlib.Omega.{arith}
use lib.ListN.{length}
use Rattle.std.specs.Prelude.{Ok}
use Rattle.lists.proofs.AreaLaws.{room_for}
use Rattle.lists.specs.Rows.{rows_of}
use Rattle.columns.specs.declared.Table.TheVariants as Tables
use Rattle.reader.specs.Rules.{reading_of}
use Rattle.reader.specs.Passes.{pass_wide, validity_wide}
use Rattle.reader.proofs.AnswerLaws.{calendar-few}
use Rattle.calls.specs.inner.Steps.{passed_of}
use Rattle.calls.proofs.LeavesLaws.{passed_on}
use Rattle.opening.proofs.StageLaws.{calendar-refused, calendar-taken}
use Rattle.opening.proofs.read_and_join.Goals as goal

pub join_fitting-requires : goal.join_fitting-requires
join_fitting-requires c =
    let rows : reading_of Tables.Calendar [] 0 c.args.calendar.now ≡ Ok c.in-Ok.days = passed_on 2 _ _ (sym (c.passed.ensures ∙ ap (passed_of 2) c.read_calendar-reading.ensures.answer) ∙ c.in-Ok.is) in
    let fits : c.in-Ok.days * validity_wide ≤ length c.args.validities.now = c.requires.holds_validities _ rows in
    let r = c.read_calendar-reading in
    (c.requires.pass_wide_in_bounds.0, room_for _ (length c.args.validities.now) r.new.staging (omega arith) fits, c.requires.pass_wide_in_bounds.1, (calendar-few c.args.calendar.now _ rows).1)

pub returns-in-Ok : goal.returns-in-Ok
returns-in-Ok c =
    let rows : reading_of Tables.Calendar [] 0 c.args.calendar.now ≡ Ok c.in-Ok.days = passed_on 2 _ _ (sym (c.passed.ensures ∙ ap (passed_of 2) c.read_calendar-reading.ensures.answer) ∙ c.in-Ok.is) in
    let fits : c.in-Ok.days * validity_wide ≤ length c.args.validities.now = c.requires.holds_validities _ rows in
    let ps : List (List ℕ) = rows_of pass_wide c.args.times c.args.passes.now in
    let r = c.read_calendar-reading in
    let a = c.args in
    calendar-taken a.calendar.now ps a.book.now a.table.now a.counts c.join_fitting.result c.join_fitting.new.book c.join_fitting.new.table a.validities.now r.new.staging c.in-Ok.days rows r.ensures.area fits c.join_fitting.ensures

pub returns-in-Err : goal.returns-in-Err
returns-in-Err c =
    let ps : List (List ℕ) = rows_of pass_wide c.args.times c.args.passes.now in
    let a = c.args in
    calendar-refused a.calendar.now ps a.book.now a.table.now a.counts _ (sym (c.passed.ensures ∙ ap (passed_of 2) c.read_calendar-reading.ensures.answer) ∙ c.in-Err.is) c.unchanged.result c.unchanged.ensures
