use mathlib.Core.Path.{refl, sym, ◌∙◌}
use Prim.Native.Nat.{◌+◌, ◌-◌, ◌*◌, ◌≤◌}
use native.Mathlib.Omega.{arith}
use borrow.Author.Rules.{rules}
use lib.ListN.{length, length-set}
use Rattle.lists.specs.Rows.{rows_of}
use Rattle.passage.specs.Layout.{body_wide, row_wide}
use Rattle.messages_take.proofs.AbsentLaws.{held-there, new-lacks, looked-start, looked-held, looked-new, looked-end}
use Rattle.messages_take.proofs.locate_all.Goals.{in-Ok, in-Err}
use Rattle.messages_take.proofs.locate_all.Goals as goal

pub loop-k-init : goal.loop-k-init
loop-k-init c =
    let a = c.args in
    (refl, looked-start (rows_of row_wide a.count a.table.now) a.updates a.bodies.now)

pub find-requires : goal.find-requires
find-requires c =
    record { row_wide_in_bounds = (c.requires.row_wide_in_bounds.0, omega arith); table_value = c.requires.table_value }

pub overflow_add-missing : goal.overflow_add-missing
overflow_add-missing c =
    let l = c.loop-k in
    let h = l.invariant.1.small in
    search rules

pub loop-k-preserved : goal.loop-k-preserved
loop-k-preserved c =
    let a = c.args in
    let l = c.loop-k in
    let rs = rows_of row_wide a.count a.table.now in
    let there : l.k * body_wide + body_wide ≤ length a.bodies.now = omega arith in
    elim c.match-find.branch [
      | in-Ok w ↦
          let got = held-there a.table.now a.bodies.now a.count (l.k * body_wide) _ c.requires.row_wide_in_bounds.0 there (sym c.find.ensures ∙ w.in-Ok.is) in
          rw (w.places-is, w.missing-is) (length-set l.places l.k w.in-Ok.place ∙ l.invariant.0, looked-held rs a.updates a.bodies.now l.k l.missing c.loop-k-test.true l.invariant.1 got)
      | in-Err w ↦
          let got = new-lacks a.table.now a.bodies.now a.count (l.k * body_wide) _ c.requires.row_wide_in_bounds.0 there (sym c.find.ensures ∙ w.in-Err.is) in
          rw (w.places-is, w.missing-is) (length-set l.places l.k w.in-Err.place ∙ l.invariant.0, looked-new rs a.updates a.bodies.now l.k l.missing c.loop-k-test.true l.invariant.1 got)
    ]

pub returns : goal.returns
returns c =
    let a = c.args in
    let l = c.loop-k in
    looked-end (rows_of row_wide a.count a.table.now) a.updates a.bodies.now l.k l.missing c.loop-k-test.false l.invariant.1
