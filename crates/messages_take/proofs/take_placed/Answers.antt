use Prim.Native.Nat.{◌+◌, ◌*◌, ◌≤◌}
use native.Mathlib.Omega.{arith}
use lib.ListN.{length}
use Rattle.lists.specs.Rows.{rows_of}
use Rattle.passage.specs.Layout.{body_wide, row_wide}
use Rattle.messages_take.proofs.LoopLaws.{after, after-rises, taking-start, taking-end, taking-asked, taking-next}
use Rattle.messages_take.proofs.take_placed.Goals as goal

pub loop-taken-init : goal.loop-taken-init
loop-taken-init c = taking-start c.args.bodies.now c.args.table.now c.args.count c.requires.row_wide_in_bounds.0

pub take_near-held-requires : goal.take_near-held-requires
take_near-held-requires c =
    let l = c.loop-taken in
    let a = c.args in
    let there : l.taken * body_wide + body_wide ≤ length a.bodies.now = omega arith in
    let room : length (after a.bodies.now (rows_of row_wide a.count a.table.now) (l.taken + 1)) * row_wide ≤ length a.table.now =
    omega (arith, after-rises a.bodies.now (rows_of row_wide a.count a.table.now) (l.taken + 1) a.updates (omega arith), c.requires.row_wide_in_bounds_2) in
    let t = taking-asked a.bodies.now a.table.now a.count c.requires.row_wide_in_bounds.0 l.taken l.held l.table l.invariant there room c.requires.table_value in
    record { row_wide_in_bounds = t.0; table_value = t.1.0; row_wide_in_bounds_2 = t.1.1 }

pub loop-taken-preserved : goal.loop-taken-preserved
loop-taken-preserved c =
    let l = c.loop-taken in
    let a = c.args in
    let row = c.take_near-held in
    let there : l.taken * body_wide + body_wide ≤ length a.bodies.now = omega arith in
    let room : length (after a.bodies.now (rows_of row_wide a.count a.table.now) (l.taken + 1)) * row_wide ≤ length a.table.now =
    omega (arith, after-rises a.bodies.now (rows_of row_wide a.count a.table.now) (l.taken + 1) a.updates (omega arith), c.requires.row_wide_in_bounds_2) in
    taking-next a.bodies.now a.table.now a.count c.requires.row_wide_in_bounds.0 l.taken l.held l.table l.invariant there room row.result row.new.table row.ensures.value row.ensures.table_after

pub returns : goal.returns
returns c =
    let l = c.loop-taken in
    let t = taking-end c.args.bodies.now c.args.table.now c.args.count c.requires.row_wide_in_bounds.0 l.taken c.args.updates l.held l.table (omega arith) l.invariant in record { value = t.0; table_after = t.1 }
