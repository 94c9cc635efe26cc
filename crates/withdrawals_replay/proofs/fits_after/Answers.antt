use mathlib.Core.Path.{◌∙◌}
use Prim.Native.Nat.{◌+◌}
use native.Mathlib.Omega.{arith}
use borrow.Author.Tests.{le-leb}
use Rattle.table.proofs.SoundLaws.{room_most}
use Rattle.withdrawals_replay.proofs.TableLaws.{all_fit}
use Rattle.withdrawals_replay.proofs.fits_after.Goals as goal

pub returns-then-count-named : goal.returns-then-count-named
returns-then-count-named c =
    let a = c.args in
    let e = c.rows_room-most.ensures in
    le-leb (a.count + a.named) c.rows_room-most.result c.if-count-named.true ∙ all_fit a.count a.named _ a.table.now a.slots.now (rw (← e) c.if-count-named.true)

pub overflow_add-result : goal.overflow_add-result
overflow_add-result c =
    let r = room_most c.args.table.now in
    omega arith

pub returns-else-count-named : goal.returns-else-count-named
returns-else-count-named c = rw (c.count_after.ensures, c.rows_room-most.ensures)
