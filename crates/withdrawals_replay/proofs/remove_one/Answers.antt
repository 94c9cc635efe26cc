use mathlib.Core.Path.{sym}
use Rattle.lists.proofs.RowLaws.{length-rows_of}
use Rattle.lists.proofs.StoreLaws.{store_same}
use Rattle.passage.specs.Layout.{row_wide}
use Rattle.withdrawals_replay.proofs.TableLaws.{has_one, has-none, key-lies}
use Rattle.withdrawals_replay.proofs.remove_one.Goals as goal

pub returns-then-slots-at-eq1 : goal.returns-then-slots-at-eq1
returns-then-slots-at-eq1 c =
    let a = c.args in
    record {
      value = rw (has_one a.at a.slots.now c.if-slots-at-eq1.true) (sym (length-rows_of row_wide a.count a.table.now));
      table_after = rw (has_one a.at a.slots.now c.if-slots-at-eq1.true) (sym (store_same row_wide a.count a.table.now));
    }

pub returns : goal.returns
returns c =
    let a = c.args in
    record {
      value = rw (has-none a.at a.slots.now c.if-slots-at-eq1.false, key-lies a.at a.slots.now) c.remove_key.ensures.value;
      table_after = rw (has-none a.at a.slots.now c.if-slots-at-eq1.false, key-lies a.at a.slots.now) c.remove_key.ensures.table_after;
    }
