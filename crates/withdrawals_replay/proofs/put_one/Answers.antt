use mathlib.Core.Path.{sym}
use Rattle.lists.proofs.RowLaws.{length-rows_of}
use Rattle.lists.proofs.StoreLaws.{store_same}
use Rattle.passage.specs.Layout.{row_wide}
use Rattle.withdrawals_replay.proofs.TableLaws.{has_one, has-none, row-lent, row-lent-length}
use Rattle.withdrawals_replay.proofs.put_one.Goals as goal

pub put_near-requires : goal.put_near-requires
put_near-requires c =
    let a = c.args in
    record {
      row_wide_in_bounds = rw (row-lent a.at a.slots.now) (c.requires.row_wide_in_bounds.0, rw (has_one a.at a.slots.now c.if-slots-at-eq1.true) at c.requires.row_wide_in_bounds.2, row-lent-length a.at a.slots.now c.requires.row_wide_in_bounds.1);
      table_value = c.requires.table_value;
    }

pub returns-then-slots-at-eq1 : goal.returns-then-slots-at-eq1
returns-then-slots-at-eq1 c =
    let a = c.args in
    record {
      value = rw (has_one a.at a.slots.now c.if-slots-at-eq1.true) (rw (row-lent a.at a.slots.now) at c.put_near.ensures.value);
      table_after = rw (has_one a.at a.slots.now c.if-slots-at-eq1.true) (rw (row-lent a.at a.slots.now) at c.put_near.ensures.table_after);
    }

pub returns : goal.returns
returns c =
    let a = c.args in
    record {
      value = rw (has-none a.at a.slots.now c.if-slots-at-eq1.false) (sym (length-rows_of row_wide a.count a.table.now));
      table_after = rw (has-none a.at a.slots.now c.if-slots-at-eq1.false) (sym (store_same row_wide a.count a.table.now));
    }
