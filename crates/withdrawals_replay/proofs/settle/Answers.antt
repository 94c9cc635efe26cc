use Rattle.withdrawals_replay.proofs.SettleLaws.{left-fits, left-sorted, puts-fit, puts-count, puts-stored}
use Rattle.withdrawals_replay.proofs.settle.Goals as goal

pub put_all-requires : goal.put_all-requires
put_all-requires c =
    let a = c.args in
    let p = c.requires in
    let gone = c.remove_all-left.ensures in
    record {
      row_wide_in_bounds = (
        left-fits a.count a.table.now a.named a.slots.now p.row_wide_in_bounds.0 p.row_wide_in_bounds.1 p.table_value _ _ gone.value gone.table_after,
        p.row_wide_in_bounds.1,
        puts-fit a.count a.table.now a.named a.slots.now p.row_wide_in_bounds.0 p.row_wide_in_bounds.1 p.table_value _ _ gone.value gone.table_after p.row_wide_in_bounds.2,
      );
      table_value =
          left-sorted a.count a.table.now a.named a.slots.now p.row_wide_in_bounds.0 p.row_wide_in_bounds.1 p.table_value _ _ gone.value gone.table_after;
    }

pub returns : goal.returns
returns c =
    let a = c.args in
    let p = c.requires in
    let gone = c.remove_all-left.ensures in
    let put = c.put_all in
    record {
      value =
          puts-count a.count a.table.now a.named a.slots.now p.row_wide_in_bounds.0 p.row_wide_in_bounds.1 p.table_value _ _ gone.value gone.table_after put.result put.ensures.value;
      table_after =
          puts-stored a.count a.table.now a.named a.slots.now p.row_wide_in_bounds.0 p.row_wide_in_bounds.1 p.table_value _ _ gone.value gone.table_after _ put.ensures.table_after;
    }
