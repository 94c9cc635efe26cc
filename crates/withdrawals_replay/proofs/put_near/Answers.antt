use mathlib.Core.Path.{◌≡◌, sym, ap, ◌∙◌}
use Prim.Native.Nat.{◌+◌}
use lib.ListN.{length, length-set}
use Rattle.lists.proofs.RowLaws.{length-rows_of}
use Rattle.lists.proofs.RowWriteLaws.{length-insert_at}
use Rattle.passage.specs.Layout.{key_of, row_wide}
use Rattle.std.specs.Prelude.{Ok, Err}
use Rattle.keys.specs.Sorted.{lookup, put}
use Rattle.keys.proofs.PutLaws.{put-at, found_below, missing-within}
use Rattle.table.specs.Rules.{rows}
use borrow.Author.Rules.{rules}
use Rattle.withdrawals_replay.proofs.put_near.Goals as goal

pub overflow_add-near : goal.overflow_add-near
overflow_add-near c =
    let found : let s = c.args in lookup (key_of s.row.now) (rows s.count s.table.now) ≡ Ok c.in-Ok.place = sym c.find_near-f.ensures ∙ c.in-Ok.is in
    let a = c.args in
    let h = found_below row_wide a.count _ (key_of a.row.now) a.table.now found in
    search rules

pub replace_row-requires : goal.replace_row-requires
replace_row-requires c =
    let found : let s = c.args in lookup (key_of s.row.now) (rows s.count s.table.now) ≡ Ok c.in-Ok.place = sym c.find_near-f.ensures ∙ c.in-Ok.is in
    (found_below row_wide c.args.count _ (key_of c.args.row.now) c.args.table.now found, c.requires.row_wide_in_bounds.0, c.requires.row_wide_in_bounds.2)

pub overflow_add-near-in-Err : goal.overflow_add-near-in-Err
overflow_add-near-in-Err c =
    let absent : let s = c.args in lookup (key_of s.row.now) (rows s.count s.table.now) ≡ Err c.in-Err.place = sym c.find_near-f.ensures ∙ c.in-Err.is in
    let a = c.args in
    let h = missing-within row_wide a.count _ (key_of a.row.now) a.table.now absent in
    search rules

pub insert_row-requires : goal.insert_row-requires
insert_row-requires c =
    let absent : let s = c.args in lookup (key_of s.row.now) (rows s.count s.table.now) ≡ Err c.in-Err.place = sym c.find_near-f.ensures ∙ c.in-Err.is in
    let grown : let s = c.args in length (put s.row.now (rows s.count s.table.now)) ≡ s.count + 1 = let a = c.args in
    let i = c.in-Err.place in
    let h = missing-within row_wide a.count i (key_of a.row.now) a.table.now absent in
    ap length (put-at a.row.now (rows a.count a.table.now) (Err i) absent) ∙ length-insert_at row_wide a.count i a.table.now c.requires.row_wide_in_bounds.0 a.row.now h in
    let l = grown in
    (missing-within row_wide c.args.count _ (key_of c.args.row.now) c.args.table.now absent, rw l at c.requires.row_wide_in_bounds.1, c.requires.row_wide_in_bounds.2)

pub returns-in-Ok : goal.returns-in-Ok
returns-in-Ok c =
    let found : let s = c.args in lookup (key_of s.row.now) (rows s.count s.table.now) ≡ Ok c.in-Ok.place = sym c.find_near-f.ensures ∙ c.in-Ok.is in
    let e = put-at c.args.row.now (rows c.args.count c.args.table.now) _ found in
    record { value = rw (e, length-set, length-rows_of); table_after = rw e c.replace_row.ensures }

pub returns-in-Err : goal.returns-in-Err
returns-in-Err c =
    let absent : let s = c.args in lookup (key_of s.row.now) (rows s.count s.table.now) ≡ Err c.in-Err.place = sym c.find_near-f.ensures ∙ c.in-Err.is in
    let grown : let s = c.args in length (put s.row.now (rows s.count s.table.now)) ≡ s.count + 1 = let a = c.args in
    let i = c.in-Err.place in
    let h = missing-within row_wide a.count i (key_of a.row.now) a.table.now absent in
    ap length (put-at a.row.now (rows a.count a.table.now) (Err i) absent) ∙ length-insert_at row_wide a.count i a.table.now c.requires.row_wide_in_bounds.0 a.row.now h in
    let e = put-at c.args.row.now (rows c.args.count c.args.table.now) _ absent in
    record { value = sym grown; table_after = rw e c.insert_row.ensures }
