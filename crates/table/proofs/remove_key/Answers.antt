use mathlib.Core.Path.{◌≡◌, sym, ◌∙◌}
use Prim.Native.Nat.{ℕ, ◌<◌}
use native.Mathlib.Omega.{arith}
use mathlib.Core.List.{List}
use Rattle.lists.specs.Part.{part}
use Rattle.lists.proofs.RowLaws.{length-rows_of}
use Rattle.lists.proofs.StoreLaws.{store_same}
use Rattle.lists.proofs.RowWriteLaws.{length-remove_at}
use Rattle.passage.specs.Layout.{key_wide, row_wide}
use Rattle.std.specs.Prelude.{Ok}
use Rattle.keys.specs.Sorted.{lookup}
use Rattle.keys.proofs.PutLaws.{remove-at, found_below}
use Rattle.table.specs.Rules.{rows}
use Rattle.table.proofs.remove_key.Goals as goal

pub remove_row-requires : goal.remove_row-requires
remove_row-requires c =
    let key : List ℕ = part c.args.from key_wide c.args.key.now in
    let found : lookup key (rows c.args.count c.args.table.now) ≡ Ok c.in-Ok.i = sym c.find-f.ensures ∙ c.in-Ok.is in
    let below : c.in-Ok.i < c.args.count = found_below row_wide c.args.count _ key c.args.table.now found in
    (below, c.requires.row_wide_in_bounds.0)

pub overflow_sub-result : goal.overflow_sub-result
overflow_sub-result c =
    let key : List ℕ = part c.args.from key_wide c.args.key.now in
    let found : lookup key (rows c.args.count c.args.table.now) ≡ Ok c.in-Ok.i = sym c.find-f.ensures ∙ c.in-Ok.is in
    let below : c.in-Ok.i < c.args.count = found_below row_wide c.args.count _ key c.args.table.now found in
    omega (arith, below)

pub returns-in-Ok : goal.returns-in-Ok
returns-in-Ok c =
    let key : List ℕ = part c.args.from key_wide c.args.key.now in
    let found : lookup key (rows c.args.count c.args.table.now) ≡ Ok c.in-Ok.i = sym c.find-f.ensures ∙ c.in-Ok.is in
    let below : c.in-Ok.i < c.args.count = found_below row_wide c.args.count _ key c.args.table.now found in
    let e = remove-at key (rows c.args.count c.args.table.now) _ found in
    record { value = rw e (sym (length-remove_at row_wide c.args.count _ c.args.table.now c.requires.row_wide_in_bounds.0 below)); table_after = rw e c.remove_row.ensures }

pub returns-in-Err : goal.returns-in-Err
returns-in-Err c =
    let key : List ℕ = part c.args.from key_wide c.args.key.now in
    let e = remove-at key (rows c.args.count c.args.table.now) _ (sym c.find-f.ensures ∙ c.in-Err.is) in
    record { value = rw (e, length-rows_of); table_after = rw (e, store_same) }
