-- The moves of bytes that put a row in and take one out, as `store`. Assumes nothing.
use mathlib.Core.Path.{◌≡◌, ap, ◌∙◌}
use mathlib.Core.List.{List}
use Prim.Native.Nat.{ℕ, suc, ◌+◌, ◌*◌, ◌-◌, ◌≤◌, ◌<◌}
use native.Mathlib.Omega.{arith}
use lib.ListN.{length, replicate}
use Rattle.lists.specs.Part.{part, over}
use Rattle.lists.specs.Rows.{insert_at, remove_at, store}
use Rattle.lists.proofs.RowWriteLaws.{store-insert, store-remove}
use Rattle.passage.specs.Layout.{row_wide}
use Rattle.table.specs.Rules.{rows}

module _ (n i : ℕ) (t u : List ℕ) (fits : n * row_wide ≤ length t) where
  -- u is t with the rows from i on moved up by a row
  pub move_in : (r : List ℕ) → length r ≡ row_wide → i ≤ n → u ≡ over (i * row_wide + row_wide) (part (i * row_wide) (n * row_wide - i * row_wide) t) t
      → over (i * row_wide) r u ≡ store row_wide n (insert_at i r (rows n t)) t
  move_in r l h e =
      let m : n * row_wide - i * row_wide ≡ (n - i) * row_wide = omega arith in
      ap (over (i * row_wide) r) (e ∙ ap (λ (k : ℕ). over (i * row_wide + row_wide) (part (i * row_wide) k t) t) m) ∙ store-insert row_wide n i t fits r l h

  -- u is t with the rows behind i moved down by a row
  pub move-out : i < n → u ≡ over (i * row_wide) (part (i * row_wide + row_wide) ((n - 1 - i) * row_wide) t) t
      → over (i * row_wide + (n - 1 - i) * row_wide) (replicate row_wide 0) u ≡ store row_wide n (remove_at i (rows n t)) t
  move-out h e =
      let m : n - 1 - i ≡ n - suc i = omega arith in
      rw (e, m) (store-remove row_wide n i t fits h)
