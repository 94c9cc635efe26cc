-- Rows leave, then rows come: one store of the settled rows. Assumes nothing.
use mathlib.Core.Path.{◌≡◌, ap, ◌∙◌}
use mathlib.Core.Bool.{Bool, true, false}
use mathlib.Core.List.{List, [], ◌∷◌}
use Prim.Native.Nat.{ℕ, ◌*◌, ◌≤◌}
use native.Mathlib.Nat.{le_refl, le_trans, mul-le-mul_right}
use native.Mathlib.Omega.{arith}
use lib.ListN.{length}
use Rattle.lists.specs.Logic.{on}
use Rattle.lists.specs.Part.{part}
use Rattle.lists.specs.Rows.{store, Wide}
use Rattle.lists.proofs.PartLaws.{length_part}
use Rattle.lists.proofs.RowLaws.{length-rows_of}
use Rattle.lists.proofs.WideLaws.{wide-rows_of}
use Rattle.passage.specs.Layout.{row_wide}
use Rattle.keys.specs.Sorted.{sorted_rows, put, remove}
use Rattle.keys.proofs.PutLaws.{sorted-remove}
use Rattle.keys.proofs.CountLaws.{wide-put, wide-remove}
use Rattle.table.specs.Rules.{rows}
use Rattle.table.proofs.RunLaws.{Holds, holds_rows, holds_fits, holds-sorted, holds-length}
use Rattle.table.proofs.StoreTwiceLaws.{store-comes}
use Rattle.withdrawals_replay.specs.inner.Slots.{slot_wide, slots_of, has_row, slot_key, remove_one, removals, put_one, puts, settled}
use Rattle.withdrawals_replay.proofs.TableLaws.{remove-least, puts-least}

-- ---- removals and puts keep rows whole and sorted

removals-hold : (ss rs : List (List ℕ)) → Wide row_wide rs → sorted_rows rs ≡ true
    → Wide row_wide (removals ss rs) × (sorted_rows (removals ss rs) ≡ true) × (length (removals ss rs) ≤ length rs)
unfolding removals
removals-hold [] rs w s = (w, s, le_refl (length rs))
removals-hold (x ∷ ss) rs w s =
    let one = go (has_row x) in
    let r = removals-hold ss (remove_one x rs) one.0 one.1 in
    (r.0, r.1, le_trans r.2 (remove-least x rs))
  where
    go : (t : Bool) → Wide row_wide (on t rs (remove (slot_key x) rs)) × (sorted_rows (on t rs (remove (slot_key x) rs)) ≡ true)
    go true = (w, s)
    go false = (wide-remove row_wide (slot_key x) rs w, sorted-remove (slot_key x) rs s)

puts-wide : (ss rs : List (List ℕ)) → Wide slot_wide ss → Wide row_wide rs → Wide row_wide (puts ss rs)
unfolding puts
puts-wide [] rs h w = w
puts-wide (x ∷ ss) rs h w = puts-wide ss (put_one x rs) h.1 (go (has_row x))
  where
    go : (t : Bool) → Wide row_wide (on t (put (part 1 row_wide x) rs) rs)
    go true = let l = h.0 in wide-put row_wide (part 1 row_wide x) rs (length_part 1 row_wide x (omega arith)) w
    go false = w

-- ---- the rows that are left, in the table's bytes

module _ (n : ℕ) (t : List ℕ) (c : ℕ) (s : List ℕ) (fits : n * row_wide ≤ length t) (there : c * slot_wide ≤ length s) (rises : sorted_rows (rows n t) ≡ true) where
  abbrev ss : List (List ℕ)
  ss = slots_of c s

  abbrev gone : List (List ℕ)
  gone = removals ss (rows n t)

  module _ (left : ℕ) (u : List ℕ) (lefts : left ≡ length gone) (stored : u ≡ store row_wide n gone t) where
    held : Holds n t left u gone
    held =
        let h = removals-hold ss (rows n t) (wide-rows_of row_wide n t fits) rises in
        let l = length-rows_of row_wide n t in
        record {
          count = lefts;
          stored = stored;
          wide = h.0;
          rises = h.1;
          fits = le_trans (mul-le-mul_right row_wide h.2) (rw l fits);
        }

    pub left-fits : left * row_wide ≤ length u
    left-fits = holds_fits n t left u gone held

    pub left-sorted : sorted_rows (rows left u) ≡ true
    left-sorted = holds-sorted n t left u gone held

    puts-are : puts ss (rows left u) ≡ settled ss (rows n t)
    puts-are = ap (puts ss) (holds_rows n t left u gone held)

    pub puts-fit : length (settled ss (rows n t)) * row_wide ≤ length t → length (puts ss (rows left u)) * row_wide ≤ length u
    puts-fit h = rw (puts-are, holds-length n t left u gone held) h

    pub puts-count : (d : ℕ) → d ≡ length (puts ss (rows left u)) → d ≡ length (settled ss (rows n t))
    puts-count d e = e ∙ ap length puts-are

    pub puts-stored : (v : List ℕ) → v ≡ store row_wide left (puts ss (rows left u)) u → v ≡ store row_wide n (settled ss (rows n t)) t
    puts-stored v e =
        let w : Wide row_wide (settled ss (rows n t)) = puts-wide ss gone (wide-rows_of slot_wide c s there) held.wide in
        e ∙ ap (λ (qs : List (List ℕ)). store row_wide left qs u) puts-are ∙ rw (lefts, stored) (store-comes row_wide n gone (settled ss (rows n t)) t held.wide w (puts-least ss gone))
