-- Rows removed and put one after another: what a caller carries through a run of `remove_key` and then of rows put by their keys. Assumes nothing.
use mathlib.Core.Path.{◌≡◌, sym, ap, ◌∙◌}
use mathlib.Core.Bool.{true}
use mathlib.Core.List.{List, [], ◌∷◌}
use Prim.Native.Nat.{ℕ, ◌*◌, ◌≤◌}
use native.Mathlib.Nat.{mul-le-mul_right, le_trans}
use native.Mathlib.Omega.{arith}
use lib.ListN.{length}
use Rattle.lists.specs.Rows.{Wide, store}
use Rattle.lists.proofs.RowLaws.{length-rows_of}
use Rattle.lists.proofs.WideLaws.{wide-rows_of}
use Rattle.lists.proofs.StoreLaws.{store_same, rows_of-store, length-store}
use Rattle.passage.specs.Layout.{row_wide}
use Rattle.keys.specs.Sorted.{sorted_rows, put, remove}
use Rattle.keys.proofs.PutLaws.{sorted-put, sorted-remove}
use Rattle.keys.proofs.EqualLaws.{Filled}
use Rattle.keys.proofs.CountLaws.{put-least, remove-most, wide-put, wide-remove}
use Rattle.table.specs.Rules.{rows}
use Rattle.table.proofs.StoreTwiceLaws.{store-comes, store-leaves}

-- rows of the table's width are not empty
pub wide-filled : (rs : List (List ℕ)) → Wide row_wide rs → Filled rs
wide-filled [] h = tt
wide-filled (r ∷ rs) h = let e = h.0 in (omega arith, wide-filled rs h.1)

-- t, of c rows, holds the rows rs; it was t₀, of n rows
pub record Holds (n : ℕ) (t₀ : List ℕ) (c : ℕ) (t : List ℕ) (rs : List (List ℕ)) : Type 0 where
  pub count : c ≡ length rs
  pub stored : t ≡ store row_wide n rs t₀
  pub wide : Wide row_wide rs
  pub rises : sorted_rows rs ≡ true
  pub fits : length rs * row_wide ≤ length t₀

module _ (n : ℕ) (t₀ : List ℕ) where
  pub holds-start : n * row_wide ≤ length t₀ → sorted_rows (rows n t₀) ≡ true → Holds n t₀ n t₀ (rows n t₀)
  holds-start h s = record {
    count = sym (length-rows_of row_wide n t₀);
    stored = sym (store_same row_wide n t₀);
    wide = wide-rows_of row_wide n t₀ h;
    rises = s;
    fits = rw (length-rows_of row_wide n t₀) h;
  }

module _ (n : ℕ) (t₀ : List ℕ) (c : ℕ) (t : List ℕ) (rs : List (List ℕ)) (h : Holds n t₀ c t rs) where
  pub holds-length : length t ≡ length t₀
  holds-length = ap length h.stored ∙ length-store row_wide n rs t₀

  pub holds_rows : rows c t ≡ rs
  holds_rows = rw (h.count, h.stored) (rows_of-store row_wide n rs t₀ h.wide h.fits)

  -- what a call asks
  pub holds_fits : c * row_wide ≤ length t
  holds_fits = rw (holds-length, h.count) h.fits

  pub holds-sorted : sorted_rows (rows c t) ≡ true
  holds-sorted = rw holds_rows h.rises

  pub holds-room : (r : List ℕ) → length (put r rs) * row_wide ≤ length t₀ → length (put r (rows c t)) * row_wide ≤ length t
  holds-room r f = rw (holds_rows, holds-length) f

  -- a store of more rows, or after rows that only left
  then-comes : (qs : List (List ℕ)) → Wide row_wide qs → length rs ≤ length qs → store row_wide c qs t ≡ store row_wide n qs t₀
  then-comes qs w l = rw (h.count, h.stored) (store-comes row_wide n rs qs t₀ h.wide w l)

  then-leaves : (qs : List (List ℕ)) → Wide row_wide qs → length rs ≤ n → store row_wide c qs t ≡ store row_wide n qs t₀
  then-leaves qs w l = rw (h.count, h.stored) (store-leaves row_wide n rs qs t₀ h.wide w l)

  -- after a row is put by its key: d and u are the count and the bytes
  pub holds-put : (r : List ℕ) (d : ℕ) (u : List ℕ) → length r ≡ row_wide → length (put r rs) * row_wide ≤ length t₀
      → d ≡ length (put r (rows c t)) → u ≡ store row_wide c (put r (rows c t)) t → Holds n t₀ d u (put r rs)
  holds-put r d u l f e g =
      let w = wide-put row_wide r rs l h.wide in
      record {
        count = rw holds_rows at e;
        stored = rw holds_rows at g ∙ then-comes (put r rs) w (put-least r rs);
        wide = w;
        rises = sorted-put r rs h.rises;
        fits = f;
      }

  -- after remove_key, as long as no row was put before
  pub holds-remove : (k : List ℕ) (d : ℕ) (u : List ℕ) → length rs ≤ n
      → d ≡ length (remove k (rows c t)) → u ≡ store row_wide c (remove k (rows c t)) t → Holds n t₀ d u (remove k rs)
  holds-remove k d u l e g =
      let w = wide-remove row_wide k rs h.wide in
      record {
        count = rw holds_rows at e;
        stored = rw holds_rows at g ∙ then-leaves (remove k rs) w l;
        wide = w;
        rises = sorted-remove k rs h.rises;
        fits = le_trans (mul-le-mul_right row_wide (remove-most k rs)) h.fits;
      }
