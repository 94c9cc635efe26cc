-- Rows of any width in bytes, told from their keys on: their keys, a search among them, and that a search looks at keys alone. Assumes nothing.
use mathlib.Core.Path.{◌≡◌, refl, ap, ◌∙◌}
use mathlib.Core.List.{List, [], ◌∷◌, map}
use Prim.Native.Nat.{ℕ, zero, suc, ◌+◌, ◌*◌, ◌-◌, ◌≤◌, ◌<◌}
use native.Mathlib.Nat.{add-zero, le_of_suc-le-suc, not-suc-le-zero}
use native.Mathlib.Omega.{arith}
use lib.ListN.{length, get_or, length-map}
use Rattle.lists.specs.Part.{part}
use Rattle.lists.specs.Rows.{rows_of}
use Rattle.lists.proofs.PartLaws.{part-part}
use Rattle.lists.proofs.RowLaws.{length-rows_of, row-at}
use Rattle.passage.specs.Layout.{key_wide, key_of}
use Rattle.std.specs.Prelude.{Result, Ok, Err}
use Rattle.keys.specs.Keys.{cmp, by_order}
use Rattle.keys.specs.Sorted.{lookup_from, lookup}

pub get_d_map : (f : List ℕ → List ℕ) (l : List (List ℕ)) (i : ℕ) → i < length l → get_or (map f l) i [] ≡ f (get_or l i [])
get_d_map f [] i h = absurd (not-suc-le-zero h)
get_d_map f (x ∷ l) zero h = refl
get_d_map f (x ∷ l) (suc i) h = get_d_map f l i (le_of_suc-le-suc h)

-- the n rows of w bytes, each from its key on
module _ (w off n : ℕ) (s : List ℕ) where
  abbrev pub keyed : List (List ℕ)
  keyed = map (part off (w - off)) (rows_of w n s)

  pub key_here : (j : ℕ) → off + key_wide ≤ w → key_of (part off (w - off) (part (j * w) w s)) ≡ part (j * w + off) key_wide s
  key_here j k = part-part 0 key_wide off (w - off) (part (j * w) w s) (omega arith) ∙ rw add-zero (part-part off key_wide (j * w) w s k)

  pub key-keyed : (i : ℕ) → i < n → off + key_wide ≤ w → key_of (get_or keyed i []) ≡ part (i * w + off) key_wide s
  key-keyed i h k =
      let l : i < length (rows_of w n s) = rw (length-rows_of w n s) h in
      ap key_of (get_d_map (part off (w - off)) (rows_of w n s) i l ∙ ap (part off (w - off)) (row-at w n i s h)) ∙ key_here i k

  pub length-keyed : length keyed ≡ n
  length-keyed = length-map (rows_of w n s) (part off (w - off)) ∙ length-rows_of w n s

-- ---- a search looks at keys alone

module _ (f : List ℕ → List ℕ) (same : (r : List ℕ) → key_of (f r) ≡ key_of r) (k : List ℕ) where
  from-keys : (i : ℕ) (rs : List (List ℕ)) → lookup_from i k (map f rs) ≡ lookup_from i k rs
  unfolding lookup_from
  from-keys i [] = refl
  from-keys i (r ∷ rs) = rw (same r) (ap (λ (g : Result ℕ ℕ). by_order (cmp (key_of r) k) g (Ok i) (Err i)) (from-keys (suc i) rs))

  pub lookup-keys : (rs : List (List ℕ)) → lookup k (map f rs) ≡ lookup k rs
  unfolding lookup
  lookup-keys rs = from-keys 0 rs
