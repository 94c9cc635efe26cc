-- Keys that rise, in rows of any width in bytes. Assumes nothing.
use mathlib.Core.Path.{◌≡◌, refl, sym, ap}
use mathlib.Core.Bool.{true, ◌&&◌}
use mathlib.Core.List.{List, [], ◌∷◌, map}
use Prim.Native.Nat.{ℕ, zero, suc, ◌+◌, ◌*◌, ◌-◌, ◌≤◌, ◌<◌}
use native.Mathlib.Nat.{suc-mul}
use native.Mathlib.Omega.{arith}
use lib.ListN.{drop}
use Rattle.lists.specs.Part.{part}
use Rattle.lists.specs.Rows.{rows_of}
use Rattle.lists.proofs.RowLaws.{rows_of-step, rows_of-start}
use Rattle.passage.specs.Layout.{key_wide, key_of}
use Rattle.passage.proofs.StepLaws.{next_row}
use Rattle.keys.specs.Keys.{cmp}
use Rattle.keys.specs.Sorted.{is_less, rises_from, sorted_rows}
use Rattle.keys.proofs.StrideLaws.{key_here}

-- rows that are wider than nothing are no more than their bytes
pub count_fits : (w n : ℕ) → 1 ≤ w → n ≤ n * w
count_fits w zero h = omega arith
count_fits w (suc n) h = let k = count_fits w n h in rw suc-mul (omega arith)

few-rise : (f : List ℕ → List ℕ) (w m : ℕ) (t : List ℕ) → m ≤ 1 → sorted_rows (map f (rows_of w m t)) ≡ true
unfolding sorted_rows rises_from rows_of
few-rise f w zero t h = refl
few-rise f w (suc zero) t h = refl
few-rise f w (suc (suc m)) t h = absurd (omega arith)

-- what is left from row i on
module _ (w off n : ℕ) (s : List ℕ) where
  abbrev pub left : ℕ → List (List ℕ)
  left i = map (part off (w - off)) (rows_of w (n - i) (drop (i * w) s))

  pub rise-start : sorted_rows (left 0) ≡ sorted_rows (map (part off (w - off)) (rows_of w n s))
  rise-start = ap (λ (rs : List (List ℕ)). sorted_rows (map (part off (w - off)) rs)) (sym (rows_of-start w n s))

  pub rise-end : (i : ℕ) → n ≤ i + 1 → sorted_rows (left i) ≡ true
  rise-end i h = few-rise (part off (w - off)) w (n - i) (drop (i * w) s) (omega arith)

  module _ (i : ℕ) (h : i + 1 < n) where
    rise-step : off + key_wide ≤ w
        → sorted_rows (left i) ≡ (is_less (cmp (part (i * w + off) key_wide s) (part (i * w + off + w) key_wide s)) && sorted_rows (left (i + 1)))
    unfolding sorted_rows rises_from
    rise-step k =
        let a : i < n = omega arith in
        let e : (i + 1) * w + off ≡ i * w + off + w = rw (next_row w i) (omega arith) in
        rw (rows_of-step w n i s a, rows_of-step w n (i + 1) s h, key_here w off n s i k, key_here w off n s (i + 1) k, e)

  -- the same at the row behind row i
  pub rise-turn : (i row : ℕ) → row ≡ i + 1 → row < n → off + key_wide ≤ w
      → sorted_rows (left i) ≡ (is_less (cmp (part (row * w + off - w) key_wide s) (part (row * w + off) key_wide s)) && sorted_rows (left row))
  rise-turn i row e h k =
      let m : row * w ≡ i * w + w = rw e (next_row w i) in
      let a : row * w + off - w ≡ i * w + off = omega arith in
      let b : row * w + off ≡ i * w + off + w = omega arith in
      rw (a, b, e) (rise-step i (omega arith) k)

-- ---- rows told by their keys alone

rises-keys : (f : List ℕ → List ℕ) → ((r : List ℕ) → key_of (f r) ≡ key_of r) → (r : List ℕ) (rs : List (List ℕ)) → rises_from (f r) (map f rs) ≡ rises_from r rs
unfolding rises_from
rises-keys f e r [] = refl
rises-keys f e r (t ∷ rs) = rw (e r, e t, rises-keys f e t rs)

pub sorted-keys : (f : List ℕ → List ℕ) → ((r : List ℕ) → key_of (f r) ≡ key_of r) → (rs : List (List ℕ)) → sorted_rows (map f rs) ≡ sorted_rows rs
unfolding sorted_rows
sorted-keys f e [] = refl
sorted-keys f e (r ∷ rs) = rises-keys f e r rs
