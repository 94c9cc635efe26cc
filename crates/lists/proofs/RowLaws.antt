-- Laws of a flat list of rows of w bytes. Assumes nothing.
use mathlib.Core.Path.{◌≡◌, refl, sym, ap, ◌∙◌}
use mathlib.Core.List.{List, [], ◌∷◌, ◌++◌, append_assoc}
use Prim.Native.Nat.{ℕ, zero, suc, ◌+◌, ◌*◌, ◌-◌, ◌≤◌, ◌<◌}
use native.Mathlib.Nat.{suc-mul, zero-mul, add_comm, zero-add, suc-add, add-mul, le_of_suc-le-suc, not-suc-le-zero}
use native.Mathlib.Numerals.{add-one}
use native.Mathlib.Omega.{arith}
use lib.ListN.{length, get_or, set, take, drop}
use lib.Seq.{drop-drop, take-add, take_at, drop_at}
use Rattle.lists.specs.Part.{part, over}
use Rattle.lists.specs.Rows.{rows_of, flat}
use Rattle.lists.proofs.PartLaws.{part-part}
use Rattle.lists.proofs.ReadLaws.{take-before, take-over, drop-behind, drop-over}

next_row : (w i : ℕ) → (i + 1) * w ≡ i * w + w
next_row w i = rw add-one (suc-mul i w)

-- the first of the rows that are left
pub rows_of-step : (w n i : ℕ) (t : List ℕ) → i < n → rows_of w (n - i) (drop (i * w) t) ≡ part (i * w) w t ∷ rows_of w (n - (i + 1)) (drop ((i + 1) * w) t)
unfolding rows_of part
rows_of-step w n i t h =
    let e : n - i ≡ suc (n - (i + 1)) = omega arith in
    rw (e, next_row w i, ← (drop-drop w (i * w) t))

pub rows_of-start : (w n : ℕ) (t : List ℕ) → rows_of w n t ≡ rows_of w (n - 0) (drop (0 * w) t)
rows_of-start w n t =
    let e : n - 0 ≡ n = omega arith in
    rw (e, zero-mul)

pub length-rows_of : (w n : ℕ) (t : List ℕ) → length (rows_of w n t) ≡ n
unfolding rows_of
length-rows_of w zero t = refl
length-rows_of w (suc n) t = ap suc (length-rows_of w n (drop w t))

drop-row : (w i : ℕ) (t : List ℕ) → drop (i * w) (drop w t) ≡ drop (suc i * w) t
drop-row w i t =
    let e : w + i * w ≡ suc i * w = rw suc-mul (add_comm w (i * w)) in
    drop-drop (i * w) w t ∙ ap (λ (m : ℕ). drop m t) e

pub rows_of-append : (w a b : ℕ) (t : List ℕ) → rows_of w (a + b) t ≡ rows_of w a t ++ rows_of w b (drop (a * w) t)
unfolding rows_of
rows_of-append w zero b t = rw (zero-add, zero-mul)
rows_of-append w (suc a) b t = rw suc-add (ap (λ (r : List (List ℕ)). take w t ∷ r) (rows_of-append w a b (drop w t) ∙ rw (drop-row w a t)))

-- the rows from lo up to, not including, hi
abbrev pub window : ℕ → ℕ → ℕ → List ℕ → List (List ℕ)
window w lo hi t = rows_of w (hi - lo) (drop (lo * w) t)

pub window-split : (w lo m hi : ℕ) (t : List ℕ) → lo ≤ m → m < hi → window w lo hi t ≡ window w lo m t ++ (part (m * w) w t ∷ window w (m + 1) hi t)
window-split w lo m hi t h k =
    let e : hi - lo ≡ (m - lo) + (hi - m) = omega arith in
    let f : lo + (m - lo) ≡ m = omega arith in
    let d : drop ((m - lo) * w) (drop (lo * w) t) ≡ drop (m * w) t =
    drop-drop ((m - lo) * w) (lo * w) t ∙ ap (λ (n : ℕ). drop n t) (sym (add-mul lo (m - lo) w) ∙ ap (λ (n : ℕ). n * w) f) in
    rw (e, rows_of-append w (m - lo) (hi - m) (drop (lo * w) t), d, rows_of-step w hi m t k)

pub flat-rows_of : (w n : ℕ) (t : List ℕ) → flat (rows_of w n t) ≡ take (n * w) t
unfolding flat rows_of
flat-rows_of w zero t = rw zero-mul
flat-rows_of w (suc n) t = rw (suc-mul, add_comm (n * w) w, take-add w (n * w) t) (ap (λ (l : List ℕ). take w t ++ l) (flat-rows_of w n (drop w t)))

pub flat_append : (xs ys : List (List ℕ)) → flat (xs ++ ys) ≡ flat xs ++ flat ys
unfolding flat
flat_append [] ys = refl
flat_append (x ∷ xs) ys = rw append_assoc (ap (λ (l : List ℕ). x ++ l) (flat_append xs ys))

module _ (w n i : ℕ) (t : List ℕ) (h : i ≤ n) where
  split_at : rows_of w n t ≡ rows_of w i t ++ window w i n t
  split_at = let e : n ≡ i + (n - i) = omega arith in ap (λ (m : ℕ). rows_of w m t) e ∙ rows_of-append w i (n - i) t

  pub take-rows_of : take i (rows_of w n t) ≡ rows_of w i t
  take-rows_of = rw split_at (take_at (rows_of w i t) (window w i n t) i (length-rows_of w i t))

  pub drop-rows_of : drop i (rows_of w n t) ≡ window w i n t
  drop-rows_of = rw split_at (drop_at (rows_of w i t) (window w i n t) i (length-rows_of w i t))

  pub flat-before : flat (take i (rows_of w n t)) ≡ take (i * w) t
  flat-before = rw (take-rows_of, flat-rows_of)

  pub flat-from : flat (drop i (rows_of w n t)) ≡ part (i * w) ((n - i) * w) t
  unfolding part
  flat-from = rw (drop-rows_of, flat-rows_of)

-- row i
pub row-at : (w n i : ℕ) (t : List ℕ) → i < n → get_or (rows_of w n t) i [] ≡ part (i * w) w t
unfolding rows_of part
row-at w zero i t h = absurd (not-suc-le-zero h)
row-at w (suc n) zero t h = rw zero-mul
row-at w (suc n) (suc i) t h = row-at w n i (drop w t) (le_of_suc-le-suc h) ∙ ap (take w) (drop-row w i t)

-- the field of row i that is `len` bytes from `off` on
pub field_at : (w n i off len : ℕ) (t : List ℕ) → i < n → off + len ≤ w → part off len (get_or (rows_of w n t) i []) ≡ part (i * w + off) len t
field_at w n i off len t h k = rw (row-at w n i t h) (part-part off len (i * w) w t k)

-- a write inside row i changes that row alone
pub rows_of-over : (w n i off : ℕ) (vs t : List ℕ) → i < n → off + length vs ≤ w → rows_of w n (over (i * w + off) vs t) ≡ set (rows_of w n t) i (over off vs (part (i * w) w t))
unfolding rows_of part
rows_of-over w zero i off vs t h k = absurd (not-suc-le-zero h)
rows_of-over w (suc n) zero off vs t h k =
    rw (zero-mul, zero-add)
    (ap (λ (l : List ℕ). l ∷ rows_of w n (drop w (over off vs t))) (take-over w off vs t k)
    ∙ ap (λ (l : List ℕ). over off vs (take w t) ∷ rows_of w n l) (drop-behind w off vs t k))
rows_of-over w (suc n) (suc i) off vs t h k =
    let e : suc i * w + off ≡ w + (i * w + off) = let f = suc-mul i w in omega arith in
    rw e
    (ap (λ (l : List ℕ). l ∷ rows_of w n (drop w (over (w + (i * w + off)) vs t))) (take-before w (w + (i * w + off)) vs t (omega arith))
    ∙ ap (λ (l : List ℕ). take w t ∷ rows_of w n l) (drop-over w (i * w + off) vs t)
    ∙ ap
    (λ (l : List (List ℕ)). take w t ∷ l)
    (rows_of-over w n i off vs (drop w t) (le_of_suc-le-suc h) k
    ∙ ap (λ (l : List ℕ). set (rows_of w n (drop w t)) i (over off vs (take w l))) (drop-row w i t)))

-- a write behind n rows leaves them
pub rows_of-behind : (w n at : ℕ) (vs t : List ℕ) → n * w ≤ at → rows_of w n (over at vs t) ≡ rows_of w n t
unfolding rows_of
rows_of-behind w zero at vs t h = refl
rows_of-behind w (suc n) at vs t h =
    let k : n * w + w ≤ at = rw suc-mul at h in
    let e : at ≡ w + (at - w) = omega arith in
    let d : drop w (over at vs t) ≡ over (at - w) vs (drop w t) = ap (λ (m : ℕ). drop w (over m vs t)) e ∙ drop-over w (at - w) vs t in
    rw (take-before w at vs t (omega arith), d) (ap (λ (l : List (List ℕ)). take w t ∷ l) (rows_of-behind w n (at - w) vs (drop w t) (omega arith)))
