use Prim.Native.Nat.{ℕ, zero, suc, ◌+◌, ◌≤◌, ◌<◌}
use native.Mathlib.Omega.{arith}
use native.Mathlib.Decide.{dec_lt}
use mathlib.Core.Path.{◌≡◌, refl, sym, ap, ◌∙◌}
use mathlib.Core.Bool.{Bool, true, false}
use mathlib.Core.List.{List, [], ◌∷◌}
use mathlib.Core.Logic.{◌↔◌}
use borrow.Author.Tests.{leb-true, le-leb}
use lib.ListN.{length, get_or, set, length-set, replicate, length-replicate}
use lib.Seq.{get_or-set_same, get_or-set_other}
use lib.Dec.{leb}
use Rattle.lists.specs.Logic.{on}
use Rattle.lists.specs.Text.{same}
use Rattle.lists.proofs.TextLaws.{same_refl, same-equal}
use Rattle.std.specs.Prelude.{Ok, Err}
use Rattle.turbo_labels.specs.Columns.{count, column_of, repeated, any_twice, places_from, columns_of, most}
use Rattle.turbo_labels.specs.Claims.{Twice}
use Rattle.turbo_labels.proofs.ColumnLaws.{found-once, found-twice}

-- What a place and a count among names say of the names. Assumes nothing.

same_not : (f w : List ℕ) → same f w ≡ false → f ≡ w → ⊥
same_not f w e q = let z : same f w ≡ true = rw q (same_refl w) in let y : ◌≡◌ {A = ℕ} 0 1 = cc in omega arith

same-yes : (f w : List ℕ) → f ≡ w → same f w ≡ true
same-yes f w q = rw q (same_refl w)

pub place-most : (w : List ℕ) (fs : List (List ℕ)) → column_of w fs ≤ length fs
unfolding column_of
place-most w [] = omega arith
place-most w (f ∷ fs) = go (same f w) (place-most w fs)
  where
    go : (t : Bool) → column_of w fs ≤ length fs → on t 0 (suc (column_of w fs)) ≤ suc (length fs)
    go true h = omega arith
    go false h = omega arith

pub place-there : (w : List ℕ) (fs : List (List ℕ)) → column_of w fs < length fs → get_or fs (column_of w fs) [] ≡ w
unfolding column_of
place-there w [] h = absurd (omega arith)
place-there w (f ∷ fs) h = go (same f w) refl h (place-there w fs)
  where
    go : (t : Bool) → same f w ≡ t → on t 0 (suc (column_of w fs)) < suc (length fs) → (column_of w fs < length fs → get_or fs (column_of w fs) [] ≡ w) → get_or (f ∷ fs) (on t 0 (suc (column_of w fs))) [] ≡ w
    go true e k ih = same-equal f w e
    go false e k ih = ih (omega arith)

-- no name before the place
pub place-before : (w : List ℕ) (fs : List (List ℕ)) (j : ℕ) → j < column_of w fs → get_or fs j [] ≡ w → ⊥
unfolding column_of
place-before w [] j h q = omega arith
place-before w (f ∷ fs) j h q = go (same f w) refl j h q (place-before w fs)
  where
    go : (t : Bool) → same f w ≡ t → (j : ℕ) → j < on t 0 (suc (column_of w fs)) → get_or (f ∷ fs) j [] ≡ w → ((j : ℕ) → j < column_of w fs → get_or fs j [] ≡ w → ⊥) → ⊥
    go true e j k q ih = omega arith
    go false e zero k q ih = same_not f w e q
    go false e (suc j) k q ih = ih j (omega arith) q

pub place-missing : (w : List ℕ) (fs : List (List ℕ)) → (column_of w fs ≡ length fs) ↔ ((j : ℕ) → j < length fs → get_or fs j [] ≡ w → ⊥)
place-missing w fs = (λ e j h q. place-before w fs j (omega arith) q, λ f. go f (dec_lt (column_of w fs) (length fs)))
  where
    go : ((j : ℕ) → j < length fs → get_or fs j [] ≡ w → ⊥) → Dec (column_of w fs < length fs) → column_of w fs ≡ length fs
    go f (yes h) = absurd (f (column_of w fs) h (place-there w fs h))
    go f (no h) = omega (arith, h, place-most w fs)

-- a count of one or more is a find, a count of two or more is two finds
count-find : (w : List ℕ) (fs : List (List ℕ)) → 1 ≤ count w fs → (k : ℕ) × (k < length fs) × (get_or fs k [] ≡ w)
unfolding count
count-find w [] h = absurd (omega arith)
count-find w (f ∷ fs) h = go (same f w) refl h (count-find w fs)
  where
    go : (t : Bool) → same f w ≡ t → 1 ≤ on t (suc (count w fs)) (count w fs) → (1 ≤ count w fs → (k : ℕ) × (k < length fs) × (get_or fs k [] ≡ w)) → (k : ℕ) × (k < suc (length fs)) × (get_or (f ∷ fs) k [] ≡ w)
    go true e m ih = (0, omega arith, same-equal f w e)
    go false e m ih = let r = ih m in let b = r.1 in (suc r.0, omega arith, r.2)

pub count-twice : (w : List ℕ) (fs : List (List ℕ)) → 2 ≤ count w fs → Twice w fs
unfolding count
count-twice w [] h = absurd (omega arith)
count-twice w (f ∷ fs) h = go (same f w) refl h (count-twice w fs)
  where
    go : (t : Bool) → same f w ≡ t → 2 ≤ on t (suc (count w fs)) (count w fs) → (2 ≤ count w fs → Twice w fs) → Twice w (f ∷ fs)
    go true e m ih = let r = count-find w fs (omega arith) in let b = r.1 in (0, suc r.0, omega arith, omega arith, same-equal f w e, r.2)
    go false e m ih = let r = ih m in let b = r.2 in let c = r.3 in (suc r.0, suc r.1, omega arith, omega arith, r.4, r.5)

find-count : (w : List ℕ) (fs : List (List ℕ)) (k : ℕ) → k < length fs → get_or fs k [] ≡ w → 1 ≤ count w fs
unfolding count
find-count w [] k h q = absurd (omega arith)
find-count w (f ∷ fs) k h q = go (same f w) refl k h q (find-count w fs)
  where
    go : (t : Bool) → same f w ≡ t → (k : ℕ) → k < suc (length fs) → get_or (f ∷ fs) k [] ≡ w → ((k : ℕ) → k < length fs → get_or fs k [] ≡ w → 1 ≤ count w fs) → 1 ≤ on t (suc (count w fs)) (count w fs)
    go true e k m q ih = omega arith
    go false e zero m q ih = absurd (same_not f w e q)
    go false e (suc k) m q ih = ih k (omega arith) q

twice-count : (w : List ℕ) (fs : List (List ℕ)) (j k : ℕ) → j < k → k < length fs → get_or fs j [] ≡ w → get_or fs k [] ≡ w → 2 ≤ count w fs
unfolding count
twice-count w [] j k h m p q = absurd (omega arith)
twice-count w (f ∷ fs) j zero h m p q = absurd (omega arith)
twice-count w (f ∷ fs) zero (suc k) h m p q =
    rw (same-yes f w p) (let o : 1 ≤ count w fs = find-count w fs k (omega arith) q in omega arith)
twice-count w (f ∷ fs) (suc j) (suc k) h m p q = go (same f w) (twice-count w fs j k (omega arith) (omega arith) p q)
  where
    go : (t : Bool) → 2 ≤ count w fs → 2 ≤ on t (suc (count w fs)) (count w fs)
    go true o = omega arith
    go false o = o

-- some wanted name stands twice
any_found : (ws fs : List (List ℕ)) → any_twice ws fs ≡ true → (i : ℕ) × (i < length ws) × Twice (get_or ws i []) fs
unfolding any_twice
any_found [] fs e = absurd (let z : ◌≡◌ {A = ℕ} 0 1 = cc in omega arith)
any_found (w ∷ ws) fs e = go (leb 2 (count w fs)) refl e (any_found ws fs)
  where
    go : (t : Bool) → leb 2 (count w fs) ≡ t → on t true (any_twice ws fs) ≡ true → (any_twice ws fs ≡ true → (i : ℕ) × (i < length ws) × Twice (get_or ws i []) fs) → (i : ℕ) × (i < suc (length ws)) × Twice (get_or (w ∷ ws) i []) fs
    go true q m ih = (0, omega arith, count-twice w fs (leb-true _ _ q))
    go false q m ih = let r = ih m in let b = r.1 in (suc r.0, omega arith, r.2)

any-there : (ws fs : List (List ℕ)) (i : ℕ) → i < length ws → Twice (get_or ws i []) fs → any_twice ws fs ≡ true
unfolding any_twice
any-there [] fs i h t = absurd (omega arith)
any-there (w ∷ ws) fs zero h (j, k, a, b, p, q) = rw (le-leb 2 (count w fs) (twice-count w fs j k a b p q))
any-there (w ∷ ws) fs (suc i) h t = go (leb 2 (count w fs)) (any-there ws fs i (omega arith) t)
  where
    go : (u : Bool) → any_twice ws fs ≡ true → on u true (any_twice ws fs) ≡ true
    go true e = refl
    go false e = e

-- the answer by the test
columns-none : (ws fs : List (List ℕ)) → any_twice ws fs ≡ true → columns_of ws fs ≡ Err repeated
unfolding columns_of
columns-none ws fs e = rw e

columns-twice : (ws fs : List (List ℕ)) → columns_of ws fs ≡ Err repeated → any_twice ws fs ≡ true
unfolding columns_of
columns-twice ws fs e = found-twice (any_twice ws fs) (places_from 0 ws fs (replicate most 0)) repeated e

pub second-find : (ws fs : List (List ℕ)) → (columns_of ws fs ≡ Err repeated) ↔ ((i : ℕ) × (i < length ws) × Twice (get_or ws i []) fs)
second-find ws fs =
    (λ e. any_found ws fs (columns-twice ws fs e), λ r. columns-none ws fs (any-there ws fs r.0 r.1 r.2))

-- the places as they are written
places-kept : (i : ℕ) (ws fs : List (List ℕ)) (ps : List ℕ) (j : ℕ) → j < i → get_or (places_from i ws fs ps) j 0 ≡ get_or ps j 0
unfolding places_from
places-kept i [] fs ps j h = refl
places-kept i (w ∷ ws) fs ps j h = places-kept (suc i) ws fs (set ps i (column_of w fs)) j (omega arith) ∙ get_or-set_other ps i j (column_of w fs) 0 (λ e. omega arith)

places-at : (i : ℕ) (ws fs : List (List ℕ)) (ps : List ℕ) (j : ℕ) → j < length ws → i + length ws ≤ length ps → get_or (places_from i ws fs ps) (i + j) 0 ≡ column_of (get_or ws j []) fs
unfolding places_from
places-at i [] fs ps j h k = absurd (omega arith)
places-at i (w ∷ ws) fs ps zero h k =
    let e : i + 0 ≡ i = omega arith in
    rw e (places-kept (suc i) ws fs (set ps i (column_of w fs)) i (omega arith) ∙ get_or-set_same ps i (column_of w fs) 0 (omega arith))
places-at i (w ∷ ws) fs ps (suc j) h k =
    let e : i + suc j ≡ suc i + j = omega arith in
    let l : length (set ps i (column_of w fs)) ≡ length ps = length-set ps i (column_of w fs) in
    rw e (places-at (suc i) ws fs (set ps i (column_of w fs)) j (omega arith) (omega arith))

pub each-place : (ws fs : List (List ℕ)) (places : List ℕ) → length ws ≤ most → columns_of ws fs ≡ Ok places → (i : ℕ) → i < length ws → get_or places i 0 ≡ column_of (get_or ws i []) fs
unfolding columns_of
each-place ws fs places h e i k =
    let z : 0 + i ≡ i = omega arith in
    let p = found-once (any_twice ws fs) (places_from 0 ws fs (replicate most 0)) places e in
    ap (λ ps. get_or ps i 0) (sym p.1) ∙ ap (λ (n : ℕ). get_or (places_from 0 ws fs (replicate most 0)) n 0) (sym z) ∙ places-at 0 ws fs (replicate most 0) i k (omega (arith, length-replicate {A = ℕ} most 0))

-- a name that stands once stands at its place
pub place-once : (w : List ℕ) (fs : List (List ℕ)) (j : ℕ) → j < length fs → get_or fs j [] ≡ w → (Twice w fs → ⊥) → column_of w fs ≡ j
place-once w fs j h q n = go (dec_lt (column_of w fs) j) (dec_lt j (column_of w fs))
  where
    go : Dec (column_of w fs < j) → Dec (j < column_of w fs) → column_of w fs ≡ j
    go (yes a) b = absurd (n (column_of w fs, j, a, h, place-there w fs (omega arith), q))
    go (no a) (yes b) = absurd (place-before w fs j b q)
    go (no a) (no b) = omega (arith, a, b)
