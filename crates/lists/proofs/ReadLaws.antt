-- What is read after a write, and what a lent part leaves. Assumes nothing.
use mathlib.Core.Path.{◌≡◌, refl, sym, ap, ◌∙◌}
use mathlib.Core.List.{List, [], ◌∷◌, ◌++◌}
use Prim.Native.Nat.{ℕ, zero, suc, ◌+◌, ◌-◌, ◌≤◌}
use native.Mathlib.Nat.{add-zero, zero-add, suc-add, le_of_suc-le-suc, not-suc-le-zero}
use native.Mathlib.Omega.{arith}
use lib.ListN.{length, take, drop, length-drop, take-append-drop}
use lib.Seq.{drop-drop, take_at}
use Rattle.lists.specs.Part.{part, onto, over}
use Rattle.lists.proofs.PartLaws.{drop-take}
use Rattle.lists.proofs.OverLaws.{onto-fits, over-fits}

over-end : (at : ℕ) (vs : List ℕ) → over at vs [] ≡ []
unfolding over onto
over-end zero [] = refl
over-end zero (v ∷ vs) = refl
over-end (suc at) vs = refl

pub take-before : (n at : ℕ) (vs d : List ℕ) → n ≤ at → take n (over at vs d) ≡ take n d
unfolding over
take-before zero at vs d h = refl
take-before (suc n) zero vs d h = absurd (not-suc-le-zero h)
take-before (suc n) (suc at) vs [] h = refl
take-before (suc n) (suc at) vs (x ∷ d) h = ap (λ (l : List ℕ). x ∷ l) (take-before n at vs d (le_of_suc-le-suc h))

take-onto : (n : ℕ) (vs d : List ℕ) → length vs ≤ n → take n (onto vs d) ≡ onto vs (take n d)
unfolding onto
take-onto n [] d h = refl
take-onto zero (v ∷ vs) d h = absurd (not-suc-le-zero h)
take-onto (suc n) (v ∷ vs) [] h = refl
take-onto (suc n) (v ∷ vs) (x ∷ d) h = ap (λ (l : List ℕ). v ∷ l) (take-onto n vs d (le_of_suc-le-suc h))

pub take-over : (n at : ℕ) (vs d : List ℕ) → at + length vs ≤ n → take n (over at vs d) ≡ over at vs (take n d)
unfolding over
take-over n zero vs d h = take-onto n vs d (omega arith)
take-over zero (suc at) vs d h = absurd (omega arith)
take-over (suc n) (suc at) vs [] h = refl
take-over (suc n) (suc at) vs (x ∷ d) h = ap (λ (l : List ℕ). x ∷ l) (take-over n at vs d (omega arith))

drop-onto : (n : ℕ) (vs d : List ℕ) → length vs ≤ n → drop n (onto vs d) ≡ drop n d
unfolding onto
drop-onto n [] d h = refl
drop-onto zero (v ∷ vs) d h = absurd (not-suc-le-zero h)
drop-onto (suc n) (v ∷ vs) [] h = refl
drop-onto (suc n) (v ∷ vs) (x ∷ d) h = drop-onto n vs d (le_of_suc-le-suc h)

pub drop-behind : (n at : ℕ) (vs d : List ℕ) → at + length vs ≤ n → drop n (over at vs d) ≡ drop n d
unfolding over
drop-behind n zero vs d h = drop-onto n vs d (omega arith)
drop-behind zero (suc at) vs d h = absurd (omega arith)
drop-behind (suc n) (suc at) vs [] h = refl
drop-behind (suc n) (suc at) vs (x ∷ d) h = drop-behind n at vs d (omega arith)

pub drop-over : (n at : ℕ) (vs d : List ℕ) → drop n (over (n + at) vs d) ≡ over at vs (drop n d)
unfolding over
drop-over zero at vs d = rw zero-add
drop-over (suc n) at vs [] = rw suc-add (sym (over-end at vs))
drop-over (suc n) at vs (x ∷ d) = rw suc-add (drop-over n at vs d)

part-front : (p n : ℕ) (l : List ℕ) → part p n l ≡ drop p (take (p + n) l)
unfolding part
part-front p n l =
    let e : p + n - p ≡ n = omega arith in
    sym (drop-take p (p + n) l ∙ ap (λ (m : ℕ). take m (drop p l)) e)

-- a part in front of the write, or behind it
pub part_left : (p n at : ℕ) (vs d : List ℕ) → p + n ≤ at → part p n (over at vs d) ≡ part p n d
part_left p n at vs d h = part-front p n (over at vs d) ∙ ap (drop p) (take-before (p + n) at vs d h) ∙ sym (part-front p n d)

pub part_right : (p n at : ℕ) (vs d : List ℕ) → at + length vs ≤ p → part p n (over at vs d) ≡ part p n d
unfolding part
part_right p n at vs d h = rw (drop-behind p at vs d h)

-- what was written is read back
pub part-written : (at : ℕ) (vs d : List ℕ) → at + length vs ≤ length d → part at (length vs) (over at vs d) ≡ vs
unfolding part over
part-written at vs d h =
    let e : over at vs d ≡ over (at + 0) vs d = rw add-zero in
    let k : length vs ≤ length (drop at d) = rw length-drop (omega arith) in
    rw (e, drop-over at 0 vs d, onto-fits vs (drop at d) k) (take_at vs (drop (length vs) (drop at d)) (length vs) refl)

-- a write into a lent part `&mut t[a..a + k]`, as the whole has it when the part is back
pub lent-over : (a k p : ℕ) (vs t : List ℕ) → p + length vs ≤ k → take a t ++ (over p vs (take k (drop a t)) ++ drop k (drop a t)) ≡ over (a + p) vs t
lent-over a k p vs t h =
    let u = over (a + p) vs t in
    let x : take a u ≡ take a t = take-before a (a + p) vs t (omega arith) in
    let y : drop a u ≡ over p vs (drop a t) = drop-over a p vs t in
    let z : take k (drop a u) ≡ over p vs (take k (drop a t)) = ap (take k) y ∙ take-over k p vs (drop a t) h in
    let q : drop k (drop a u) ≡ drop k (drop a t) = ap (drop k) y ∙ drop-behind k p vs (drop a t) h in
    rw (← x, ← z, ← q) (ap (λ (l : List ℕ). take a u ++ l) (take-append-drop k (drop a u)) ∙ take-append-drop a u)

-- a lent part that comes back with other contents
pub lent_back : (a k : ℕ) (vs t : List ℕ) → length vs ≡ k → a + k ≤ length t → take a t ++ (vs ++ drop k (drop a t)) ≡ over a vs t
lent_back a k vs t l h =
    let f : a + length vs ≤ length t = omega arith in
    rw (drop-drop k a t, ← l) (sym (over-fits a vs t f))
