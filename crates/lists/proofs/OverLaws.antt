-- Laws of `over`: the length stays, what is outside stays, and writes join. Assumes nothing.
use mathlib.Core.Path.{◌≡◌, refl, sym, ap, ◌∙◌}
use mathlib.Core.List.{List, [], ◌∷◌, ◌++◌}
use Prim.Native.Nat.{ℕ, zero, suc, ◌+◌, ◌-◌, ◌≤◌, ◌<◌}
use native.Mathlib.Nat.{zero-add, suc-add, le_of_suc-le-suc, not-suc-le-zero}
use native.Mathlib.Omega.{arith}
use mathlib.Core.List.{append_assoc}
use lib.ListN.{length, take, drop, get_or, set, length-drop}
use lib.Seq.{drop-drop, length-take-le, paste}
use borrow.Rule.Slice.PartMut.{put_mid}
use Rattle.lists.specs.Part.{part, onto, over}
use Rattle.lists.proofs.PartLaws.{part-is}

pub length-onto : {A : Type 0} (vs d : List A) → length (onto vs d) ≡ length d
unfolding onto
length-onto [] d = refl
length-onto (v ∷ vs) [] = refl
length-onto (v ∷ vs) (x ∷ d) = ap suc (length-onto vs d)

pub length_over : {A : Type 0} (at : ℕ) (vs d : List A) → length (over at vs d) ≡ length d
unfolding over
length_over zero vs d = length-onto vs d
length_over (suc at) vs [] = refl
length_over (suc at) vs (x ∷ d) = ap suc (length_over at vs d)

pub over-nil : {A : Type 0} (at : ℕ) (d : List A) → over at [] d ≡ d
unfolding over onto
over-nil zero d = refl
over-nil (suc at) [] = refl
over-nil (suc at) (x ∷ d) = ap (λ l. x ∷ l) (over-nil at d)

-- one element more in front, as a loop that runs down stores it
pub over-cons : {A : Type 0} (at : ℕ) (v : A) (vs d : List A) → set (over (suc at) vs d) at v ≡ over at (v ∷ vs) d
unfolding over onto
over-cons zero v vs [] = refl
over-cons zero v vs (x ∷ d) = refl
over-cons (suc at) v vs [] = refl
over-cons (suc at) v vs (x ∷ d) = ap (λ l. x ∷ l) (over-cons at v vs d)

onto-snoc : {A : Type 0} (v : A) (vs d : List A) → set (onto vs d) (length vs) v ≡ onto (vs ++ v ∷ []) d
unfolding onto
onto-snoc v [] [] = refl
onto-snoc v [] (x ∷ d) = refl
onto-snoc v (w ∷ vs) [] = refl
onto-snoc v (w ∷ vs) (x ∷ d) = ap (λ l. w ∷ l) (onto-snoc v vs d)

-- one element more at the end, as a loop that runs up stores it
pub over-snoc : {A : Type 0} (at : ℕ) (v : A) (vs d : List A) → set (over at vs d) (at + length vs) v ≡ over at (vs ++ v ∷ []) d
unfolding over
over-snoc zero v vs d = rw zero-add (onto-snoc v vs d)
over-snoc (suc at) v vs [] = refl
over-snoc (suc at) v vs (x ∷ d) = rw suc-add (ap (λ l. x ∷ l) (over-snoc at v vs d))

-- an element that a write leaves as it was, in front of it or behind it
pub get-before : {A : Type 0} (at i : ℕ) (vs l : List A) (d : A) → i < at → get_or (over at vs l) i d ≡ get_or l i d
unfolding over
get-before zero i vs l d h = absurd (not-suc-le-zero h)
get-before (suc at) i vs [] d h = refl
get-before (suc at) zero vs (x ∷ l) d h = refl
get-before (suc at) (suc i) vs (x ∷ l) d h = get-before at i vs l d (le_of_suc-le-suc h)

get-onto : {A : Type 0} (i : ℕ) (vs l : List A) (d : A) → length vs ≤ i → get_or (onto vs l) i d ≡ get_or l i d
unfolding onto
get-onto i [] l d h = refl
get-onto i (v ∷ vs) [] d h = refl
get-onto zero (v ∷ vs) (x ∷ l) d h = absurd (not-suc-le-zero h)
get-onto (suc i) (v ∷ vs) (x ∷ l) d h = get-onto i vs l d (le_of_suc-le-suc h)

pub get-after : {A : Type 0} (at i : ℕ) (vs l : List A) (d : A) → at + length vs ≤ i → get_or (over at vs l) i d ≡ get_or l i d
unfolding over
get-after zero i vs l d h = get-onto i vs l d (omega arith)
get-after (suc at) i vs [] d h = refl
get-after (suc at) zero vs (x ∷ l) d h = absurd (omega arith)
get-after (suc at) (suc i) vs (x ∷ l) d h = get-after at i vs l d (omega arith)

pub get_d-before : (at i : ℕ) (vs d : List ℕ) → i < at → get_or (over at vs d) i 0 ≡ get_or d i 0
get_d-before at i vs d h = get-before at i vs d 0 h

pub get_d_after : (at i : ℕ) (vs d : List ℕ) → at + length vs ≤ i → get_or (over at vs d) i 0 ≡ get_or d i 0
get_d_after at i vs d h = get-after at i vs d 0 h

onto-onto : {A : Type 0} (xs ys d : List A) → onto xs (over (length xs) ys d) ≡ onto (xs ++ ys) d
unfolding over onto
onto-onto [] ys d = refl
onto-onto (x ∷ xs) ys [] = refl
onto-onto (x ∷ xs) ys (y ∷ d) = ap (λ l. x ∷ l) (onto-onto xs ys d)

-- two writes, one behind the other, are one
pub over-over : {A : Type 0} (at : ℕ) (xs ys d : List A) → over at xs (over (at + length xs) ys d) ≡ over at (xs ++ ys) d
unfolding over
over-over zero xs ys d = rw zero-add (onto-onto xs ys d)
over-over (suc at) xs ys [] = rw suc-add
over-over (suc at) xs ys (x ∷ d) = rw suc-add (ap (λ l. x ∷ l) (over-over at xs ys d))

-- a write in the middle is a write of the front too
pub over-front : {A : Type 0} (at : ℕ) (xs d : List A) → at ≤ length d → over at xs d ≡ onto (take at d ++ xs) d
unfolding over onto
over-front zero xs d h = refl
over-front (suc at) xs [] h = absurd (not-suc-le-zero h)
over-front (suc at) xs (x ∷ d) h = ap (λ l. x ∷ l) (over-front at xs d (le_of_suc-le-suc h))

pub onto-fits : {A : Type 0} (vs d : List A) → length vs ≤ length d → onto vs d ≡ vs ++ drop (length vs) d
unfolding onto
onto-fits [] d h = refl
onto-fits (v ∷ vs) [] h = absurd (not-suc-le-zero h)
onto-fits (v ∷ vs) (x ∷ d) h = ap (λ l. v ∷ l) (onto-fits vs d (le_of_suc-le-suc h))

-- a write of which a front fits
pub onto-split : {A : Type 0} (xs ys d : List A) → length xs ≤ length d → onto (xs ++ ys) d ≡ xs ++ onto ys (drop (length xs) d)
unfolding onto
onto-split [] ys d h = refl
onto-split (x ∷ xs) ys [] h = absurd (not-suc-le-zero h)
onto-split (x ∷ xs) ys (y ∷ d) h = ap (λ l. x ∷ l) (onto-split xs ys d (le_of_suc-le-suc h))

-- a write that fits, in parts
pub over-fits : {A : Type 0} (at : ℕ) (vs d : List A) → at + length vs ≤ length d → over at vs d ≡ take at d ++ (vs ++ drop (at + length vs) d)
unfolding over
over-fits zero vs d h = let k : length vs ≤ length d = omega arith in rw zero-add (onto-fits vs d k)
over-fits (suc at) vs [] h = absurd (omega arith)
over-fits (suc at) vs (x ∷ d) h = rw suc-add (ap (λ l. x ∷ l) (over-fits at vs d (omega arith)))

onto-then : {A : Type 0} (xs ys d : List A) → over (length xs) ys (onto xs d) ≡ onto (xs ++ ys) d
unfolding over onto
onto-then [] ys d = refl
onto-then (x ∷ xs) ys [] = refl
onto-then (x ∷ xs) ys (y ∷ d) = ap (λ l. x ∷ l) (onto-then xs ys d)

-- the same in the other order
pub over-then : {A : Type 0} (at : ℕ) (xs ys d : List A) → over (at + length xs) ys (over at xs d) ≡ over at (xs ++ ys) d
unfolding over
over-then zero xs ys d = rw zero-add (onto-then xs ys d)
over-then (suc at) xs ys [] = rw suc-add
over-then (suc at) xs ys (x ∷ d) = rw suc-add (ap (λ l. x ∷ l) (over-then at xs ys d))

onto-self : {A : Type 0} (n : ℕ) (d : List A) → onto (take n d) d ≡ d
unfolding onto
onto-self zero d = refl
onto-self (suc n) [] = refl
onto-self (suc n) (x ∷ d) = ap (λ l. x ∷ l) (onto-self n d)

-- a part written over itself
pub over-self : {A : Type 0} (at n : ℕ) (d : List A) → over at (part at n d) d ≡ d
unfolding over part
over-self zero n d = onto-self n d
over-self (suc at) n [] = refl
over-self (suc at) n (x ∷ d) = ap (λ l. x ∷ l) (over-self at n d)

-- a write that a longer one covers
pub onto-longer : {A : Type 0} (xs ys d : List A) → length xs ≤ length ys → onto ys (onto xs d) ≡ onto ys d
unfolding onto
onto-longer [] ys d h = refl
onto-longer (x ∷ xs) [] d h = absurd (not-suc-le-zero h)
onto-longer (x ∷ xs) (y ∷ ys) [] h = refl
onto-longer (x ∷ xs) (y ∷ ys) (z ∷ d) h = ap (λ l. y ∷ l) (onto-longer xs ys d (le_of_suc-le-suc h))

pub over-longer : {A : Type 0} (at : ℕ) (xs ys d : List A) → length xs ≤ length ys → over at ys (over at xs d) ≡ over at ys d
unfolding over
over-longer zero xs ys d h = onto-longer xs ys d h
over-longer (suc at) xs ys [] h = refl
over-longer (suc at) xs ys (x ∷ d) h = ap (λ l. x ∷ l) (over-longer at xs ys d h)

-- the front of a write, written again
pub onto-front : {A : Type 0} (xs ys zs d : List A) → length xs ≡ length ys → onto ys (onto (xs ++ zs) d) ≡ onto (ys ++ zs) d
unfolding onto
onto-front [] [] zs d h = refl
onto-front [] (y ∷ ys) zs d h = absurd (omega arith)
onto-front (x ∷ xs) [] zs d h = absurd (omega arith)
onto-front (x ∷ xs) (y ∷ ys) zs [] h = refl
onto-front (x ∷ xs) (y ∷ ys) zs (z ∷ d) h = ap (λ l. y ∷ l) (onto-front xs ys zs d (omega arith))

-- what is written over a part that was lent, `&mut d[at..at + k]`
pub over-put_mid : {A : Type 0} (at k : ℕ) (d vs : List A) → k ≡ length vs → at + k ≤ length d → put_mid at k d vs ≡ over at vs d
over-put_mid at k d vs e h = rw e (rw drop-drop (sym (over-fits at vs d (omega arith))))

-- what `copy_within` leaves
pub over-within : {A : Type 0} (i j dest : ℕ) (d : List A) → i ≤ j → j ≤ length d → dest + (j - i) ≤ length d → paste d dest (drop i d) (j - i) ≡ over dest (part i (j - i) d) d
over-within i j dest d h k r =
    let n : length (take (j - i) (drop i d)) ≡ j - i = length-take-le (j - i) (drop i d) (rw (length-drop i d) (omega arith)) in
    sym (ap (λ vs. over dest vs d) (part-is i (j - i) d)
    ∙ over-fits dest (take (j - i) (drop i d)) d (rw n r)
    ∙ ap (λ q. take dest d ++ (take (j - i) (drop i d) ++ drop (dest + q) d)) n
    ∙ sym (append_assoc (take dest d) (take (j - i) (drop i d)) (drop (dest + (j - i)) d)))
