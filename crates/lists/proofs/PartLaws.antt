-- Laws of `part`, and of parts as the code lends them. Assumes nothing.
use mathlib.Core.Path.{◌≡◌, refl, ◌∙◌}
use mathlib.Core.List.{List, [], ◌∷◌, ◌++◌}
use Prim.Native.Nat.{ℕ, zero, suc, ◌+◌, ◌-◌, ◌≤◌, ◌<◌}
use native.Mathlib.Numerals.{add-one}
use native.Mathlib.Omega.{arith}
use lib.ListN.{length, take, drop, get_or, length-take, length-drop}
use lib.Seq.{drop-cons, take-nil, take_all, take-suc, take-add, take-take, drop-drop, get_or-drop, get_or-take}
use Rattle.lists.specs.Part.{part}

-- a part, as `&l[a..e]` is written out
pub part-is : {A : Type 0} (at n : ℕ) (l : List A) → part at n l ≡ take n (drop at l)
unfolding part
part-is at n l = refl

pub part-zero : {A : Type 0} (at : ℕ) (l : List A) → part at 0 l ≡ []
unfolding part
part-zero at l = refl

pub part-all : {A : Type 0} (l : List A) → part 0 (length l) l ≡ l
unfolding part
part-all l = take_all (length l) l (omega arith)

pub length_part : {A : Type 0} (at n : ℕ) (l : List A) → at + n ≤ length l → length (part at n l) ≡ n
unfolding part
length_part at n l h = simp (length-take, length-drop) (omega arith)

pub part_at : (at n : ℕ) (l : List ℕ) (i : ℕ) → i < n → get_or (part at n l) i 0 ≡ get_or l (at + i) 0
unfolding part
part_at at n l i h = get_or-take n (drop at l) i 0 h ∙ get_or-drop at l i 0

-- a part by its first element, and by its last
module _ {A : Type 0} (at n : ℕ) (l : List A) (d : A) where
  pub part-first : at < length l → part at (suc n) l ≡ get_or l at d ∷ part (suc at) n l
  unfolding part
  part-first h = rw (drop-cons l at d)

  pub part-last : at + n < length l → part at (n + 1) l ≡ part at n l ++ get_or l (at + n) d ∷ []
  unfolding part
  part-last h =
      let k : n < length (drop at l) = rw length-drop (omega arith) in
      rw (add-one, take-suc (drop at l) n d k, get_or-drop)

pub part-cons : (at n : ℕ) (l : List ℕ) → at < length l → part at (suc n) l ≡ get_or l at 0 ∷ part (suc at) n l
part-cons at n l h = part-first at n l 0 h

pub part-snoc : (at n : ℕ) (l : List ℕ) → at + n < length l → part at (n + 1) l ≡ part at n l ++ get_or l (at + n) 0 ∷ []
part-snoc at n l h = part-last at n l 0 h

pub part-add : (at n m : ℕ) (l : List ℕ) → part at (n + m) l ≡ part at n l ++ part (at + n) m l
unfolding part
part-add at n m l = take-add n m (drop at l) ∙ rw (drop-drop n at l)

pub take_snoc : (n : ℕ) (l : List ℕ) → n < length l → take (n + 1) l ≡ take n l ++ get_or l n 0 ∷ []
take_snoc n l h = rw (add-one, take-suc l n 0 h)

-- a loop's form: the rest of the n elements from `at`, i of which have been passed
pub part_step : (l : List ℕ) (at n i : ℕ) → at + i < length l → i < n → part (at + i) (n - i) l ≡ get_or l (at + i) 0 ∷ part (at + (i + 1)) (n - (i + 1)) l
part_step l at n i h k =
    let e : n - i ≡ suc (n - (i + 1)) = omega arith in
    let f : at + (i + 1) ≡ suc (at + i) = omega arith in
    rw (e, f) (part-cons (at + i) (n - (i + 1)) l h)

pub part-done : (l : List ℕ) (at n i : ℕ) → n ≤ i → part at (n - i) l ≡ []
part-done l at n i h =
    let e : n - i ≡ 0 = omega arith in
    rw e (part-zero at l)

pub drop-take : (m n : ℕ) (l : List ℕ) → drop m (take n l) ≡ take (n - m) (drop m l)
drop-take zero n l = let e : n - 0 ≡ n = omega arith in rw e
drop-take (suc m) zero l = let e : 0 - suc m ≡ 0 = omega arith in rw e
drop-take (suc m) (suc n) [] = rw take-nil
drop-take (suc m) (suc n) (x ∷ l) = let e : suc n - suc m ≡ n - m = omega arith in rw e (drop-take m n l)

-- a part of a part
pub part-part : (off len at n : ℕ) (l : List ℕ) → off + len ≤ n → part off len (part at n l) ≡ part (at + off) len l
unfolding part
part-part off len at n l h =
    let k : len ≤ n - off = omega arith in
    rw (drop-take off n (drop at l), take-take len (n - off) (drop off (drop at l)) k, drop-drop off at l)

-- a tail, as `&l[a..]` is written out
module _ (a : ℕ) (l : List ℕ) where
  pub tail_all : take (length l - a) (drop a l) ≡ drop a l
  tail_all = take_all (length l - a) (drop a l) (rw length-drop (omega arith))

  pub tail-length : length (take (length l - a) (drop a l)) ≡ length l - a
  tail-length = rw tail_all (length-drop a l)
