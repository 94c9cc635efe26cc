-- The proofs of this crate's claims. Assumes nothing.
use mathlib.Core.Path.{◌≡◌, refl, sym, ap, ◌∙◌}
use mathlib.Core.Bool.{true}
use mathlib.Core.List.{List, ◌++◌}
use Prim.Native.Nat.{ℕ, ◌+◌, ◌*◌, ◌≤◌, ◌<◌}
use native.Mathlib.Omega.{arith}
use lib.ListN.{length, take, drop, length-append}
use lib.Seq.{take-length, take-append_seam, drop-append_seam, take-append-add, drop-append-add}
use Rattle.lists.specs.Text.{same}
use Rattle.lists.specs.Part.{part}
use Rattle.lists.specs.BigEndian.{spelled}
use Rattle.lists.proofs.BigEndianLaws.{number_spelled}
use Rattle.boards_saved.specs.Saved.{name, heading_of, file_of, pairs_in, used_in, rows_in, between, parts_sound}
use Rattle.boards_saved.specs.Claims.{LoadedAsSaved, All}
use Rattle.boards_saved.proofs.SavedLaws.{whole_by, day-whole}

-- the part between two others
middle : (h m x : List ℕ) → between (length h) (length h + length m) (h ++ (m ++ x)) ≡ m
middle h m x = ap (drop (length h)) (take-append-add h (m ++ x) (length m) ∙ ap (λ (l : List ℕ). h ++ l) (take-append_seam m x)) ∙ drop-append_seam h m

-- behind a front, what stands between two places of the rest
beyond : (h x : List ℕ) (a n : ℕ) → between (length h + a) (length h + a + n) (h ++ x) ≡ between a (a + n) x
beyond h x a n =
    let e : length h + a + n ≡ length h + (a + n) = omega arith in
    ap (λ (k : ℕ). drop (length h + a) (take k (h ++ x))) e ∙ ap (drop (length h + a)) (take-append-add h x (a + n)) ∙ drop-append-add h (take (a + n) x) a

module _ (r b t : List ℕ) (n : ℕ) (p : length r < 4294967296) (u : length b < 4294967296) (q : n < 4294967296) where
  pairs-in : length r ≡ pairs_in (file_of r b t n)
  unfolding pairs_in file_of heading_of spelled part
  pairs-in = sym (number_spelled 4 (length r) p)

  used-in : length b ≡ used_in (file_of r b t n)
  unfolding used_in file_of heading_of spelled part
  used-in = sym (number_spelled 4 (length b) u)

  rows-in : n ≡ rows_in (file_of r b t n)
  unfolding rows_in file_of heading_of spelled part
  rows-in = sym (number_spelled 4 n q)

-- what stands behind a front, to the end
last-part : (h x : List ℕ) → between (length h) (length h + length x) (h ++ x) ≡ x
last-part h x = ap (drop (length h)) (take-append-add h x (length x) ∙ ap (λ (l : List ℕ). h ++ l) (take-length x)) ∙ drop-append_seam h x

-- the three parts, by their numbers
module _ (r b t : List ℕ) (n : ℕ) where
  h : List ℕ
  h = heading_of (length r) (length b) n

  heading-long : length h ≡ 28
  unfolding h heading_of spelled
  heading-long = refl

  register-part : between 28 (28 + length r) (file_of r b t n) ≡ r
  unfolding h file_of
  register-part = ap (λ (k : ℕ). between k (k + length r) (h ++ (r ++ (b ++ t)))) (sym heading-long) ∙ middle h r (b ++ t)

  book-part : between (28 + length r) (28 + length r + length b) (file_of r b t n) ≡ b
  unfolding h file_of
  book-part =
      ap (λ (k : ℕ). between (k + length r) (k + length r + length b) (h ++ (r ++ (b ++ t)))) (sym heading-long)
      ∙ beyond h (r ++ (b ++ t)) (length r) (length b)
      ∙ middle r b t

  table-part : between (28 + length r + length b) (28 + length r + length b + length t) (file_of r b t n) ≡ t
  unfolding h file_of
  table-part =
      let e : 28 + length r + length b ≡ 28 + (length r + length b) = omega arith in
      ap (λ (k : ℕ). between k (k + length t) (h ++ (r ++ (b ++ t)))) e
      ∙ ap (λ (k : ℕ). between (k + (length r + length b)) (k + (length r + length b) + length t) (h ++ (r ++ (b ++ t)))) (sym heading-long)
      ∙ beyond h (r ++ (b ++ t)) (length r + length b) (length t)
      ∙ beyond r (b ++ t) (length b) (length t)
      ∙ last-part b t

  file-long : length (file_of r b t n) ≡ 28 + length r + length b + length t
  unfolding h file_of
  file-long =
      let x = length-append h (r ++ (b ++ t)) in
      let y = length-append r (b ++ t) in
      let z = length-append b t in
      omega (arith, x, y, z, heading-long)

  named : same (part 0 16 (file_of r b t n)) name ≡ true
  unfolding file_of heading_of part same
  named = refl

loaded-as-saved : LoadedAsSaved
loaded-as-saved r b t n p u q l s =
    let f = file_of r b t n in
    let x = pairs-in r b t n p u q in
    let y = used-in r b t n p u q in
    let z = rows-in r b t n p u q in
    let d = table-part r b t n in
    let d' : between (28 + length r + length b) (28 + length r + length b + n * 67) f ≡ t = ap (λ (k : ℕ). between (28 + length r + length b) (28 + length r + length b + k) f) (sym l) ∙ d in
    let g : length f ≡ 28 + length r + length b + n * 67 = file-long r b t n ∙ ap (λ (k : ℕ). 28 + length r + length b + k) l in
    let w = whole_by (length r) (length b) n f _ _ _ r b t (parts_sound r b (length b) t n) refl refl refl g (sym (register-part r b t n)) (sym (book-part r b t n)) (sym d') refl in
    let m : 28 ≤ length f = omega (arith, file-long r b t n) in (
      sym (day-whole f (part 0 16 f) (length r) (length b) n refl x y z m (named r b t n) (sym w ∙ s)),
      ap (λ (k : ℕ). between 28 (28 + k) f) (sym x) ∙ register-part r b t n,
      ap (λ (k : ℕ). between (28 + k) (28 + k + used_in f) f) (sym x) ∙ ap (λ (k : ℕ). between (28 + length r) (28 + length r + k) f) (sym y) ∙ book-part r b t n,
      ap (λ (k : ℕ). between (28 + k + used_in f) (28 + k + used_in f + rows_in f * 67) f) (sym x)
          ∙ ap (λ (k : ℕ). between (28 + length r + k) (28 + length r + k + rows_in f * 67) f) (sym y)
          ∙ ap (λ (k : ℕ). between (28 + length r + length b) (28 + length r + length b + k * 67) f) (sym z)
          ∙ d',
    )

pub claims : All
claims = loaded-as-saved
