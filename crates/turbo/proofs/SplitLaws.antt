use Prim.Native.Nat.{ℕ, zero, suc, ◌+◌, ◌≤◌, ◌<◌, ◌-◌}
use native.Mathlib.Numerals.{add-one}
use native.Mathlib.Omega.{arith}
use mathlib.Core.Path.{◌≡◌, refl, sym, ap, ◌∙◌}
use mathlib.Core.Bool.{Bool, true, false}
use mathlib.Core.List.{List, [], ◌∷◌}
use borrow.Author.Tests.{ltb-true, ltb-false, eq-eqb, ne_eqb}
use lib.ListN.{length, get_or, take, drop, drop_of_length-le}
use lib.Seq.{drop-cons, take_all}
use lib.Dec.{eqb, ltb}
use Rattle.lists.specs.Logic.{on}
use Rattle.lists.specs.Scan.{IsFirst}
use Rattle.lists.proofs.PartLaws.{tail_all}
use Rattle.lists.proofs.ScanLaws.{first-counted}
use Rattle.turbo.specs.Split.{until, past, into_first, fields, field_at, tail_at}

-- Laws of fields: by the first of them, and what the walk over them cites. Assumes nothing.

-- `until` is the first so many bytes
pub until-take : (x : ℕ) (l : List ℕ) → take (length (until x l)) l ≡ until x l
unfolding until
until-take x [] = refl
until-take x (b ∷ l) = go (eqb b x) (until-take x l)
  where
    go : (t : Bool) → take (length (until x l)) l ≡ until x l → take (length (on t [] (b ∷ until x l))) (b ∷ l) ≡ on t [] (b ∷ until x l)
    go true h = refl
    go false h = ap (λ (m : List ℕ). b ∷ m) h

pub until-le : (x : ℕ) (l : List ℕ) → length (until x l) ≤ length l
unfolding until
until-le x [] = omega arith
until-le x (b ∷ l) = go (eqb b x) (until-le x l)
  where
    go : (t : Bool) → length (until x l) ≤ length l → length (on t [] (b ∷ until x l)) ≤ suc (length l)
    go true h = omega arith
    go false h = omega arith

-- `past` is what follows the first x
pub past-drop : (x : ℕ) (l : List ℕ) → past x l ≡ drop (suc (length (until x l))) l
unfolding until past
past-drop x [] = refl
past-drop x (b ∷ l) = go (eqb b x) (past-drop x l)
  where
    go : (t : Bool) → past x l ≡ drop (suc (length (until x l))) l → on t l (past x l) ≡ drop (length (on t [] (b ∷ until x l))) l
    go true h = refl
    go false h = h

-- a line with a bar has its first field and those of what follows the bar; a line with no bar is one field
pub fields-more : (l : List ℕ) → length (until 124 l) < length l → fields l ≡ until 124 l ∷ fields (past 124 l)
unfolding until past fields
fields-more [] h = absurd (omega arith)
fields-more (b ∷ l) h = go (eqb b 124) h (fields-more l)
  where
    go : (t : Bool) → length (on t [] (b ∷ until 124 l)) < suc (length l) → (length (until 124 l) < length l → fields l ≡ until 124 l ∷ fields (past 124 l)) → on t ([] ∷ fields l) (into_first b (fields l)) ≡ on t [] (b ∷ until 124 l) ∷ fields (on t l (past 124 l))
    go true g f = refl
    go false g f = rw (f (omega arith)) refl

pub fields-one : (l : List ℕ) → length l ≤ length (until 124 l) → fields l ≡ l ∷ []
unfolding until fields
fields-one [] h = refl
fields-one (b ∷ l) h = go (eqb b 124) h (fields-one l)
  where
    go : (t : Bool) → suc (length l) ≤ length (on t [] (b ∷ until 124 l)) → (length l ≤ length (until 124 l) → fields l ≡ l ∷ []) → on t ([] ∷ fields l) (into_first b (fields l)) ≡ (b ∷ l) ∷ []
    go true g f = absurd (omega arith)
    go false g f = rw (f (omega arith)) refl

-- a line with no x
pub until-all : (x : ℕ) (l : List ℕ) → length l ≤ length (until x l) → until x l ≡ l
until-all x l h = sym (until-take x l) ∙ take_all _ l h

pub past-none : (x : ℕ) (l : List ℕ) → length l ≤ length (until x l) → past x l ≡ []
past-none x l h = past-drop x l ∙ drop_of_length-le l {i = suc (length (until x l))} (omega arith)

-- the fields of a line and of its tail
pub field-first : (l : List ℕ) → until 124 l ≡ field_at 0 l
unfolding field_at
field-first l = go (ltb (length (until 124 l)) (length l)) refl
  where
    go : (t : Bool) → ltb (length (until 124 l)) (length l) ≡ t → until 124 l ≡ get_or (fields l) 0 []
    go true e = rw (fields-more l (ltb-true _ _ e))
    go false e = rw (fields-one l (ltb-false _ _ e)) (until-all 124 l (ltb-false _ _ e))

field-none : (k : ℕ) → field_at k [] ≡ []
unfolding field_at fields
field-none zero = refl
field-none (suc k) = refl

pub field_next : (k : ℕ) (l : List ℕ) → field_at k (past 124 l) ≡ field_at (suc k) l
unfolding field_at
field_next k l = go (ltb (length (until 124 l)) (length l)) refl
  where
    go : (t : Bool) → ltb (length (until 124 l)) (length l) ≡ t → field_at k (past 124 l) ≡ get_or (fields l) (suc k) []
    go true e = rw (fields-more l (ltb-true _ _ e))
    go false e = rw (fields-one l (ltb-false _ _ e), past-none 124 l (ltb-false _ _ e)) (field-none k)

-- what the walk cites, at n where the bar was found
pub upto_is : (x n : ℕ) (l : List ℕ) → n ≡ length (until x l) → take n l ≡ until x l
upto_is x n l e = rw e (until-take x l)

pub rest-is : (x n : ℕ) (l : List ℕ) → n ≡ length (until x l) → take (length l - (n + 1)) (drop (n + 1) l) ≡ past x l
rest-is x n l e = tail_all (n + 1) l ∙ rw (e, add-one) (sym (past-drop x l))

pub past_is : (x n : ℕ) (l : List ℕ) → n ≡ length (until x l) → drop (n + 1) l ≡ past x l
past_is x n l e = rw (e, add-one) (sym (past-drop x l))

-- the fields of a tail
pub field-tail : (k : ℕ) (l : List ℕ) → until 124 (tail_at k l) ≡ field_at k l
unfolding tail_at
field-tail zero l = field-first l
field-tail (suc k) l = field-tail k (past 124 l) ∙ field_next k l

pub tail-next : (k : ℕ) (l : List ℕ) → tail_at (suc k) l ≡ tail_at k (past 124 l)
unfolding tail_at
tail-next k l = refl

pub tail-zero : (l : List ℕ) → tail_at 0 l ≡ l
unfolding tail_at
tail-zero l = refl

-- a bar more, from the back
pub tail-past : (k : ℕ) (l : List ℕ) → past 124 (tail_at k l) ≡ tail_at (suc k) l
tail-past zero l = ap (past 124) (tail-zero l) ∙ sym (tail-next 0 l ∙ tail-zero (past 124 l))
tail-past (suc k) l = ap (past 124) (tail-next k l) ∙ tail-past k (past 124 l) ∙ sym (tail-next (suc k) l)

-- how many fields there are
pub onto-length : (b : ℕ) (fs : List (List ℕ)) → 0 < length fs → length (into_first b fs) ≡ length fs
onto-length b [] h = absurd (omega arith)
onto-length b (f ∷ fs) h = refl

pub fields-some : (l : List ℕ) → 0 < length (fields l)
unfolding fields
fields-some [] = omega arith
fields-some (b ∷ l) = go (eqb b 124) (fields-some l)
  where
    go : (t : Bool) → 0 < length (fields l) → 0 < length (on t ([] ∷ fields l) (into_first b (fields l)))
    go true h = omega arith
    go false h = omega (arith, onto-length b (fields l) h)

-- where a test first holds that tells the byte x
pub first-until : {may : ℕ → Bool → Type 0} {n : ℕ} (x : ℕ) (l : List ℕ) → IsFirst may l n → ((b : ℕ) → may b false → b ≡ x → ⊥) → ((b : ℕ) → may b true → b ≡ x) → n ≡ length (until x l)
unfolding until
first-until {may} {n} x l f miss hit = first-counted {may = may} (λ l. length (until x l)) refl there past l n f
  where
    there : (b : ℕ) (l : List ℕ) → may b true → length (on (eqb b x) [] (b ∷ until x l)) ≡ 0
    there b l p = rw (eq-eqb b x (hit b p)) refl

    past : (b : ℕ) (l : List ℕ) → may b false → length (on (eqb b x) [] (b ∷ until x l)) ≡ suc (length (until x l))
    past b l p = rw (ne_eqb b x (miss b p)) refl
