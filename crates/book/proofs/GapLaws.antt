-- Entries of which some are left out are still in order. Assumes nothing.
use mathlib.Core.Path.{◌≡◌, refl, ◌∙◌}
use mathlib.Core.Bool.{Bool, true, false, ◌&&◌, ◌||◌}
use mathlib.Core.Logic.{◌⊎◌, inl, inr}
use mathlib.Core.List.{List, [], ◌∷◌}
use Prim.Native.Nat.{ℕ, ◌<◌}
use native.Mathlib.Omega.{arith}
use borrow.Author.Tests.{lt-ltb, ltb-true, eq-eqb, eqb-true}
use lib.Dec.{eqb, ltb}
use Rattle.lists.specs.Logic.{on}
use Rattle.lists.proofs.LogicLaws.{and-pass, or-true}
use Rattle.book.specs.Entries.{kind_of, number_of, sender_of}
use Rattle.book.specs.Rules.{entry_in_range}
use Rattle.book.specs.Gaps.{follows, linked, left}

abbrev Later : List ℕ → List ℕ → Type 0
Later a e = number_of a < number_of e

abbrev GoesOn : List ℕ → List ℕ → Type 0
GoesOn a e = (number_of e ≡ number_of a) × (sender_of e ≡ sender_of a) × (kind_of e ≡ kind_of a)

told : (a e : List ℕ) → follows a e ≡ true → Later a e ⊎ GoesOn a e
unfolding follows
told a e h = go (ltb (number_of a) (number_of e)) refl h
  where
    rest : Bool
    rest = eqb (number_of e) (number_of a) && (eqb (sender_of e) (sender_of a) && eqb (kind_of e) (kind_of a))

    go : (t : Bool) → ltb (number_of a) (number_of e) ≡ t → (t || rest) ≡ true → Later a e ⊎ GoesOn a e
    go true q h = inl (ltb-true _ _ q)
    go false q h =
        let x = and-pass (eqb (number_of e) (number_of a)) _ h in
        let y = and-pass (eqb (sender_of e) (sender_of a)) _ x.1 in
        inr (eqb-true _ _ x.0, eqb-true _ _ y.0, eqb-true _ _ y.1)

later : (a e : List ℕ) → Later a e → follows a e ≡ true
unfolding follows
later a e h = rw (lt-ltb (number_of a) (number_of e) h)

goes_on : (a e : List ℕ) → GoesOn a e → follows a e ≡ true
unfolding follows
goes_on a e h =
    rw (eq-eqb (number_of e) (number_of a) h.0, eq-eqb (sender_of e) (sender_of a) h.1, eq-eqb (kind_of e) (kind_of a) h.2)
    (or-true (ltb (number_of a) (number_of e)))

pub follows-trans : (a b c : List ℕ) → follows a b ≡ true → follows b c ≡ true → follows a c ≡ true
follows-trans a b c p q = go (told a b p) (told b c q)
  where
    go : Later a b ⊎ GoesOn a b → Later b c ⊎ GoesOn b c → follows a c ≡ true
    go (inl l) (inl m) = later a c (omega (arith, l, m))
    go (inl l) (inr m) = later a c (omega (arith, l, m.0))
    go (inr l) (inl m) = later a c (omega (arith, l.0, m))
    go (inr l) (inr m) = goes_on a c (m.0 ∙ l.0, m.1 ∙ l.1, m.2 ∙ l.2)

record Link (a e : List ℕ) (es : List (List ℕ)) : Type 0 where
  range : entry_in_range e ≡ true
  next : follows a e ≡ true
  chain : linked e es ≡ true

link : (a e : List ℕ) (es : List (List ℕ)) → linked a (e ∷ es) ≡ true → Link a e es
unfolding linked
link a e es h =
    let x = and-pass (entry_in_range e) _ h in
    let y = and-pass (follows a e) _ x.1 in
    record { range = x.0; next = y.0; chain = y.1 }

lower : (a b : List ℕ) (es : List (List ℕ)) → follows a b ≡ true → linked b es ≡ true → linked a es ≡ true
unfolding linked
lower a b [] f h = refl
lower a b (e ∷ es) f h = let l = link b e es h in rw (l.range, follows-trans a b e f l.next, l.chain)

-- whatever is left out, the rest is in order
pub linked-left : (P : List ℕ → Bool) (a : List ℕ) (es : List (List ℕ)) → linked a es ≡ true → linked a (left P es) ≡ true
unfolding linked left
linked-left P a [] h = refl
linked-left P a (e ∷ es) h =
    let l = link a e es h in
    go (P e) (linked-left P e es l.chain) (linked-left P a es (lower a e es l.next l.chain))
  where
    go : (t : Bool) → linked e (left P es) ≡ true → linked a (left P es) ≡ true → linked a (on t (e ∷ left P es) (left P es)) ≡ true
    go true x y = let l = link a e es h in rw (l.range, l.next) x
    go false x y = y
