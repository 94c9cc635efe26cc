-- Message numbers: the last of the updates, and where a message may stand. Assumes nothing.
use mathlib.Core.Path.{◌≡◌, refl, ap, ◌∙◌}
use mathlib.Core.Bool.{Bool, true, false, ◌&&◌, ◌||◌}
use mathlib.Core.List.{List, [], ◌∷◌}
use mathlib.Core.Logic.{◌⊎◌, inl, inr, ⊎_elim}
use Prim.Native.Nat.{ℕ, suc, ◌+◌, ◌*◌, ◌-◌, ◌/◌, ◌≤◌}
use native.Mathlib.Omega.{arith}
use borrow.Author.Tests.{eqb-true}
use lib.Dec.{eqb}
use lib.ListN.{length}
use Rattle.lists.specs.Logic.{on}
use Rattle.lists.specs.Part.{part}
use Rattle.lists.specs.BigEndian.{number}
use Rattle.lists.proofs.LogicLaws.{and-pass}
use Rattle.lists.proofs.RowLaws.{length-rows_of}
use Rattle.book.specs.Entries.{plan_wide, entry_wide, kind_of, number_of, sender_of, plan_count, updates_in}
use Rattle.book.specs.Rules.{entry_in_range, may_follow, chained, no_entry, last_from, next_number, book_sound}
use Rattle.book.proofs.SoundLaws.{sound-facts, used-within, updates-are}
use Rattle.book.specs.inner.Steps.{first_entry_of, run_of}

-- ---- what one link of a chain tells

-- the next message begins, or the same goes on
abbrev pub Begins : List ℕ → List ℕ → Type 0
Begins before e = number_of e ≡ number_of before + 1

abbrev pub GoesOn : List ℕ → List ℕ → Type 0
GoesOn before e = (number_of e ≡ number_of before) × (sender_of e ≡ sender_of before) × (kind_of e ≡ kind_of before)

pub follow-cases : (before e : List ℕ) → may_follow before e ≡ true → Begins before e ⊎ GoesOn before e
unfolding may_follow
follow-cases before e h = go (eqb (number_of e) (number_of before + 1)) refl h
  where
    same : Bool
    same = eqb (number_of e) (number_of before) && eqb (sender_of e) (sender_of before) && eqb (kind_of e) (kind_of before)

    go : (t : Bool) → eqb (number_of e) (number_of before + 1) ≡ t → (t || same) ≡ true → Begins before e ⊎ GoesOn before e
    go true q h = inl (eqb-true _ _ q)
    go false q h =
        let x = and-pass (eqb (number_of e) (number_of before) && eqb (sender_of e) (sender_of before)) _ h in
        let y = and-pass (eqb (number_of e) (number_of before)) _ x.0 in
        inr (eqb-true _ _ y.0, eqb-true _ _ y.1, eqb-true _ _ x.1)

pub record Link (before e : List ℕ) (es : List (List ℕ)) : Type 0 where
  pub range : entry_in_range e ≡ true
  pub follows : may_follow before e ≡ true
  pub chain : chained e es ≡ true

pub link : (before e : List ℕ) (es : List (List ℕ)) → chained before (e ∷ es) ≡ true → Link before e es
unfolding chained
link before e es h =
    let x = and-pass (entry_in_range e && may_follow before e) _ h in
    let y = and-pass (entry_in_range e) _ x.0 in
    record { range = y.0; follows = y.1; chain = x.1 }

-- a link raises the number by at most one
pub link-number : (before e : List ℕ) → may_follow before e ≡ true → (number_of before ≤ number_of e) × (number_of e ≤ number_of before + 1)
link-number before e h = ⊎_elim (λ q. (omega (arith, q), omega (arith, q))) (λ q. (omega (arith, q.0), omega (arith, q.0))) (follow-cases before e h)

-- ---- the last number is at most the count of updates

last-number : (before : List ℕ) (es : List (List ℕ)) → chained before es ≡ true → number_of (last_from before es) ≤ number_of before + length es
unfolding last_from
last-number before [] h = omega arith
last-number before (e ∷ es) h =
    let l = link before e es h in
    let n = link-number before e l.follows in
    let r = last-number e es l.chain in
    omega (arith, n.1)

pub no-number : number_of no_entry ≡ 0
unfolding no_entry number part
no-number = refl

pub no_sender : sender_of no_entry ≡ 0
unfolding no_entry
no_sender = refl

pub next-is : (used : ℕ) (b : List ℕ) → number_of (last_from no_entry (updates_in used b)) + 1 ≡ next_number (updates_in used b)
unfolding next_number
next-is used b = refl

-- of a sound book
module _ (used : ℕ) (b : List ℕ) (sound : book_sound used b ≡ true) where
  pub last-most : number_of (last_from no_entry (updates_in used b)) ≤ 4096
  last-most =
      let f = sound-facts used b sound in
      let h = last-number no_entry (updates_in used b) f.chain in
      let u = used-within used b f in
      let l : length (updates_in used b) ≡ (used - plan_count used b * plan_wide) / entry_wide = ap length (updates-are used b _ refl) ∙ length-rows_of entry_wide _ _ in
      let z = no-number in
      omega (arith, u.1)

-- ---- where a message stands

pub first-within : (n : ℕ) (es : List (List ℕ)) → first_entry_of n es ≤ length es
unfolding first_entry_of
first-within n [] = omega arith
first-within n (e ∷ es) = go (eqb (number_of e) n) (first-within n es)
  where
    go : (t : Bool) → first_entry_of n es ≤ length es → on t 0 (suc (first_entry_of n es)) ≤ suc (length es)
    go true h = omega arith
    go false h = omega arith

pub run-most : (n : ℕ) (es : List (List ℕ)) → run_of n es ≤ length es
unfolding run_of
run-most n [] = omega arith
run-most n (e ∷ es) = go (eqb (number_of e) n) (run-most n es)
  where
    go : (t : Bool) → run_of n es ≤ length es → on t (suc (run_of n es)) 0 ≤ suc (length es)
    go true h = omega arith
    go false h = omega arith
