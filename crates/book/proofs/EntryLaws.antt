-- Entries one by one: a message's, those that stand, those of a message, and those marked. Assumes nothing.
use mathlib.Core.Path.{◌≡◌, refl, ap}
use mathlib.Core.Bool.{Bool, true, false}
use mathlib.Core.List.{List, [], ◌∷◌, ◌++◌}
use Prim.Native.Nat.{ℕ, zero, suc, ◌<◌}
use native.Mathlib.Nat.{le_of_suc-le-suc, not-suc-le-zero}
use borrow.Author.Tests.{eq-eqb, ne_eqb}
use lib.Dec.{eqb}
use lib.ListN.{length, get_or, set}
use Rattle.lists.specs.Logic.{on}
use Rattle.book.specs.Entries.{kind_of, number_of, entry_body, entry_of, entries_of}
use Rattle.book.specs.Rules.{message_entries, others, marked_withdrawn, withdrawn, standing}

pub entry-kind : (n s : ℕ) (body : List ℕ) → kind_of (entry_of n s body) ≡ 2
unfolding entry_of
entry-kind n s body = refl

pub entries_at : (n s : ℕ) (bodies : List (List ℕ)) (i : ℕ) → i < length bodies → get_or (entries_of n s bodies) i [] ≡ entry_of n s (get_or bodies i [])
unfolding entries_of
entries_at n s [] i h = absurd (not-suc-le-zero h)
entries_at n s (b ∷ bs) zero h = refl
entries_at n s (b ∷ bs) (suc i) h = entries_at n s bs i (le_of_suc-le-suc h)

-- ---- one entry

module _ (e : List ℕ) where
  pub stands : (kind_of e ≡ 2 → standing (e ∷ []) ≡ entry_body e ∷ []) × ((kind_of e ≡ 2 → ⊥) → standing (e ∷ []) ≡ [])
  unfolding standing
  stands = (λ h. rw (eq-eqb (kind_of e) 2 h), λ h. rw (ne_eqb (kind_of e) 2 h))

  pub of-message : (n : ℕ) → (number_of e ≡ n → message_entries n (e ∷ []) ≡ e ∷ []) × ((number_of e ≡ n → ⊥) → message_entries n (e ∷ []) ≡ [])
  unfolding message_entries
  of-message n = (λ h. rw (eq-eqb (number_of e) n h), λ h. rw (ne_eqb (number_of e) n h))

  pub of_others : (n : ℕ) → (number_of e ≡ n → others n (e ∷ []) ≡ []) × ((number_of e ≡ n → ⊥) → others n (e ∷ []) ≡ e ∷ [])
  unfolding others
  of_others n = (λ h. rw (eq-eqb (number_of e) n h), λ h. rw (ne_eqb (number_of e) n h))

-- ---- one after another

module _ (n : ℕ) where
  pub message-append : (xs ys : List (List ℕ)) → message_entries n (xs ++ ys) ≡ message_entries n xs ++ message_entries n ys
  unfolding message_entries
  message-append [] ys = refl
  message-append (x ∷ xs) ys = go (eqb (number_of x) n) (message-append xs ys)
    where
      go : (t : Bool) → message_entries n (xs ++ ys) ≡ message_entries n xs ++ message_entries n ys
          → on t (x ∷ message_entries n (xs ++ ys)) (message_entries n (xs ++ ys)) ≡ on t (x ∷ message_entries n xs) (message_entries n xs) ++ message_entries n ys
      go true ih = ap (λ (r : List (List ℕ)). x ∷ r) ih
      go false ih = ih

  pub others-append : (xs ys : List (List ℕ)) → others n (xs ++ ys) ≡ others n xs ++ others n ys
  unfolding others
  others-append [] ys = refl
  others-append (x ∷ xs) ys = go (eqb (number_of x) n) (others-append xs ys)
    where
      go : (t : Bool) → others n (xs ++ ys) ≡ others n xs ++ others n ys
          → on t (others n (xs ++ ys)) (x ∷ others n (xs ++ ys)) ≡ on t (others n xs) (x ∷ others n xs) ++ others n ys
      go true ih = ih
      go false ih = ap (λ (r : List (List ℕ)). x ∷ r) ih

  pub withdrawn-length : (us : List (List ℕ)) → length (withdrawn n us) ≡ length us
  unfolding withdrawn
  withdrawn-length [] = refl
  withdrawn-length (e ∷ es) = ap suc (withdrawn-length es)

  pub withdrawn-at : (us : List (List ℕ)) (i : ℕ) → i < length us →
      let e = get_or us i [] in
      (number_of e ≡ n → get_or (withdrawn n us) i [] ≡ set e 0 3) × ((number_of e ≡ n → ⊥) → get_or (withdrawn n us) i [] ≡ e)
  unfolding withdrawn marked_withdrawn
  withdrawn-at [] i h = absurd (not-suc-le-zero h)
  withdrawn-at (e ∷ es) zero h = (λ k. rw (eq-eqb (number_of e) n k), λ k. rw (ne_eqb (number_of e) n k))
  withdrawn-at (e ∷ es) (suc i) h = withdrawn-at es i (le_of_suc-le-suc h)
