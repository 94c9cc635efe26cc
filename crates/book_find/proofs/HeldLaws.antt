-- What is known of a message that is found, and of one that is not. Assumes nothing.
use mathlib.Core.Path.{◌≡◌, refl, sym, ap, ◌∙◌}
use mathlib.Core.Bool.{Bool, true, false}
use mathlib.Core.List.{List, [], ◌∷◌}
use Prim.Native.Nat.{ℕ, suc, ◌+◌, ◌*◌, ◌≤◌, ◌<◌}
use native.Mathlib.Omega.{arith}
use borrow.Author.Tests.{eqb-true, eqb-false}
use lib.Dec.{eqb}
use lib.ListN.{length, drop, get_or, drop_of_length-le}
use lib.Seq.{take-nil, drop-drop}
use Rattle.lists.specs.Each.{Each}
use Rattle.lists.specs.Logic.{on}
use Rattle.lists.specs.Part.{part}
use Rattle.lists.specs.Rows.{rows_of}
use Rattle.lists.proofs.RowLaws.{row-at}
use Rattle.std.specs.Prelude.{Option, None, Some}
use Rattle.book.specs.Entries.{plan_wide, entry_wide, kind_of, number_of, sender_of, plan_count, updates_in}
use Rattle.book.specs.Rules.{no_entry, book_sound, message_entries}
use Rattle.book_find.specs.inner.Held.{held_as}
use Rattle.book.proofs.SoundLaws.{sound-facts}
use Rattle.book.proofs.SplitLaws.{sound-split, split-updates, update_count, length-updates}
use Rattle.book.proofs.MessageLaws.{message-run, message-like}
use Rattle.book.proofs.AfterLaws.{run-within, message-read}
use Rattle.book.specs.inner.Steps.{first_entry_of, run_of}

-- ---- the answer, taken apart

place : Option (ℕ × ℕ) → ℕ
place None = 0
place (Some (i, k)) = i

count : Option (ℕ × ℕ) → ℕ
count None = 0
count (Some (i, k)) = k

is_at : Option (ℕ × ℕ) → ℕ
is_at None = 0
is_at (Some (i, k)) = 1

module _ (n : ℕ) (us : List (List ℕ)) where
  abbrev run : ℕ
  run = run_of n (drop (first_entry_of n us) us)

  pub held-is : (i k : ℕ) → held_as n us ≡ Some (i, k) → (i ≡ first_entry_of n us) × (k ≡ run) × (first_entry_of n us ≡ length us → ⊥)
  unfolding held_as place count is_at
  held-is i k = go (eqb (first_entry_of n us) (length us)) refl
    where
      go : (t : Bool) → eqb (first_entry_of n us) (length us) ≡ t → on {A = Option (ℕ × ℕ)} t None (Some (first_entry_of n us, run)) ≡ Some (i, k) → (i ≡ first_entry_of n us) × (k ≡ run) × (first_entry_of n us ≡ length us → ⊥)
      go true q e = absurd (let z : ◌≡◌ {A = ℕ} 0 1 = ap is_at e in omega arith)
      go false q e = (sym (ap place e), sym (ap count e), eqb-false (first_entry_of n us) (length us) q)

  pub held-not : held_as n us ≡ None → first_entry_of n us ≡ length us
  unfolding held_as is_at
  held-not = go (eqb (first_entry_of n us) (length us)) refl
    where
      go : (t : Bool) → eqb (first_entry_of n us) (length us) ≡ t → on {A = Option (ℕ × ℕ)} t None (Some (first_entry_of n us, run)) ≡ None → first_entry_of n us ≡ length us
      go true q e = eqb-true (first_entry_of n us) (length us) q
      go false q e = absurd (let z : ◌≡◌ {A = ℕ} 1 0 = ap is_at e in omega arith)

-- a run that begins is not empty
run-some : (n : ℕ) (us : List (List ℕ)) → (first_entry_of n us ≡ length us → ⊥) → 0 < run_of n (drop (first_entry_of n us) us)
unfolding first_entry_of run_of
run-some n [] h = absurd (h refl)
run-some n (e ∷ es) h = go (eqb (number_of e) n) refl h (run-some n es)
  where
    go : (t : Bool) → eqb (number_of e) n ≡ t → (on t 0 (suc (first_entry_of n es)) ≡ suc (length es) → ⊥) → ((first_entry_of n es ≡ length es → ⊥) → 0 < run_of n (drop (first_entry_of n es) es))
        → 0 < run_of n (drop (on t 0 (suc (first_entry_of n es))) (e ∷ es))
    go true q h ih = rw q (omega arith)
    go false q h ih = ih (λ r. h (ap suc r))

-- ---- in a sound book

module _ (used : ℕ) (b : List ℕ) (n : ℕ) (sound : book_sound used b ≡ true) where
  abbrev us : List (List ℕ)
  us = updates_in used b

  pub found-message : (i k : ℕ) → held_as n us ≡ Some (i, k)
      → (i + k ≤ length us) × (0 < k) × (rows_of entry_wide k (drop (plan_count used b * plan_wide + i * entry_wide) b) ≡ message_entries n us)
  found-message i k e =
      let h = held-is n us i k e in
      let l = length-updates used b sound in
      let r = run-within used b sound n in
      rw (h.0, h.1) (omega arith, run-some n us h.2, message-read used b sound n)

  pub missing-message : held_as n us ≡ None → message_entries n us ≡ []
  missing-message e =
      let h : length us ≤ first_entry_of n us = let q = held-not n us e in omega arith in
      message-run n no_entry us (sound-facts used b sound).chain ∙ rw (drop_of_length-le us h) (take-nil (run_of n []))

  -- the first entry of the message is the bytes from there on
  pub first_entry : (i k : ℕ) → held_as n us ≡ Some (i, k) → get_or us i [] ≡ part (plan_count used b * plan_wide + i * entry_wide) entry_wide b
  unfolding part
  first_entry i k e =
      let f = found-message i k e in
      let l = length-updates used b sound in
      let h : i < update_count used b = omega (arith, f.0, f.1) in
      let p = plan_count used b in
      rw (split-updates used b p (update_count used b) (sound-split used b sound)) (row-at entry_wide (update_count used b) i (drop (p * plan_wide) b) h ∙ rw (drop-drop (i * entry_wide) (p * plan_wide) b))

  -- all its entries have that one's sender and kind
  pub found-like : (i k : ℕ) → held_as n us ≡ Some (i, k) → Each (λ (e : List ℕ). (sender_of e ≡ sender_of (get_or us i [])) × (kind_of e ≡ kind_of (get_or us i []))) (message_entries n us)
  found-like i k e = rw (held-is n us i k e).0 (message-like n no_entry us (sound-facts used b sound).chain)
