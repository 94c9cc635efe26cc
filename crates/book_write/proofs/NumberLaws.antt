-- The next number: that of the last update and one more, or 1. Assumes nothing.
use mathlib.Core.Path.{◌≡◌, refl, sym, ap, ◌∙◌}
use mathlib.Core.Bool.{true}
use mathlib.Core.List.{List, [], ◌∷◌, ◌++◌}
use Prim.Native.Nat.{ℕ, ◌+◌, ◌*◌, ◌-◌, ◌/◌, ◌%◌, ◌≤◌}
use native.Mathlib.Omega.{arith}
use lib.ListN.{drop}
use lib.Seq.{drop-drop}
use Rattle.lists.specs.Part.{part}
use Rattle.lists.specs.Rows.{rows_of}
use Rattle.lists.specs.BigEndian.{number}
use Rattle.book.specs.Entries.{plan_wide, entry_wide, number_offset, number_wide, number_of, plan_count, updates_in}
use Rattle.book.specs.Rules.{no_entry, last_from, next_number, book_sound}
use Rattle.book.proofs.PlaceLaws.{number-from}
use Rattle.book.proofs.SoundLaws.{sound-facts, updates-are, count-within}
use Rattle.book.proofs.WriteLaws.{rows_of-snoc}
use Rattle.book.proofs.NumberLaws.{no-number}

last_snoc : (e x : List ℕ) (es : List (List ℕ)) → last_from e (es ++ x ∷ []) ≡ x
unfolding last_from
last_snoc e x [] = refl
last_snoc e x (y ∷ es) = last_snoc y x es

-- of a sound book with n plan entries
module _ (used : ℕ) (b : List ℕ) (sound : book_sound used b ≡ true) (n : ℕ) (e : n ≡ plan_count used b) where
  pub next-first : used ≡ n * plan_wide → 1 ≡ next_number (updates_in used b)
  unfolding next_number last_from rows_of
  next-first h =
      let m : (used - n * plan_wide) / entry_wide ≡ 0 = omega arith in
      rw (updates-are used b n e, m, no-number)

  whole : (used - n * plan_wide) % entry_wide ≡ 0
  whole = rw e (sound-facts used b sound).whole

  pub last_fits : (used ≡ n * plan_wide → ⊥) → n * plan_wide + entry_wide ≤ used
  last_fits h =
      let w = whole in
      let k = count-within used b n e in
      omega arith

  last-is : (used ≡ n * plan_wide → ⊥) → last_from no_entry (updates_in used b) ≡ part (used - entry_wide) entry_wide b
  unfolding part
  last-is h =
      let w = whole in
      let k = last_fits h in
      let m = (used - n * plan_wide) / entry_wide in
      let p : m ≡ (m - 1) + 1 = omega arith in
      let q : n * plan_wide + (m - 1) * entry_wide ≡ used - entry_wide = omega arith in
      let r : rows_of entry_wide m (drop (n * plan_wide) b) ≡ rows_of entry_wide (m - 1) (drop (n * plan_wide) b) ++ part (used - entry_wide) entry_wide b ∷ [] =
      ap (λ (j : ℕ). rows_of entry_wide j (drop (n * plan_wide) b)) p
      ∙ rows_of-snoc entry_wide (m - 1) (drop (n * plan_wide) b)
      ∙ rw (drop-drop ((m - 1) * entry_wide) (n * plan_wide) b, q) in
      ap (last_from no_entry) (updates-are used b n e ∙ r) ∙ last_snoc no_entry (part (used - entry_wide) entry_wide b) (rows_of entry_wide (m - 1) (drop (n * plan_wide) b))

  pub next-after : (used ≡ n * plan_wide → ⊥) → number (part (used - entry_wide + number_offset) number_wide b) ≡ number_of (last_from no_entry (updates_in used b))
  next-after h = sym (ap number_of (last-is h) ∙ number-from (used - entry_wide) b)
