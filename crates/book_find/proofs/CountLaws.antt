-- The updates of one number: how many stand before the first, how many follow each other, and where by these counts the message stands. Assumes nothing.
use mathlib.Core.Path.{◌≡◌, refl, sym, ◌∙◌}
use mathlib.Core.Bool.{Bool, true, false, not, beq}
use mathlib.Core.List.{List}
use Prim.Native.Nat.{ℕ, suc, ◌+◌, ◌*◌, ◌-◌, ◌≤◌, ◌<◌}
use native.Mathlib.Omega.{arith}
use borrow.Author.Tests.{eq-eqb, ne_eqb}
use lib.Dec.{eqb}
use lib.ListN.{length, drop}
use lib.Seq.{drop-drop}
use Rattle.lists.specs.Part.{part}
use Rattle.lists.specs.Rows.{rows_of}
use Rattle.lists.specs.BigEndian.{number}
use Rattle.lists.proofs.RowLaws.{length-rows_of, drop-rows_of}
use Rattle.book.specs.Entries.{number_offset, number_wide, entry_wide}
use Rattle.book.proofs.PlaceLaws.{number-from, rest, rest-start, rest-step, rest_end}
use Rattle.book.proofs.NumberLaws.{first-within}
use Rattle.std.specs.Prelude.{None, Some}
use Rattle.book_find.specs.inner.Held.{leading_of, held_as}
use Rattle.book.specs.inner.Steps.{first_entry_of, run_of}

-- ---- a test that is compared with what is wanted of it

pub as_wanted : (t own : Bool) → not (beq t own) ≡ false → t ≡ own
as_wanted true true e = refl
as_wanted true false e = e
as_wanted false true e = sym e
as_wanted false false e = refl

pub not-as-wanted : (t own : Bool) → not (beq t own) ≡ true → t ≡ not own
not-as-wanted true true e = sym e
not-as-wanted true false e = refl
not-as-wanted false true e = refl
not-as-wanted false false e = e

-- ---- how many lead that are of the message, or, if not `own`, that are not

module _ (b : List ℕ) (at m n : ℕ) where
  -- the number of update i
  abbrev number-at : ℕ → ℕ
  number-at i = number (part (at + i * entry_wide + number_offset) number_wide b)

  module _ (i : ℕ) (h : i < m) where
    here : (own : Bool) → eqb (number-at i) n ≡ own → leading_of own n (rest b at m i) ≡ suc (leading_of own n (rest b at m (i + 1)))
    unfolding first_entry_of run_of
    here true e = rw (rest-step b at m i h, number-from (at + i * entry_wide) b, e)
    here false e = rw (rest-step b at m i h, number-from (at + i * entry_wide) b, e)

    elsewhere : (own : Bool) → eqb (number-at i) n ≡ not own → leading_of own n (rest b at m i) ≡ 0
    unfolding first_entry_of run_of
    elsewhere true e = rw (rest-step b at m i h, number-from (at + i * entry_wide) b, e)
    elsewhere false e = rw (rest-step b at m i h, number-from (at + i * entry_wide) b, e)

  none : (own : Bool) (i : ℕ) → m ≤ i → leading_of own n (rest b at m i) ≡ 0
  unfolding first_entry_of run_of
  none true i h = rw (rest_end b at m i h)
  none false i h = rw (rest_end b at m i h)

  module _ (own : Bool) where
    -- i lead, and those of the rest that lead
    abbrev pub Leads : ℕ → Type 0
    Leads i = leading_of own n (rows_of entry_wide m (drop at b)) ≡ i + leading_of own n (rest b at m i)

    pub leads-start : Leads 0
    leads-start = rw (rest-start b at m) (omega arith)

    pub leads-turn : (i : ℕ) → i < m → Leads i → eqb (number-at i) n ≡ own → Leads (i + 1)
    leads-turn i h l e = let a = here i h own e in l ∙ omega arith

    pub leads-until : (i : ℕ) → i < m → Leads i → eqb (number-at i) n ≡ not own → i ≡ leading_of own n (rows_of entry_wide m (drop at b))
    leads-until i h l e = let a = elsewhere i h own e in sym (l ∙ omega arith)

    pub leads-end : (i : ℕ) → i ≡ m → Leads i → m ≡ leading_of own n (rows_of entry_wide m (drop at b))
    leads-end i h l = let a = none own i (omega arith) in sym (l ∙ omega arith)

-- ---- where the message stands

module _ (from m n : ℕ) (b : List ℕ) where
  abbrev us : List (List ℕ)
  us = rows_of entry_wide m (drop from b)

  module _ (i : ℕ) (found : i ≡ first_entry_of n us) where
    pub place-within : i ≤ m
    place-within = rw found (rw length-rows_of at (first-within n us))

    pub held-nowhere : i ≡ m → None ≡ held_as n us
    unfolding held_as
    held-nowhere h = let l = length-rows_of entry_wide m (drop from b) in rw (eq-eqb (first_entry_of n us) (length us) (sym found ∙ h ∙ sym l))

    pub held-at : (i ≡ m → ⊥) → (k : ℕ) → k ≡ run_of n (rows_of entry_wide (m - i) (drop (from + i * entry_wide) b)) → Some (i, k) ≡ held_as n us
    unfolding held_as
    held-at h k e =
        let l = length-rows_of entry_wide m (drop from b) in
        let d : drop i us ≡ rows_of entry_wide (m - i) (drop (from + i * entry_wide) b) = drop-rows_of entry_wide m i (drop from b) place-within ∙ rw (drop-drop (i * entry_wide) from b) in
        rw (ne_eqb (first_entry_of n us) (length us) (λ q. h (found ∙ q ∙ l)), ← found, d, e)
