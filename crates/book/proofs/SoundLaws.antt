-- What a sound book is made of, and what the code's tests tell of it. Assumes nothing.
use mathlib.Core.Path.{◌≡◌, refl}
use mathlib.Core.Bool.{Bool, true, false, ◌&&◌}
use mathlib.Core.List.{List, [], ◌∷◌}
use Prim.Native.Nat.{ℕ, suc, min, ◌*◌, ◌-◌, ◌/◌, ◌%◌, ◌≤◌, ◌<◌}
use native.Mathlib.Omega.{arith}
use borrow.Author.Tests.{le-leb, lt-leb, leb-true, leb-false, eq-eqb, ne_eqb, eqb-true}
use lib.Dec.{eqb, leb}
use lib.ListN.{length, drop}
use Rattle.lists.specs.Logic.{on}
use Rattle.lists.specs.Rows.{rows_of}
use Rattle.lists.proofs.LogicLaws.{all_pass}
use Rattle.lists.proofs.RowLaws.{length-rows_of}
use Rattle.keys.specs.Sorted.{sorted_rows}
use Rattle.book.specs.Entries.{plan_wide, entry_wide, kind_of, leading, plan_count, behind_plans, plans_in, updates_in, plan_bodies}
use Rattle.book.specs.Rules.{most_bytes, book_room, all_plans, chained, no_entry, book_sound}
use Rattle.book.proofs.PlanLaws.{bodies}

-- ---- the room

module _ (b : List ℕ) where
  pub room-min : min (length b) most_bytes ≡ book_room b
  unfolding book_room
  room-min = go (leb (length b) most_bytes) refl
    where
      go : (t : Bool) → leb (length b) most_bytes ≡ t → min (length b) most_bytes ≡ on t (length b) most_bytes
      go true e = let h = leb-true (length b) most_bytes e in omega arith
      go false e = let h = leb-false (length b) most_bytes e in omega arith

  pub room-all : length b ≤ most_bytes → book_room b ≡ length b
  unfolding book_room
  room-all h = rw (le-leb _ _ h)

  pub room_most : most_bytes < length b → book_room b ≡ most_bytes
  unfolding book_room
  room_most h = rw (lt-leb _ _ h)

  pub room_within : (book_room b ≤ length b) × (book_room b ≤ most_bytes)
  unfolding book_room
  room_within = go (leb (length b) most_bytes) refl
    where
      go : (t : Bool) → leb (length b) most_bytes ≡ t → (on t (length b) most_bytes ≤ length b) × (on t (length b) most_bytes ≤ most_bytes)
      go true e = (omega arith, leb-true _ _ e)
      go false e = let h : most_bytes < length b = leb-false _ _ e in (omega arith, omega arith)

  pub room-least : (n : ℕ) → n ≤ most_bytes → n ≤ length b → n ≤ book_room b
  unfolding book_room
  room-least n h k = go (leb (length b) most_bytes)
    where
      go : (t : Bool) → n ≤ on t (length b) most_bytes
      go true = k
      go false = h

-- ---- the split

leading-most : (es : List (List ℕ)) → leading es ≤ length es
unfolding leading
leading-most [] = omega arith
leading-most (e ∷ es) = go (eqb (kind_of e) 1) (leading-most es)
  where
    go : (t : Bool) → leading es ≤ length es → on t (suc (leading es)) 0 ≤ suc (length es)
    go true h = omega arith
    go false h = omega arith

-- the plan entries lie within the used bytes
pub plans-within : (used : ℕ) (b : List ℕ) → plan_count used b * plan_wide ≤ used
unfolding plan_count
plans-within used b =
    let h : plan_count used b ≤ used / plan_wide = rw length-rows_of at (leading-most (rows_of plan_wide (used / plan_wide) b)) in
    omega arith

-- with n plan entries
module _ (used : ℕ) (b : List ℕ) (n : ℕ) (e : n ≡ plan_count used b) where
  pub count-within : n * plan_wide ≤ used
  count-within = rw e (plans-within used b)

  pub updates-are : updates_in used b ≡ rows_of entry_wide ((used - n * plan_wide) / entry_wide) (drop (n * plan_wide) b)
  unfolding updates_in
  updates-are = rw e

  pub sound-ragged : used ≤ book_room b → ((used - n * plan_wide) % entry_wide ≡ 0 → ⊥) → book_sound used b ≡ false
  unfolding book_sound
  sound-ragged h k = rw (le-leb _ _ h, ne_eqb (behind_plans used b % entry_wide) 0 (rw e at k))

  pub sound-is : used ≤ book_room b → (used - n * plan_wide) % entry_wide ≡ 0 → book_sound used b
      ≡ ((all_plans (bodies n b) && sorted_rows (bodies n b))
      && chained no_entry (rows_of entry_wide ((used - n * plan_wide) / entry_wide) (drop (n * plan_wide) b)))
  unfolding book_sound plans_in updates_in
  sound-is h k =
      rw (le-leb _ _ h, eq-eqb (behind_plans used b % entry_wide) 0 (rw e at k), e)

pub sound_none : (used : ℕ) (b : List ℕ) → book_room b < used → book_sound used b ≡ false
unfolding book_sound
sound_none used b h = rw (lt-leb _ _ h)

-- ---- what is known of a sound book

pub record Sound (used : ℕ) (b : List ℕ) : Type 0 where
  pub room : used ≤ book_room b
  pub whole : behind_plans used b % entry_wide ≡ 0
  pub ranges : all_plans (plan_bodies used b) ≡ true
  pub rises : sorted_rows (plan_bodies used b) ≡ true
  pub chain : chained no_entry (updates_in used b) ≡ true

module _ (used : ℕ) (b : List ℕ) where
  pub sound-facts : book_sound used b ≡ true → Sound used b
  unfolding book_sound
  sound-facts e =
      let room = leb used (book_room b) in
      let whole = eqb (behind_plans used b % entry_wide) 0 in
      let ranges = all_plans (plan_bodies used b) in
      let rises = sorted_rows (plan_bodies used b) in
      let told = all_pass room (whole ∷ ranges ∷ rises ∷ chained no_entry (updates_in used b) ∷ []) e in
      record { room = leb-true _ _ (told 0); whole = eqb-true _ _ (told 1); ranges = told 2; rises = told 3; chain = told 4 }

  pub facts-sound : Sound used b → book_sound used b ≡ true
  unfolding book_sound
  facts-sound f = rw (le-leb _ _ f.room, eq-eqb (behind_plans used b % entry_wide) 0 f.whole, f.ranges, f.rises, f.chain)

  -- the used bytes are lent, and few enough
  pub used-within : Sound used b → (used ≤ length b) × (used ≤ most_bytes)
  used-within f = let r = room_within b in let h = f.room in (omega (arith, r.0), omega (arith, r.1))
