-- The names of a message, sorted, and their slots worked out from the book. Assumes nothing.
use mathlib.Core.Path.{◌≡◌, sym, ap, ◌∙◌}
use mathlib.Core.Bool.{true}
use mathlib.Core.List.{List, map, map-map}
use Prim.Native.Nat.{ℕ, ◌+◌, ◌*◌, ◌-◌, ◌/◌, ◌≤◌, ◌<◌}
use native.Mathlib.Omega.{arith}
use lib.ListN.{length, take, drop, length-take, length-drop}
use Rattle.lists.specs.Each.{Each}
use Rattle.lists.specs.Part.{part, over}
use Rattle.lists.specs.Rows.{rows_of, flat}
use Rattle.lists.proofs.OverLaws.{length_over}
use Rattle.lists.proofs.ReadLaws.{part-written}
use Rattle.keys.specs.Sorted.{sorted_rows}
use Rattle.sorting.specs.Rules.{key_at, sorted_places}
use Rattle.sorting.proofs.PlaceLaws.{own-key_at, length-keys_of}
use Rattle.sorting.proofs.SortedPlacesLaws.{places-below, places-most, places-sorted}
use Rattle.book.specs.Entries.{plan_wide, entry_wide, body_at, plan_count, plans_in, plan_bodies}
use Rattle.book.specs.Rules.{book_sound}
use Rattle.book.proofs.PlanLaws.{bodies}
use Rattle.book.proofs.SoundLaws.{sound-facts, used-within, count-within, updates-are}
use Rattle.book.proofs.WriteLaws.{lent-part}
use Rattle.withdrawals_replay.specs.inner.Slots.{slot_wide, most_slots, slots_of, slot_key}
use Rattle.withdrawals_replay.specs.inner.Worked.{begun_slot, heard_in, names_at}
use Rattle.withdrawals.specs.inner.Steps.{names_in, worked_out}
use Rattle.withdrawals_replay.proofs.BeginLaws.{names-wide, begun-keys, begun-read}

-- the m entries from `at` on, as the code lends them, and the places that they are sorted by
abbrev pub lent : ℕ → ℕ → List ℕ → List ℕ
lent at m b = take (at + m * entry_wide - at) (drop at b)

abbrev key_of_place : ℕ → ℕ → List ℕ → ℕ → List ℕ
key_of_place at m b = key_at (lent at m b) body_at entry_wide

abbrev places : ℕ → ℕ → List ℕ → List ℕ
places at m b = sorted_places (key_of_place at m b) m

module _ (used at m : ℕ) (b : List ℕ) (sound : book_sound used b ≡ true) (fits : at + m * entry_wide ≤ used) where
  pub used-fits : used ≤ length b
  used-fits = (used-within used b (sound-facts used b sound)).0

  pub few : m ≤ most_slots
  few = omega (arith, (used-within used b (sound-facts used b sound)).1)

  pub lent-long : m * entry_wide ≤ length (lent at m b)
  lent-long = let u = used-fits in simp (length-take, length-drop) (omega arith)

-- the first c of `order` are those places
pub record Sorted (used at m : ℕ) (b : List ℕ) (c : ℕ) (order : List ℕ) : Type 0 where
  pub sound : book_sound used b ≡ true
  pub fits : at + m * entry_wide ≤ used
  pub counted : c ≡ length (places at m b)
  pub read : take c order ≡ places at m b
  pub long : c ≤ length order

pub sorted-into : (used at m : ℕ) (b : List ℕ) → book_sound used b ≡ true → at + m * entry_wide ≤ used → (order₀ : List ℕ) → m ≤ length order₀
    → (c : ℕ) (order : List ℕ) → c ≡ length (places at m b) → order ≡ over 0 (places at m b) order₀ → Sorted used at m b c order
unfolding part
sorted-into used at m b sound fits order₀ room c order counted sorted =
    let l = places-most (key_of_place at m b) m in
    record {
      sound = sound;
      fits = fits;
      counted = counted;
      read = rw (counted, sorted) (part-written 0 (places at m b) order₀ (omega arith));
      long = rw (sorted, length_over 0 (places at m b) order₀) (omega arith);
    }

module _ {used at m : ℕ} {b : List ℕ} {c : ℕ} {order : List ℕ} (w : Sorted used at m b c order) where
  abbrev names : List (List ℕ)
  names = names_at (lent at m b) (take c order)

  names-are : names_at (lent at m b) (places at m b) ≡ names_in at m b
  unfolding names_in
  names-are = rw (lent-part at (m * entry_wide) b)

  pub lent-there : m * entry_wide ≤ length (lent at m b)
  lent-there = lent-long used at m b w.sound w.fits

  pub order-most : c ≤ m
  order-most =
      let l = places-most (key_of_place at m b) m in
      let e = w.counted in
      omega arith

  pub order_below : Each (λ (j : ℕ). j < m) (take c order)
  order_below = rw w.read (places-below (key_of_place at m b) m m (omega arith))

  pub order-rises : sorted_rows names ≡ true
  order-rises = rw w.read (places-sorted (key_of_place at m b) (own-key_at (lent at m b) body_at entry_wide) m)

  pub order-count : c ≡ length (names_in at m b)
  order-count = w.counted ∙ sym (length-keys_of (key_of_place at m b) (places at m b)) ∙ ap length names-are

  module _ {n : ℕ} (plans : n ≡ plan_count used b) where
    abbrev k : ℕ
    k = (used - n * plan_wide) / entry_wide

    pub plans-within : n * plan_wide ≤ used
    plans-within = count-within used b n plans

    pub plans-fit : n * plan_wide ≤ length b
    plans-fit = let u = used-fits used at m b w.sound w.fits in let p = plans-within in omega arith

    bodies-are : bodies n b ≡ plan_bodies used b
    unfolding plans_in
    bodies-are = rw plans

    pub plans-rise : sorted_rows (bodies n b) ≡ true
    plans-rise = rw bodies-are (sound-facts used b w.sound).rises

    pub updates-fit : n * plan_wide + k * entry_wide ≤ length b
    updates-fit = let u = used-fits used at m b w.sound w.fits in let p = plans-within in omega arith

    module _ (d s : List ℕ) (wide : c * slot_wide ≤ length d) (begun : s ≡ over 0 (flat (map (begun_slot (bodies n b)) names)) d) where
      slots_read : slots_of c s ≡ map (begun_slot (bodies n b)) names
      slots_read = begun-read n b (lent at m b) m order c plans-fit lent-there w.long order_below d s wide begun

      pub keys-are : map slot_key (slots_of c s) ≡ names
      keys-are = ap (map slot_key) slots_read ∙ begun-keys n b plans-fit names (names-wide (lent at m b) m (take c order) lent-there order_below)

      pub worked : (number : ℕ) (t : List ℕ) → slots_of c t ≡ map (heard_in number (rows_of entry_wide k (drop (n * plan_wide) b))) (slots_of c s)
          → slots_of c t ≡ map (worked_out number used b) (names_in at m b)
      unfolding worked_out
      worked number t e =
          e
          ∙ ap (map (heard_in number (rows_of entry_wide k (drop (n * plan_wide) b)))) slots_read
          ∙ map-map (heard_in number (rows_of entry_wide k (drop (n * plan_wide) b))) (begun_slot (bodies n b)) names
          ∙ rw (← updates-are used b n plans, bodies-are, w.read, names-are)
