-- A message's slots taken into the table: the rows that the rule gives. Assumes nothing.
use mathlib.Core.Path.{◌≡◌, sym, ap, ◌∙◌}
use mathlib.Core.Bool.{Bool, true, false}
use mathlib.Core.List.{List, [], ◌∷◌, map}
use Prim.Native.Nat.{ℕ, ◌+◌, ◌*◌, ◌≤◌, ◌<◌}
use native.Mathlib.Nat.{le_trans, mul-le-mul_right}
use native.Mathlib.Omega.{arith}
use borrow.Author.Tests.{leb-true, leb-false}
use lib.Dec.{leb}
use lib.ListN.{length, drop, length-drop, length-map}
use Rattle.lists.specs.Each.{Each}
use Rattle.lists.specs.Part.{part}
use Rattle.lists.specs.Rows.{store, Wide}
use Rattle.lists.proofs.PartLaws.{length_part}
use Rattle.lists.proofs.RowLaws.{length-rows_of}
use Rattle.lists.proofs.WideLaws.{wide-rows_of}
use Rattle.passage.specs.Layout.{body_wide, row_wide}
use Rattle.keys.specs.Sorted.{sorted_rows, get}
use Rattle.keys.proofs.ReplayLaws.{RowOf, among, replayed-key}
use Rattle.update.specs.Rule.{row_rule}
use Rattle.update.proofs.RuleLaws.{rule-key}
use Rattle.table.specs.Rules.{rows, table_room, table_sound}
use Rattle.table.proofs.SoundLaws.{sound-fits, sound-sorted, room_fits}
use Rattle.table.proofs.RunLaws.{wide-filled}
use Rattle.sorting.specs.Rules.{key_at, sorted_places}
use Rattle.sorting.proofs.PlaceLaws.{own-key_at, length-keys_of}
use Rattle.sorting.proofs.SortedPlacesLaws.{places-below, places-most, places-sorted}
use Rattle.book.specs.Entries.{entry_wide, body_at, plan_count, plans_in, plan_bodies, updates_in}
use Rattle.book.specs.Rules.{keys_named, book_sound, message_entries, withdrawn, standing, plan_rows, row_for}
use Rattle.book.proofs.PlanLaws.{wide-bodies}
use Rattle.book.proofs.SoundLaws.{sound-facts, used-within, plans-within}
use Rattle.book.proofs.SplitLaws.{wide-updates}
use Rattle.calls.specs.Withdraw.{rows_without, table_without}
use Rattle.withdrawals_replay.specs.inner.Slots.{most_slots, slots_of, settled, weights}
use Rattle.withdrawals.specs.inner.Steps.{MessageAt, names_in, worked_out}
use Rattle.withdrawals_replay.proofs.SlotLaws.{planned-key, wide-standing, wide-withdrawn, worked-key, worked-row, worked-wide}
use Rattle.withdrawals_replay.proofs.BeginLaws.{Key, names-wide}
use Rattle.withdrawals.proofs.NamesLaws.{names-among, lent_rows}
use Rattle.withdrawals.proofs.RowsLaws.{SlotsFor, slots-taken, slots-weigh}

-- ---- a sound book and table, and where the message stands

-- the first c slots of s are of the message's names, each as the book gives it once the message is withdrawn
pub record Worked (n used : ℕ) (b : List ℕ) (at m r : ℕ) (t : List ℕ) (c : ℕ) (s : List ℕ) : Type 0 where
  pub sound : book_sound used b ≡ true
  pub tables : table_sound r t ≡ true
  pub stands : MessageAt n used b at m
  pub counted : c ≡ length (names_in at m b)
  pub slots : slots_of c s ≡ map (worked_out n used b) (names_in at m b)

module _ {n used : ℕ} {b : List ℕ} {at m r : ℕ} {t : List ℕ} {c : ℕ} {s : List ℕ} (x : Worked n used b at m r t c s) where
  abbrev us : List (List ℕ)
  us = updates_in used b

  abbrev names : List (List ℕ)
  names = names_in at m b

  abbrev f : List ℕ → List ℕ
  f = row_for row_rule (plan_bodies used b) (withdrawn n us)

  updates-wide : Wide entry_wide us
  updates-wide = wide-updates used b x.sound

  used-fits : used ≤ length b
  used-fits = (used-within used b (sound-facts used b x.sound)).0

  wide-plans : Wide body_wide (plan_bodies used b)
  unfolding plans_in
  wide-plans = let u = used-fits in wide-bodies (plan_count used b) b (omega (arith, plans-within used b))

  -- what the book gives a key is none, or of that key
  own : (k : List ℕ) → RowOf k (f k)
  unfolding row_for
  own k =
      replayed-key row_rule (λ (u : List ℕ). length u ≡ body_wide) (λ held u w h. rule-key held u w) k (get k (plan_rows (plan_bodies used b))) (standing (withdrawn n us))
      (wide-standing (withdrawn n us) (wide-withdrawn n us updates-wide))
      (planned-key (plan_bodies used b) wide-plans k)

  abbrev entries : List ℕ
  entries = part at (m * entry_wide) b

  long : length entries ≡ m * entry_wide
  long = let u = used-fits in let w = x.stands.within in length_part at (m * entry_wide) b (omega arith)

  keys : Each Key names
  unfolding names_in
  keys = let l = long in names-wide entries m (sorted_places (key_at entries body_at entry_wide) m) (omega arith) (places-below (key_at entries body_at entry_wide) m m (omega arith))

  rise : sorted_rows names ≡ true
  unfolding names_in
  rise = places-sorted (key_at entries body_at entry_wide) (own-key_at entries body_at entry_wide) m

  pub names-most : c ≤ m
  unfolding names_in
  names-most =
      let key = key_at entries body_at entry_wide in
      let l = length-keys_of key (sorted_places key m) in
      let e = x.counted in
      let k = places-most key m in
      omega arith

  pub names-few : c ≤ most_slots
  names-few =
      let u = (used-within used b (sound-facts used b x.sound)).1 in
      let w = x.stands.within in
      let k = names-most in
      omega arith

  -- the names are those of the message's entries
  same_names : (k : List ℕ) → among k names ≡ among k (keys_named (message_entries n us))
  unfolding names_in part
  same_names k =
      let u = used-fits in
      let w = x.stands.within in
      let l : m * entry_wide ≤ length (drop at b) = simp length-drop (omega arith) in
      names-among k entries m ∙ ap (λ (es : List (List ℕ)). among k (keys_named es)) (lent_rows entry_wide m (drop at b) l ∙ sym x.stands.entries)

  slots-for : (ks : List (List ℕ)) → Each Key ks → SlotsFor f ks (map (worked_out n used b) ks)
  unfolding worked_out
  slots-for [] h = tt
  slots-for (k ∷ ks) h = (
    (worked-key n us updates-wide (plan_bodies used b) wide-plans k h.0, worked-row n us updates-wide (plan_bodies used b) wide-plans k h.0, worked-wide n us updates-wide (plan_bodies used b) wide-plans k h.0),
    slots-for ks h.1,
  )

  abbrev rs : List (List ℕ)
  rs = rows r t

  abbrev without : List (List ℕ)
  without = rows_without n b used t r

  wide : Wide row_wide rs
  wide = wide-rows_of row_wide r t (sound-fits r t x.tables)

  pub rows_are : settled (slots_of c s) rs ≡ without
  unfolding rows_without
  rows_are = rw x.slots
      (slots-taken f own names (map (worked_out n used b) names) (keys_named (message_entries n us)) rs (slots-for names keys) (sound-sorted r t x.tables) (wide-filled rs wide) same_names)

  weighs : r + weights rs (slots_of c s) ≡ length without + c
  unfolding rows_without
  weighs =
      let l : length rs ≡ r = length-rows_of row_wide r t in
      let k : length (map (worked_out n used b) names) ≡ c = length-map names (worked_out n used b) ∙ sym x.counted in
      let w = slots-weigh f own names (map (worked_out n used b) names) (keys_named (message_entries n us)) rs (slots-for names keys) rise (sound-sorted r t x.tables) (wide-filled rs wide) same_names in
      rw x.slots (rw (l, k) at w)

  -- the test that the code makes
  abbrev fitting : Bool
  fitting = leb (r + weights rs (slots_of c s)) (table_room t + c)

  pub room-short : fitting ≡ false → table_room t < length without
  room-short e = let w = weighs in let h = leb-false (r + weights rs (slots_of c s)) (table_room t + c) e in omega arith

  pub room-there : fitting ≡ true → length without ≤ table_room t
  room-there e = let w = weighs in let h = leb-true (r + weights rs (slots_of c s)) (table_room t + c) e in omega arith

  pub rows_fit : length without ≤ table_room t → length (settled (slots_of c s) rs) * row_wide ≤ length t
  rows_fit h = rw rows_are (le_trans (mul-le-mul_right row_wide h) (room_fits t))

  pub rows-stored : (u : List ℕ) → u ≡ store row_wide r (settled (slots_of c s) rs) t → u ≡ table_without n b used t r
  unfolding table_without
  rows-stored u e = e ∙ ap (λ (qs : List (List ℕ)). store row_wide r qs t) rows_are
