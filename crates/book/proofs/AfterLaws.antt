-- The book after a message, after a withdrawal and after an opening. Assumes nothing.
use mathlib.Core.Path.{◌≡◌, refl, sym, ap, ◌∙◌}
use mathlib.Core.Bool.{true}
use mathlib.Core.List.{List, [], ◌∷◌, ◌++◌, map, append-nil}
use Prim.Native.Nat.{ℕ, suc, ◌+◌, ◌*◌, ◌-◌, ◌^◌, ◌≤◌, ◌<◌}
use native.Mathlib.Nat.{add-zero, add-mul, le_trans, mul-le-mul_right}
use native.Mathlib.Omega.{arith}
use lib.ListN.{length, take, drop, length-take, length-drop, length-map, drop_of_length-le}
use lib.Seq.{drop-drop, drop_at, take_all}
use Rattle.lists.specs.Part.{part, over}
use Rattle.lists.specs.Rows.{rows_of, flat, Wide}
use Rattle.lists.proofs.EachLaws.{each_take, each-drop}
use Rattle.lists.proofs.OverLaws.{length_over, onto-fits}
use Rattle.lists.proofs.ReadLaws.{drop-over}
use Rattle.lists.proofs.RowLaws.{rows_of-append, rows_of-behind, length-rows_of, take-rows_of, drop-rows_of}
use Rattle.lists.proofs.WideLaws.{length-flat, rows_of-flat}
use Rattle.passage.specs.Layout.{body_wide}
use Rattle.keys.specs.Sorted.{sorted_rows}
use Rattle.book.specs.Entries.{plan_wide, entry_wide, number_wide, plan_body_of, plan_entry, entries_of, plan_count, plans_in, updates_in, plan_bodies}
use Rattle.book.specs.Rules.{book_room, all_plans, chained, no_entry, last_from, next_number, book_sound, message_entries, marked_withdrawn, withdrawn}
use Rattle.book.specs.Claims.{UpdateBodies, PlanBodies}
use Rattle.book.proofs.WriteLaws.{wide-entries_of, length-entries_of, wide-marked}
use Rattle.book.proofs.PlanLaws.{bodies}
use Rattle.book.proofs.SoundLaws.{sound-facts, used-within, room_within}
use Rattle.book.proofs.NumberLaws.{last-most, next-is, first-within, run-most}
use Rattle.book.proofs.SplitLaws.{Plans, Split, split-plans, split-updates, split-sound, update_count, sound-split, wide-updates, length-updates}
use Rattle.book.proofs.MessageLaws.{message-run}
use Rattle.book.proofs.ChangeLaws.{chained_append, chained-new, chained-withdrawn, withdrawn-is}
use Rattle.book.specs.inner.Steps.{first_entry_of, run_of}

-- ---- whole rows written over rows

module _ (w m f : ℕ) (rs : List (List ℕ)) (t : List ℕ) (wide : Wide w rs) (fits : m * w ≤ length t) (h : f + length rs ≤ m) where
  pub rows-over : rows_of w m (over (f * w) (flat rs) t) ≡ take f (rows_of w m t) ++ (rs ++ drop (f + length rs) (rows_of w m t))
  unfolding over
  rows-over =
      let k = length rs in
      let j = m - (f + k) in
      let u = over (f * w) (flat rs) t in
      let d = drop (f * w) t in
      let z = drop (length (flat rs)) d in
      let l : length (flat rs) ≡ k * w = length-flat w rs wide in
      let e : m ≡ f + (k + j) = omega arith in
      let room : (f + k) * w ≤ length t = le_trans (mul-le-mul_right w h) fits in
      let sum = add-mul f k w in
      let o : drop (f * w) u ≡ flat rs ++ z =
      ap (λ (i : ℕ). drop (f * w) (over i (flat rs) t)) (sym (add-zero (f * w)))
      ∙ drop-over (f * w) 0 (flat rs) t
      ∙ onto-fits (flat rs) d (simp length-drop (omega arith)) in
      let y : z ≡ drop ((f + k) * w) t = rw (l, drop-drop (k * w) (f * w) t, sum) in
      let front : rows_of w f u ≡ take f (rows_of w m t) = rows_of-behind w f (f * w) (flat rs) t (omega arith) ∙ sym (take-rows_of w m f t (omega arith)) in
      let back : rows_of w j (drop (k * w) (flat rs ++ z)) ≡ drop (f + k) (rows_of w m t) =
      ap (rows_of w j) (drop_at (flat rs) z (k * w) l ∙ y) ∙ sym (drop-rows_of w m (f + k) t h) in
      ap (λ (i : ℕ). rows_of w i u) e
      ∙ rows_of-append w f (k + j) u
      ∙ rw (front, o, rows_of-append w k j (flat rs ++ z), rows_of-flat w rs z wide, back)

-- the room is one of the lent bytes
room-over : (at : ℕ) (vs b : List ℕ) → book_room (over at vs b) ≡ book_room b
unfolding book_room
room-over at vs b = rw (length_over at vs b)

-- ---- after a message

module _ (used : ℕ) (b : List ℕ) (sound : book_sound used b ≡ true) (sender : ℕ) (news : List (List ℕ)) (ranges : UpdateBodies news) (least : 1 ≤ sender)
    (fits : used + length news * entry_wide ≤ book_room b) where
  abbrev us : List (List ℕ)
  us = updates_in used b

  abbrev new : List (List ℕ)
  new = entries_of (next_number us) sender news

  abbrev after : List ℕ
  after = over used (flat new) b

  abbrev used-after : ℕ
  used-after = used + length news * entry_wide

  abbrev plans : ℕ
  plans = plan_count used b

  abbrev held : ℕ
  held = update_count used b

  new-wide : Wide entry_wide new
  new-wide = wide-entries_of (next_number us) sender news (lengths news ranges)
    where
      lengths : (l : List (List ℕ)) → UpdateBodies l → Wide body_wide l
      lengths [] h = tt
      lengths (u ∷ l) h = (h.0.0, lengths l h.1)

  message-plans : rows_of plan_wide plans after ≡ rows_of plan_wide plans b
  message-plans = let w = (sound-split used b sound).whole in rows_of-behind plan_wide plans used (flat new) b (omega arith)

  message-rows : rows_of entry_wide (held + length news) (drop (plans * plan_wide) after) ≡ us ++ new
  message-rows =
      let s = sound-split used b sound in
      let w = s.whole in
      let t = drop (plans * plan_wide) b in
      let m = held + length news in
      let l = length-entries_of (next_number us) sender news in
      let r = (room_within b).0 in
      let d : drop (plans * plan_wide) after ≡ over (held * entry_wide) (flat new) t =
      ap (λ (i : ℕ). drop (plans * plan_wide) (over i (flat new) b)) w ∙ drop-over (plans * plan_wide) (held * entry_wide) (flat new) b in
      let f : m * entry_wide ≤ length t = simp length-drop (omega arith) in
      let k : take held (rows_of entry_wide m t) ≡ us = take-rows_of entry_wide m held t (omega arith) ∙ sym (split-updates used b plans held s) in
      let g : length (rows_of entry_wide m t) ≤ held + length new = rw (length-rows_of entry_wide m t) (omega arith) in
      let z : drop (held + length new) (rows_of entry_wide m t) ≡ [] = drop_of_length-le (rows_of entry_wide m t) g in
      ap (rows_of entry_wide m) d ∙ rows-over entry_wide m held new t new-wide f (omega arith) ∙ rw (k, z, append-nil)

  message-split : Split used-after after plans (held + length news)
  message-split =
      let s = sound-split used b sound in
      let w = s.whole in
      let c : chained no_entry us ≡ true = (sound-facts used b sound).chain in
      let small : next_number us < 256 ^ number_wide = omega (arith, last-most used b sound, next-is used b) in
      record {
        whole = omega arith;
        room = rw (room-over used (flat new) b) fits;
        plans = rw message-plans s.plans;
        ranges = rw message-plans s.ranges;
        rises = rw message-plans s.rises;
        chain = rw message-rows (chained_append no_entry us new c (chained-new (next_number us) sender small least (last_from no_entry us) news (sym (next-is used b)) ranges));
      }

  pub after-message :
      (book_sound used-after after ≡ true)
      × (plans_in used-after after ≡ plans_in used b)
      × (plan_bodies used-after after ≡ plan_bodies used b)
      × (updates_in used-after after ≡ us ++ new)
  after-message =
      let s = message-split in
      let m = held + length news in
      let p : plans_in used-after after ≡ plans_in used b =
      split-plans used-after after plans m s ∙ message-plans ∙ sym (split-plans used b plans held (sound-split used b sound)) in
      (split-sound used-after after plans m s, p, ap (map plan_body_of) p, split-updates used-after after plans m s ∙ message-rows)

-- ---- after a withdrawal

module _ (used : ℕ) (b : List ℕ) (sound : book_sound used b ≡ true) (n : ℕ) where
  abbrev entries : List (List ℕ)
  entries = message_entries n (updates_in used b)

  -- the byte at which the first entry of message n begins
  abbrev pub message_at : ℕ
  message_at = plan_count used b * plan_wide + first_entry_of n (updates_in used b) * entry_wide

  abbrev pub message_run : ℕ
  message_run = run_of n (drop (first_entry_of n (updates_in used b)) (updates_in used b))

  chain : chained no_entry (updates_in used b) ≡ true
  chain = (sound-facts used b sound).chain

  pub run-within : first_entry_of n (updates_in used b) + message_run ≤ update_count used b
  run-within =
      let us = updates_in used b in
      let f = first-within n us in
      let l = length-updates used b sound in
      let r : message_run ≤ length us - first_entry_of n us = rw length-drop at (run-most n (drop (first_entry_of n us) us)) in
      omega arith

  pub message-length : length entries ≡ message_run
  message-length =
      let us = updates_in used b in
      let h = run-within in
      let l = length-updates used b sound in
      ap length (message-run n no_entry us chain) ∙ simp (length-take, length-drop) (omega arith)

  -- the message's entries are what stands there
  pub message-read : rows_of entry_wide message_run (drop message_at b) ≡ entries
  message-read =
      let us = updates_in used b in
      let s = sound-split used b sound in
      let m = update_count used b in
      let t = drop (plan_count used b * plan_wide) b in
      let f = first_entry_of n us in
      let h = run-within in
      let e : us ≡ rows_of entry_wide m t = split-updates used b (plan_count used b) m s in
      let d : drop f us ≡ rows_of entry_wide (m - f) (drop message_at b) =
      ap (drop f) e ∙ drop-rows_of entry_wide m f t (omega arith) ∙ rw (drop-drop (f * entry_wide) (plan_count used b * plan_wide) b) in
      sym (message-run n no_entry us chain ∙ ap (take message_run) d ∙ take-rows_of entry_wide (m - f) message_run (drop message_at b) (omega arith))

  abbrev without : List ℕ
  without = over message_at (flat (map marked_withdrawn entries)) b

  marks-wide : Wide entry_wide (map marked_withdrawn entries)
  marks-wide =
      let us = updates_in used b in
      wide-marked entry_wide entries
      (rw (message-run n no_entry us chain)
      (each_take IsWide message_run (drop (first_entry_of n us) us) (each-drop IsWide (first_entry_of n us) us (wide-updates used b sound))))
    where
      IsWide : List ℕ → Type 0
      IsWide e = length e ≡ entry_wide

  withdrawal-plans : rows_of plan_wide (plan_count used b) without ≡ rows_of plan_wide (plan_count used b) b
  withdrawal-plans = rows_of-behind plan_wide (plan_count used b) message_at (flat (map marked_withdrawn entries)) b (omega arith)

  withdrawal-rows : rows_of entry_wide (update_count used b) (drop (plan_count used b * plan_wide) without) ≡ withdrawn n (updates_in used b)
  withdrawal-rows =
      let us = updates_in used b in
      let s = sound-split used b sound in
      let w = s.whole in
      let u = (used-within used b (sound-facts used b sound)).0 in
      let m = update_count used b in
      let f = first_entry_of n us in
      let t = drop (plan_count used b * plan_wide) b in
      let e : us ≡ rows_of entry_wide m t = split-updates used b (plan_count used b) m s in
      let l : length (map marked_withdrawn entries) ≡ length entries = length-map entries marked_withdrawn in
      let k = message-length in
      let h = run-within in
      let fit : m * entry_wide ≤ length t = simp length-drop (omega arith) in
      ap (rows_of entry_wide m) (drop-over (plan_count used b * plan_wide) (f * entry_wide) (flat (map marked_withdrawn entries)) b)
      ∙ rows-over entry_wide m f (map marked_withdrawn entries) t marks-wide fit (omega arith)
      ∙ rw (← e, l) (sym (withdrawn-is n no_entry us chain))

  withdrawal-split : Split used without (plan_count used b) (update_count used b)
  withdrawal-split =
      let s = sound-split used b sound in
      record {
        whole = s.whole;
        room = rw (room-over message_at (flat (map marked_withdrawn entries)) b) s.room;
        plans = rw withdrawal-plans s.plans;
        ranges = rw withdrawal-plans s.ranges;
        rises = rw withdrawal-plans s.rises;
        chain = rw withdrawal-rows (chained-withdrawn n (updates_in used b) (wide-updates used b sound) chain);
      }

  pub after-withdrawal :
      (book_sound used without ≡ true)
      × (plans_in used without ≡ plans_in used b)
      × (plan_bodies used without ≡ plan_bodies used b)
      × (updates_in used without ≡ withdrawn n (updates_in used b))
  after-withdrawal =
      let s = withdrawal-split in
      let m = update_count used b in
      let c = plan_count used b in
      let p : plans_in used without ≡ plans_in used b = split-plans used without c m s ∙ withdrawal-plans ∙ sym (split-plans used b c m (sound-split used b sound)) in
      (split-sound used without c m s, p, ap (map plan_body_of) p, split-updates used without c m s ∙ withdrawal-rows)

-- ---- after an opening

plans-range : (news : List (List ℕ)) → PlanBodies news → all_plans news ≡ true
unfolding all_plans
plans-range [] h = refl
plans-range (u ∷ l) h = rw (h.0.1, plans-range l h.1)

entries-wide : (news : List (List ℕ)) → PlanBodies news → Wide plan_wide (map plan_entry news)
entries-wide [] h = tt
entries-wide (u ∷ l) h = (ap suc h.0.0, entries-wide l h.1)

entries-plans : (news : List (List ℕ)) → Plans (map plan_entry news)
entries-plans [] = tt
entries-plans (u ∷ l) = (refl, entries-plans l)

entries-bodies : (news : List (List ℕ)) → PlanBodies news → map plan_body_of (map plan_entry news) ≡ news
unfolding part
entries-bodies [] h = refl
entries-bodies (u ∷ l) h =
    let e = h.0.0 in
    ap (λ (r : List ℕ). r ∷ map plan_body_of (map plan_entry l)) (take_all body_wide u (omega arith)) ∙ ap (λ (r : List (List ℕ)). u ∷ r) (entries-bodies l h.1)

module _ (b : List ℕ) (news : List (List ℕ)) (ranges : PlanBodies news) (rises : sorted_rows news ≡ true) (fits : length news * plan_wide ≤ book_room b) where
  abbrev opened : List ℕ
  opened = over 0 (flat (map plan_entry news)) b

  open-rows : rows_of plan_wide (length news) opened ≡ map plan_entry news
  unfolding over
  open-rows =
      let rs = map plan_entry news in
      let l : length rs ≡ length news = length-map news plan_entry in
      let k : length (flat rs) ≡ length rs * plan_wide = length-flat plan_wide rs (entries-wide news ranges) in
      let r = (room_within b).0 in
      rw (← l, onto-fits (flat rs) b (omega arith)) (rows_of-flat plan_wide rs (drop (length (flat rs)) b) (entries-wide news ranges))

  open-bodies : bodies (length news) opened ≡ news
  open-bodies = ap (map plan_body_of) open-rows ∙ entries-bodies news ranges

  open-split : Split (length news * plan_wide) opened (length news) 0
  unfolding rows_of chained
  open-split = record {
    whole = omega arith;
    room = rw (room-over 0 (flat (map plan_entry news)) b) fits;
    plans = rw open-rows (entries-plans news);
    ranges = rw open-bodies (plans-range news ranges);
    rises = rw open-bodies rises;
    chain = refl;
  }

  pub after_open :
      (book_sound (length news * plan_wide) opened ≡ true)
      × (plan_bodies (length news * plan_wide) opened ≡ news)
      × (updates_in (length news * plan_wide) opened ≡ [])
  unfolding rows_of
  after_open =
      let s = open-split in
      let used = length news * plan_wide in (
        split-sound used opened (length news) 0 s,
        ap (map plan_body_of) (split-plans used opened (length news) 0 s) ∙ open-bodies,
        split-updates used opened (length news) 0 s,
      )
