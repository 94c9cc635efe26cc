-- The slots as they begin, one after another: of each name, the plan's row or none. Assumes nothing.
use mathlib.Core.Path.{◌≡◌, refl, sym, ap, ◌∙◌}
use mathlib.Core.List.{List, [], ◌∷◌, map}
use Prim.Native.Nat.{ℕ, zero, suc, ◌+◌, ◌*◌, ◌≤◌, ◌<◌}
use native.Mathlib.Nat.{not-suc-le-zero, le_of_suc-le-suc}
use native.Mathlib.Omega.{arith}
use lib.ListN.{length, take, drop, get_or, length-map}
use lib.Seq.{length-take-le, get_or-take}
use Rattle.lists.specs.Each.{Each}
use Rattle.lists.specs.Part.{part, over}
use Rattle.lists.specs.Rows.{flat, Wide}
use Rattle.lists.proofs.PartLaws.{length_part}
use Rattle.lists.proofs.WideLaws.{rows_of-flat, length-flat}
use Rattle.lists.proofs.OverLaws.{onto-fits}
use Rattle.passage.specs.Layout.{key_wide}
use Rattle.book.specs.Entries.{plan_wide, entry_wide, body_at}
use Rattle.book.proofs.PlanLaws.{bodies, wide-bodies}
use Rattle.sorting.specs.Rules.{key_at, keys_of}
use Rattle.sorting.proofs.PlaceLaws.{length-keys_of, keys_of-at}
use Rattle.sorting.proofs.SearchLaws.{key_fits, place-below}
use Rattle.withdrawals_replay.specs.inner.Slots.{slot_wide, slots_of, slot_key}
use Rattle.withdrawals_replay.specs.inner.Worked.{begun_slot, names_at}
use Rattle.withdrawals_replay.proofs.SlotLaws.{begun-key, begun-wide}
use Rattle.withdrawals_replay.proofs.SlotWriteLaws.{rows_start, rows-turn, rows_end}

get_d_map : (f : List ℕ → List ℕ) (l : List (List ℕ)) (i : ℕ) → i < length l → get_or (map f l) i [] ≡ f (get_or l i [])
get_d_map f [] i h = absurd (not-suc-le-zero h)
get_d_map f (x ∷ l) zero h = refl
get_d_map f (x ∷ l) (suc i) h = get_d_map f l i (le_of_suc-le-suc h)

-- a name is as wide as a key
abbrev pub Key : List ℕ → Type 0
Key k = length k ≡ key_wide

pub names-wide : (e : List ℕ) (m : ℕ) (js : List ℕ) → m * entry_wide ≤ length e → Each (λ (j : ℕ). j < m) js → Each Key (names_at e js)
unfolding keys_of key_at
names-wide e m [] h b = tt
names-wide e m (j ∷ js) h b = (length_part (j * entry_wide + body_at) key_wide e (key_fits m body_at entry_wide j (length e) (omega arith) h b.0), names-wide e m js h b.1)

module _ (n : ℕ) (b : List ℕ) (hb : n * plan_wide ≤ length b) where
  begun-wides : (ks : List (List ℕ)) → Each Key ks → Wide slot_wide (map (begun_slot (bodies n b)) ks)
  begun-wides [] h = tt
  begun-wides (k ∷ ks) h = (begun-wide (bodies n b) (wide-bodies n b hb) k h.0, begun-wides ks h.1)

  pub begun-keys : (ks : List (List ℕ)) → Each Key ks → map slot_key (map (begun_slot (bodies n b)) ks) ≡ ks
  begun-keys [] h = refl
  begun-keys (k ∷ ks) h = rw (begun-key (bodies n b) (wide-bodies n b hb) k h.0, begun-keys ks h.1)

module _ (n : ℕ) (b : List ℕ) (e : List ℕ) (m : ℕ) (order : List ℕ) (c : ℕ) (hb : n * plan_wide ≤ length b) (he : m * entry_wide ≤ length e) (ho : c ≤ length order) (below : Each (λ (j : ℕ). j < m) (take c order)) where
  abbrev names : List (List ℕ)
  names = names_at e (take c order)

  abbrev pub begun_all : List (List ℕ)
  begun_all = map (begun_slot (bodies n b)) names

  -- where the key of the i-th name stands
  abbrev spot : ℕ → ℕ
  spot i = get_or order i 0 * entry_wide + body_at

  length-names : length names ≡ c
  length-names = length-keys_of (key_at e body_at entry_wide) (take c order) ∙ length-take-le c order ho

  length-all : length begun_all ≡ c
  length-all = length-map names (begun_slot (bodies n b)) ∙ length-names

  wide-all : Wide slot_wide begun_all
  wide-all = begun-wides n b hb names (names-wide e m (take c order) he below)

  pub spot-fits : (i : ℕ) → i < c → spot i + key_wide ≤ length e
  spot-fits i h = key_fits m body_at entry_wide (get_or order i 0) (length e) (omega arith) he (place-below e body_at entry_wide order c ho m i below h)

  begun-at : (i : ℕ) → i < c → get_or begun_all i [] ≡ begun_slot (bodies n b) (part (spot i) key_wide e)
  unfolding key_at
  begun-at i h =
      let l : i < length (take c order) = rw (length-take-le c order ho) h in
      get_d_map (begun_slot (bodies n b)) names i (rw length-names h)
      ∙ ap (begun_slot (bodies n b)) (keys_of-at (key_at e body_at entry_wide) (take c order) i l ∙ ap (key_at e body_at entry_wide) (get_or-take c order i 0 h))

  pub begin-start : (d : List ℕ) → d ≡ over 0 (flat (take 0 begun_all)) d
  begin-start d = rows_start slot_wide begun_all wide-all d

  pub begin-turn : (d : List ℕ) (i : ℕ) (s u : List ℕ) → i < c → s ≡ over 0 (flat (take i begun_all)) d → u ≡ over (i * slot_wide) (begun_slot (bodies n b) (part (spot i) key_wide e)) s → u ≡ over 0 (flat (take (i + 1) begun_all)) d
  begin-turn d i s u h g f = rows-turn slot_wide begun_all wide-all d i s u (rw length-all h) g (rw (begun-at i h) f)

  pub begin-end : (d : List ℕ) (i : ℕ) (s : List ℕ) → i ≡ c → s ≡ over 0 (flat (take i begun_all)) d → s ≡ over 0 (flat begun_all) d
  begin-end d i s h g = rows_end slot_wide begun_all wide-all d s (g ∙ ap (λ (j : ℕ). over 0 (flat (take j begun_all)) d) (h ∙ sym length-all))

  -- they are read back
  pub begun-read : (d s : List ℕ) → c * slot_wide ≤ length d → s ≡ over 0 (flat begun_all) d → slots_of c s ≡ begun_all
  unfolding over
  begun-read d s h g =
      let l : length (flat begun_all) ≡ c * slot_wide = length-flat slot_wide begun_all wide-all ∙ rw length-all in
      ap (slots_of c) (g ∙ onto-fits (flat begun_all) d (omega arith)) ∙ rw length-all at (rows_of-flat slot_wide begun_all (drop (length (flat begun_all)) d) wide-all)
