-- Slots as the code writes them. Assumes nothing.
use mathlib.Core.Path.{◌≡◌, refl, sym, ap, ◌∙◌}
use mathlib.Core.Bool.{true, false}
use mathlib.Core.Logic.{inl, inr}
use mathlib.Core.List.{List, [], ◌∷◌, ◌++◌, append-nil}
use Prim.Native.Nat.{ℕ, ◌+◌, ◌*◌, ◌-◌, ◌≤◌, ◌<◌}
use native.Mathlib.Numerals.{add-one}
use native.Mathlib.Nat.{add-zero, not-suc-le-zero}
use native.Mathlib.Omega.{arith}
use borrow.Author.Tests.{eq-eqb, ne_eqb}
use lib.ListN.{length, take, get_or, set, replicate, length-replicate, length-append}
use lib.Seq.{length-take-le, take-suc, take-length, set-get_or, drop-length}
use Rattle.lists.specs.Part.{part, over, some}
use Rattle.lists.specs.Rows.{flat, Wide}
use Rattle.lists.proofs.PartLaws.{part-part, length_part}
use Rattle.lists.proofs.OverLaws.{over-nil, over-cons, over-then, over-longer, get_d-before, onto-fits}
use Rattle.lists.proofs.ReadLaws.{part-written}
use Rattle.lists.proofs.RowLaws.{flat_append, rows_of-over}
use Rattle.lists.proofs.WideLaws.{length-flat}
use Rattle.lists.proofs.EachLaws.{each_take}
use Rattle.passage.specs.Layout.{key_wide, body_wide, row_wide}
use Rattle.update.specs.Rule.{begun, beginning, apply_row, row_rule}
use Rattle.update.proofs.RuleLaws.{rule-wide}
use Rattle.book.proofs.PlaceLaws.{first-at}
use Rattle.book.proofs.WriteLaws.{set-over}
use Rattle.withdrawals_replay.specs.inner.Slots.{slot_wide, slots_of, slot_row}
use Rattle.withdrawals_replay.specs.inner.Worked.{slot_of}
use Rattle.withdrawals_replay.proofs.SlotLaws.{Whole}

-- one byte in front of what was written
front-byte : (at v : ℕ) (vs d : List ℕ) → set (over (at + 1) vs d) at v ≡ over at (v ∷ vs) d
front-byte at v vs d = rw (add-one at) (over-cons at v vs d)

-- ---- a slot begins: a zero byte, the key, zero bytes; then perhaps a row

module _ (at : ℕ) (k d s t : List ℕ) (hk : length k ≡ key_wide) (keyed : s ≡ over (at + 1) k (set d at 0)) (cleared : t ≡ over (at + 1 + key_wide) (replicate (row_wide - key_wide) 0) s) where
  abbrev zeros : List ℕ
  zeros = replicate (row_wide - key_wide) 0

  blank : t ≡ over at (slot_of k []) d
  unfolding slot_of
  blank =
      let a : at + 1 + key_wide ≡ at + length (0 ∷ k) = omega arith in
      cleared
      ∙ ap (λ (l : List ℕ). over (at + 1 + key_wide) zeros l) (keyed ∙ ap (over (at + 1) k) (set-over at 0 d) ∙ over-then at (0 ∷ []) k d)
      ∙ rw a (over-then at (0 ∷ k) zeros d)

  module _ (r u : List ℕ) (planned : u ≡ over (at + 1) r t) where
    pub slot-planned : Whole r → some r ≡ true → set u at 1 ≡ over at (slot_of k r) d
    unfolding slot_of
    slot-planned w h = rw (planned, front-byte at 1 r t, blank) (go r w h)
      where
        go : (r : List ℕ) → Whole r → some r ≡ true → over at (1 ∷ r) (over at (0 ∷ k ++ zeros) d) ≡ over at (slot_of k r) d
        go [] w h = let z : ◌≡◌ {A = ℕ} 0 1 = cc in absurd (omega arith)
        go (b ∷ r) (inl e) h = let z : ◌≡◌ {A = ℕ} 0 1 = cc in absurd (omega arith)
        go (b ∷ r) (inr e) h = over-longer at (0 ∷ k ++ zeros) (1 ∷ b ∷ r) d (simp (length-append, length-replicate) (omega arith))

    pub slot-bare : some r ≡ false → u ≡ over at (slot_of k r) d
    slot-bare h = planned ∙ go r h
      where
        go : (r : List ℕ) → some r ≡ false → over (at + 1) r t ≡ over at (slot_of k r) d
        go [] h = over-nil (at + 1) t ∙ blank
        go (b ∷ r) h = let z : ◌≡◌ {A = ℕ} 0 1 = cc in absurd (omega arith)

-- ---- slots written one after another

module _ (w : ℕ) (xs : List (List ℕ)) (wide : Wide w xs) (d : List ℕ) where
  pub rows_start : d ≡ over 0 (flat (take 0 xs)) d
  unfolding flat
  rows_start = sym (over-nil 0 d)

  pub rows-turn : (i : ℕ) (s u : List ℕ) → i < length xs → s ≡ over 0 (flat (take i xs)) d → u ≡ over (i * w) (get_or xs i []) s → u ≡ over 0 (flat (take (i + 1) xs)) d
  unfolding flat
  rows-turn i s u h e g =
      let l : length (flat (take i xs)) ≡ i * w = length-flat w (take i xs) (each_take (λ (r : List ℕ). length r ≡ w) i xs wide) ∙ rw (length-take-le i xs (omega arith)) in
      let a : i * w ≡ 0 + length (flat (take i xs)) = omega arith in
      let m : flat (take (i + 1) xs) ≡ flat (take i xs) ++ get_or xs i [] =
      ap (λ (j : ℕ). flat (take j xs)) (add-one i) ∙ ap flat (take-suc xs i [] h) ∙ flat_append (take i xs) (get_or xs i [] ∷ []) ∙ ap (λ (l : List ℕ). flat (take i xs) ++ l) (append-nil (get_or xs i [])) in
      g ∙ ap (over (i * w) (get_or xs i [])) e ∙ rw (a, m) (over-then 0 (flat (take i xs)) (get_or xs i []) d)

  pub rows_end : (s : List ℕ) → s ≡ over 0 (flat (take (length xs) xs)) d → s ≡ over 0 (flat xs) d
  rows_end s e = e ∙ ap (λ (l : List (List ℕ)). over 0 (flat l) d) (take-length xs)

-- ---- an update taken into a slot

begun-held : (h : List ℕ) → 0 < length h → begun h ≡ h
begun-held [] l = absurd (not-suc-le-zero l)
begun-held (b ∷ r) l = refl

length-beginning : length beginning ≡ row_wide
unfolding beginning
length-beginning = refl

module _ (at : ℕ) (d u : List ℕ) (fits : at + slot_wide ≤ length d) (wide : length u ≡ body_wide) where
  abbrev row : List ℕ
  row = part (at + 1) row_wide d

  -- a slot with a row, and one without
  pub row-there : get_or d at 0 ≡ 1 → slot_row (part at slot_wide d) ≡ row
  unfolding slot_row
  row-there e = rw (first-at at slot_wide d (omega arith), eq-eqb (get_or d at 0) 1 e) (part-part 1 row_wide at slot_wide d (omega arith))

  pub row-none : (get_or d at 0 ≡ 1 → ⊥) → slot_row (part at slot_wide d) ≡ []
  unfolding slot_row
  row-none e = rw (first-at at slot_wide d (omega arith), ne_eqb (get_or d at 0) 1 e)

  pub held-taken : (s : List ℕ) → get_or d at 0 ≡ 1 → s ≡ over (at + 1) (apply_row row u) d → s ≡ over at (1 ∷ row_rule (slot_row (part at slot_wide d)) u) d
  unfolding row_rule
  held-taken s e g =
      let full : 0 < length row = rw (length_part (at + 1) row_wide d (omega arith)) (omega arith) in
      let same : get_or (over (at + 1) (apply_row row u) d) at 0 ≡ 1 = get_d-before (at + 1) at (apply_row row u) d (omega arith) ∙ e in
      g
      ∙ sym (set-get_or (over (at + 1) (apply_row row u) d) at 0)
      ∙ ap (set (over (at + 1) (apply_row row u) d) at) same
      ∙ front-byte at 1 (apply_row row u) d
      ∙ rw (row-there e, begun-held row full)

  pub new-taken : (s t : List ℕ) → (get_or d at 0 ≡ 1 → ⊥) → s ≡ over (at + 1) beginning d → t ≡ over (at + 1) (apply_row (part (at + 1) row_wide s) u) s → set t at 1 ≡ over at (1 ∷ row_rule (slot_row (part at slot_wide d)) u) d
  unfolding row_rule
  new-taken s t e g h =
      let begins : part (at + 1) row_wide s ≡ beginning =
      rw (g, ← length-beginning) (part-written (at + 1) beginning d (rw length-beginning (omega arith))) in
      let long : length beginning ≤ length (apply_row beginning u) = rw length-beginning (omega (arith, rule-wide [] u wide)) in
      rw (h, begins, front-byte at 1 (apply_row beginning u) s, row-none e)
      (sym (front-byte at 1 (apply_row beginning u) s) ∙ ap (λ (l : List ℕ). set l at 1) (ap (over (at + 1) (apply_row beginning u)) g ∙ over-longer (at + 1) beginning (apply_row beginning u) d long)
      ∙ front-byte at 1 (apply_row beginning u) d)

-- ---- a whole slot written: the slots have it in its place

over-whole : (vs d : List ℕ) → length vs ≡ length d → over 0 vs d ≡ vs
unfolding over
over-whole vs d e = onto-fits vs d (omega arith) ∙ rw (e, drop-length d) (append-nil vs)

pub slots_set : (c i : ℕ) (x d : List ℕ) → c * slot_wide ≤ length d → i < c → length x ≡ slot_wide → slots_of c (over (i * slot_wide) x d) ≡ set (slots_of c d) i x
slots_set c i x d h l e =
    let old : length (part (i * slot_wide) slot_wide d) ≡ slot_wide = length_part (i * slot_wide) slot_wide d (omega arith) in
    ap (λ (p : ℕ). slots_of c (over p x d)) (sym (add-zero (i * slot_wide)))
    ∙ rows_of-over slot_wide c i 0 x d l (omega arith)
    ∙ ap (set (slots_of c d) i) (over-whole x (part (i * slot_wide) slot_wide d) (e ∙ sym old))
