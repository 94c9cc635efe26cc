-- What a slot means: its key and its row, as it begins and as updates change it. Assumes nothing.
use mathlib.Core.Path.{◌≡◌, refl, ap, ◌∙◌}
use mathlib.Core.Bool.{Bool, true, false}
use mathlib.Core.Logic.{◌⊎◌, inl, inr}
use mathlib.Core.List.{List, [], ◌∷◌, ◌++◌}
use Prim.Native.Nat.{ℕ, suc, ◌-◌}
use native.Mathlib.Omega.{arith}
use lib.Dec.{eqb}
use lib.ListN.{length, replicate, length-append, length-replicate, length-set}
use lib.Seq.{take_at, take_all}
use Rattle.lists.specs.Logic.{on}
use Rattle.lists.specs.Each.{Each}
use Rattle.lists.specs.Text.{same}
use Rattle.lists.specs.Part.{part}
use Rattle.lists.specs.Rows.{Wide}
use Rattle.lists.proofs.TextLaws.{same-equal}
use Rattle.lists.proofs.PartLaws.{length_part}
use Rattle.passage.specs.Layout.{key_wide, body_wide, row_wide, key_of}
use Rattle.keys.specs.Sorted.{get}
use Rattle.keys.specs.Replay.{replayed}
use Rattle.keys.proofs.CountLaws.{get_key, each-get}
use Rattle.keys.proofs.ReplayLaws.{RowOf, empty-or}
use Rattle.update.specs.Rule.{row_rule}
use Rattle.update.proofs.RuleLaws.{rule-key, rule-wide}
use Rattle.book.specs.Entries.{entry_wide, body_at, kind_of, number_of, entry_body}
use Rattle.book.specs.Rules.{marked_withdrawn, withdrawn, standing, plan_row, plan_rows, row_for}
use Rattle.withdrawals_replay.specs.inner.Slots.{slot_wide, slot_key, slot_row}
use Rattle.withdrawals_replay.specs.inner.Worked.{slot_of, begun_slot, take_in, taken_in, heard_in}

-- no row, or a whole one
abbrev pub Whole : List ℕ → Type 0
Whole r = (r ≡ []) ⊎ (length r ≡ row_wide)

-- ---- a slot as it is made

pub length-slot_of : (k r : List ℕ) → length k ≡ key_wide → Whole r → length (slot_of k r) ≡ slot_wide
unfolding slot_of
length-slot_of k [] h w = ap suc (length-append k (replicate (row_wide - key_wide) 0)) ∙ rw length-replicate (omega arith)
length-slot_of k (b ∷ r) h (inl e) = let z : ◌≡◌ {A = ℕ} 0 1 = cc in absurd (omega arith)
length-slot_of k (b ∷ r) h (inr e) = omega arith

pub key_in-slot_of : (k r : List ℕ) → length k ≡ key_wide → RowOf k r → slot_key (slot_of k r) ≡ k
unfolding slot_of part
key_in-slot_of k [] h o = take_at k (replicate (row_wide - key_wide) 0) key_wide h
key_in-slot_of k (b ∷ r) h (inl e) = let z : ◌≡◌ {A = ℕ} 0 1 = cc in absurd (omega arith)
key_in-slot_of k (b ∷ r) h (inr e) = e

pub row_in-slot_of : (k r : List ℕ) → Whole r → slot_row (slot_of k r) ≡ r
unfolding slot_of slot_row part
row_in-slot_of k [] w = refl
row_in-slot_of k (b ∷ r) (inl e) = let z : ◌≡◌ {A = ℕ} 0 1 = cc in absurd (omega arith)
row_in-slot_of k (b ∷ r) (inr e) = take_all row_wide (b ∷ r) (omega arith)

-- ---- a slot that updates change

abbrev Body : List ℕ → Type 0
Body u = length u ≡ body_wide

-- a slot that an update made
made-key : (s u : List ℕ) → Body u → slot_key (1 ∷ row_rule s u) ≡ key_of u
unfolding part
made-key s u w = rule-key s u w

made_row : (s u : List ℕ) → Body u → slot_row (1 ∷ row_rule s u) ≡ row_rule s u
unfolding slot_row part
made_row s u w = take_all row_wide (row_rule s u) (omega (arith, rule-wide s u w))

module _ (u s : List ℕ) (w : Body u) where
  pub key_in-take : slot_key (take_in u s) ≡ slot_key s
  unfolding take_in
  key_in-take = go (same (key_of u) (slot_key s)) refl
    where
      go : (t : Bool) → same (key_of u) (slot_key s) ≡ t → slot_key (on t (1 ∷ row_rule (slot_row s) u) s) ≡ slot_key s
      go true e = made-key (slot_row s) u w ∙ same-equal (key_of u) (slot_key s) e
      go false e = refl

  pub row_in-take : slot_row (take_in u s) ≡ on (same (key_of u) (slot_key s)) (row_rule (slot_row s) u) (slot_row s)
  unfolding take_in
  row_in-take = go (same (key_of u) (slot_key s))
    where
      go : (t : Bool) → slot_row (on t (1 ∷ row_rule (slot_row s) u) s) ≡ on t (row_rule (slot_row s) u) (slot_row s)
      go true = made_row (slot_row s) u w
      go false = refl

  pub length-take : length s ≡ slot_wide → length (take_in u s) ≡ slot_wide
  unfolding take_in
  length-take h = go (same (key_of u) (slot_key s))
    where
      go : (t : Bool) → length (on t (1 ∷ row_rule (slot_row s) u) s) ≡ slot_wide
      go true = omega (arith, rule-wide (slot_row s) u w)
      go false = h

pub key_in-taken : (us : List (List ℕ)) (s : List ℕ) → Each Body us → slot_key (taken_in us s) ≡ slot_key s
unfolding taken_in
key_in-taken [] s h = refl
key_in-taken (u ∷ us) s h = key_in-taken us (take_in u s) h.1 ∙ key_in-take u s h.0

pub row_in-taken : (us : List (List ℕ)) (s : List ℕ) → Each Body us → slot_row (taken_in us s) ≡ replayed row_rule (slot_key s) (slot_row s) us
unfolding taken_in replayed
row_in-taken [] s h = refl
row_in-taken (u ∷ us) s h = row_in-taken us (take_in u s) h.1 ∙ rw (key_in-take u s h.0, row_in-take u s h.0)

pub length_taken : (us : List (List ℕ)) (s : List ℕ) → Each Body us → length s ≡ slot_wide → length (taken_in us s) ≡ slot_wide
unfolding taken_in
length_taken [] s h l = l
length_taken (u ∷ us) s h l = length_taken us (take_in u s) h.1 (length-take u s h.0 l)

pub taken-append : (us vs : List (List ℕ)) (s : List ℕ) → taken_in (us ++ vs) s ≡ taken_in vs (taken_in us s)
unfolding taken_in
taken-append [] vs s = refl
taken-append (u ∷ us) vs s = taken-append us vs (take_in u s)

-- ---- the entries of a book

pub wide-withdrawn : (n : ℕ) (us : List (List ℕ)) → Wide entry_wide us → Wide entry_wide (withdrawn n us)
unfolding withdrawn marked_withdrawn
wide-withdrawn n [] h = tt
wide-withdrawn n (e ∷ es) h = (go (eqb (number_of e) n), wide-withdrawn n es h.1)
  where
    go : (t : Bool) → length (on t (marked_withdrawn e) e) ≡ entry_wide
    go true = length-set e 0 3 ∙ h.0
    go false = h.0

pub wide-standing : (us : List (List ℕ)) → Wide entry_wide us → Wide body_wide (standing us)
unfolding standing
wide-standing [] h = tt
wide-standing (e ∷ es) h = go (eqb (kind_of e) 2) (wide-standing es h.1)
  where
    go : (t : Bool) → Wide body_wide (standing es) → Wide body_wide (on t (entry_body e ∷ standing es) (standing es))
    go true ih = let l = h.0 in (length_part body_at body_wide e (omega arith), ih)
    go false ih = ih

wide-plan_rows : (bodies : List (List ℕ)) → Wide body_wide bodies → Wide row_wide (plan_rows bodies)
unfolding plan_rows plan_row
wide-plan_rows [] h = tt
wide-plan_rows (b ∷ bodies) h = (length-append b (0 ∷ []) ∙ omega (arith, h.0), wide-plan_rows bodies h.1)

-- ---- the plan's row of a key: none, or whole and of that key

module _ (bodies : List (List ℕ)) (hb : Wide body_wide bodies) (k : List ℕ) where
  abbrev pub planned : List ℕ
  planned = get k (plan_rows bodies)

  pub planned-whole : Whole planned
  planned-whole = go (empty-or planned)
    where
      go : (planned ≡ []) ⊎ (planned ≡ [] → ⊥) → Whole planned
      go (inl e) = inl e
      go (inr e) = inr (each-get (λ (r : List ℕ). length r ≡ row_wide) k (plan_rows bodies) (wide-plan_rows bodies hb) e)

  pub planned-key : RowOf k planned
  planned-key = go (empty-or planned)
    where
      go : (planned ≡ []) ⊎ (planned ≡ [] → ⊥) → RowOf k planned
      go (inl e) = inl e
      go (inr e) = inr (get_key k (plan_rows bodies) e)

  module _ (hk : length k ≡ key_wide) where
    pub begun-key : slot_key (begun_slot bodies k) ≡ k
    unfolding begun_slot
    begun-key = key_in-slot_of k planned hk planned-key

    pub begun-row : slot_row (begun_slot bodies k) ≡ planned
    unfolding begun_slot
    begun-row = row_in-slot_of k planned planned-whole

    pub begun-wide : length (begun_slot bodies k) ≡ slot_wide
    unfolding begun_slot
    begun-wide = length-slot_of k planned hk planned-whole

-- ---- a slot that the book's updates change

module _ (n : ℕ) (us : List (List ℕ)) (hu : Wide entry_wide us) where
  heard : Each Body (standing (withdrawn n us))
  heard = wide-standing (withdrawn n us) (wide-withdrawn n us hu)

  pub heard-key : (s : List ℕ) → slot_key (heard_in n us s) ≡ slot_key s
  unfolding heard_in
  heard-key s = key_in-taken (standing (withdrawn n us)) s heard

  -- a slot worked out from the book is of its key, and has the row that the book gives it
  module _ (bodies : List (List ℕ)) (hb : Wide body_wide bodies) (k : List ℕ) (hk : length k ≡ key_wide) where
    pub worked-key : slot_key (heard_in n us (begun_slot bodies k)) ≡ k
    worked-key = heard-key (begun_slot bodies k) ∙ begun-key bodies hb k hk

    pub worked-row : slot_row (heard_in n us (begun_slot bodies k)) ≡ row_for row_rule bodies (withdrawn n us) k
    unfolding heard_in row_for
    worked-row = row_in-taken (standing (withdrawn n us)) (begun_slot bodies k) heard ∙ rw (begun-key bodies hb k hk, begun-row bodies hb k hk)

    pub worked-wide : length (heard_in n us (begun_slot bodies k)) ≡ slot_wide
    unfolding heard_in
    worked-wide = length_taken (standing (withdrawn n us)) (begun_slot bodies k) heard (begun-wide bodies hb k hk)
