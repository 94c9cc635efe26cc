-- How used bytes split: plan entries first, then updates, nothing between; and which bytes split so. Assumes nothing.
use mathlib.Core.Path.{◌≡◌, refl, sym, ap, ◌∙◌}
use mathlib.Core.Bool.{Bool, true, false, ◌&&◌}
use mathlib.Core.List.{List, [], ◌∷◌, ◌++◌}
use Prim.Native.Nat.{ℕ, zero, suc, ◌+◌, ◌*◌, ◌-◌, ◌/◌, ◌≤◌, ◌<◌}
use native.Mathlib.Nat.{zero-add, suc-add, add-zero}
use native.Mathlib.Omega.{arith}
use borrow.Author.Tests.{eq-eqb, ne_eqb, eqb-true}
use lib.Dec.{eqb, leb}
use lib.ListN.{length, take, drop, get_or, length-drop}
use lib.Seq.{take-add, get_or-take}
use Rattle.lists.specs.Each.{Each}
use Rattle.lists.specs.Logic.{on, within}
use Rattle.lists.specs.Rows.{rows_of, flat, Wide}
use Rattle.lists.proofs.LogicLaws.{and-pass, within-true}
use Rattle.lists.proofs.RowLaws.{rows_of-append, length-rows_of, flat-rows_of, take-rows_of}
use Rattle.lists.proofs.WideLaws.{wide-rows_of}
use Rattle.keys.specs.Sorted.{sorted_rows}
use Rattle.book.specs.Entries.{plan_wide, entry_wide, kind_of, sender_of, leading, plan_count, behind_plans, plans_in, updates_in}
use Rattle.book.specs.Rules.{book_room, all_plans, entry_in_range, chained, no_entry, book_sound}
use Rattle.book.proofs.PlanLaws.{bodies}
use Rattle.book.proofs.SoundLaws.{sound-facts, facts-sound, used-within, plans-within}
use Rattle.book.proofs.NumberLaws.{link}

-- ---- entries of kind 1

abbrev pub Plans : List (List ℕ) → Type 0
Plans es = Each (λ (e : List ℕ). kind_of e ≡ 1) es

leading-plans : (es : List (List ℕ)) → Plans (take (leading es) es)
unfolding leading
leading-plans [] = tt
leading-plans (e ∷ es) = go (eqb (kind_of e) 1) refl (leading-plans es)
  where
    go : (t : Bool) → eqb (kind_of e) 1 ≡ t → Plans (take (leading es) es) → Plans (take (on t (suc (leading es)) 0) (e ∷ es))
    go true q h = (eqb-true _ _ q, h)
    go false q h = tt

leading-append : (xs ys : List (List ℕ)) → Plans xs → leading (xs ++ ys) ≡ length xs + leading ys
unfolding leading
leading-append [] ys h = sym (zero-add (leading ys))
leading-append (x ∷ xs) ys h = rw (eq-eqb (kind_of x) 1 h.0, suc-add) (ap suc (leading-append xs ys h.1))

-- rows that begin with another kind
leading-other : (j : ℕ) (t : List ℕ) → (0 < j → get_or t 0 0 ≡ 1 → ⊥) → leading (rows_of plan_wide j t) ≡ 0
unfolding leading rows_of
leading-other zero t h = refl
leading-other (suc j) t h =
    let e : kind_of (take plan_wide t) ≡ get_or t 0 0 = get_or-take plan_wide t 0 0 (omega arith) in
    rw (e, ne_eqb (get_or t 0 0) 1 (h (omega arith)))

-- no update has kind 1
update-kind : (e : List ℕ) → entry_in_range e ≡ true → kind_of e ≡ 1 → ⊥
unfolding entry_in_range
update-kind e h k =
    let r = (and-pass (within 2 3 (kind_of e)) _ (and-pass (within 2 3 (kind_of e) && leb 1 (sender_of e)) _ h).0).0 in
    let w = (within-true 2 3 (kind_of e) r).0 in
    absurd (omega arith)

first_kind : (m : ℕ) (t : List ℕ) → chained no_entry (rows_of entry_wide m t) ≡ true → 0 < m → get_or t 0 0 ≡ 1 → ⊥
unfolding rows_of
first_kind zero t c h k = absurd (omega arith)
first_kind (suc m) t c h k =
    let e : kind_of (take entry_wide t) ≡ get_or t 0 0 = get_or-take entry_wide t 0 0 (omega arith) in
    update-kind (take entry_wide t) (link no_entry (take entry_wide t) (rows_of entry_wide m (drop entry_wide t)) c).range (e ∙ k)

-- ---- bytes that split into n plan entries and m updates

pub record Split (used : ℕ) (b : List ℕ) (n m : ℕ) : Type 0 where
  pub whole : used ≡ n * plan_wide + m * entry_wide
  pub room : used ≤ book_room b
  pub plans : Plans (rows_of plan_wide n b)
  pub ranges : all_plans (bodies n b) ≡ true
  pub rises : sorted_rows (bodies n b) ≡ true
  pub chain : chained no_entry (rows_of entry_wide m (drop (n * plan_wide) b)) ≡ true

module _ (used : ℕ) (b : List ℕ) (n m : ℕ) (s : Split used b n m) where
  pub split-count : plan_count used b ≡ n
  unfolding plan_count
  split-count =
      let w = s.whole in
      let j = used / plan_wide - n in
      let t = drop (n * plan_wide) b in
      let e : used / plan_wide ≡ n + j = omega arith in
      let z : leading (rows_of plan_wide j t) ≡ 0 = leading-other j t (λ (h : 0 < j). first_kind m t s.chain (omega arith)) in
      rw (e, rows_of-append plan_wide n j b, leading-append (rows_of plan_wide n b) (rows_of plan_wide j t) s.plans, length-rows_of plan_wide n b, z) (add-zero n)

  pub split-plans : plans_in used b ≡ rows_of plan_wide n b
  unfolding plans_in
  split-plans = rw split-count

  pub split-updates : updates_in used b ≡ rows_of entry_wide m (drop (n * plan_wide) b)
  unfolding updates_in
  split-updates =
      let w = s.whole in
      let e : (used - n * plan_wide) / entry_wide ≡ m = omega arith in
      rw (split-count, e)

  pub split-sound : book_sound used b ≡ true
  split-sound =
      let w = s.whole in
      facts-sound used b
      record {
        room = s.room;
        whole = rw split-count (omega arith);
        ranges = rw split-plans s.ranges;
        rises = rw split-plans s.rises;
        chain = rw split-updates s.chain;
      }

-- ---- a sound book splits so

module _ (used : ℕ) (b : List ℕ) where
  abbrev pub update_count : ℕ
  update_count = behind_plans used b / entry_wide

  pub sound-split : book_sound used b ≡ true → Split used b (plan_count used b) update_count
  unfolding plans_in updates_in plan_count
  sound-split e =
      let f = sound-facts used b e in
      let w = f.whole in
      let k = plans-within used b in
      let n : plan_count used b ≤ used / plan_wide = omega arith in
      record {
        whole = omega arith;
        room = f.room;
        plans = rw (take-rows_of plan_wide (used / plan_wide) (plan_count used b) b n) at (leading-plans (rows_of plan_wide (used / plan_wide) b));
        ranges = f.ranges;
        rises = f.rises;
        chain = f.chain;
      }

  module _ (sound : book_sound used b ≡ true) where
    -- plan entries first, then updates, nothing between
    pub split-whole : take used b ≡ flat (plans_in used b) ++ flat (updates_in used b)
    split-whole =
        let s = sound-split sound in
        let n = plan_count used b in
        rw (
          split-plans used b n update_count s,
          split-updates used b n update_count s,
          flat-rows_of plan_wide n b,
          flat-rows_of entry_wide update_count (drop (n * plan_wide) b),
        )
        (ap (λ (i : ℕ). take i b) s.whole ∙ take-add (n * plan_wide) (update_count * entry_wide) b)

    pub wide-updates : Wide entry_wide (updates_in used b)
    wide-updates =
        let s = sound-split sound in
        let w = s.whole in
        let u = (used-within used b (sound-facts used b sound)).0 in
        rw (split-updates used b (plan_count used b) update_count s)
        (wide-rows_of entry_wide update_count (drop (plan_count used b * plan_wide) b) (simp length-drop (omega arith)))

    pub length-updates : length (updates_in used b) ≡ update_count
    length-updates = rw (split-updates used b (plan_count used b) update_count (sound-split sound)) (length-rows_of entry_wide update_count (drop (plan_count used b * plan_wide) b))
