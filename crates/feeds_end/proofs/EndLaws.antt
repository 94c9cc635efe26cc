-- The ways out of the end of a dossier in parts: 1, what was found in the parts, what the staged rows come to. Assumes nothing.
use Prim.Native.Nat.{ℕ, ◌-◌, ◌/◌, ◌≤◌, ◌<◌}
use native.Mathlib.Nat.{le_trans}
use native.Mathlib.Omega.{arith}
use mathlib.Core.Path.{◌≡◌, refl, sym, ap, ◌∙◌}
use mathlib.Core.Bool.{Bool, true, false, ◌&&◌}
use mathlib.Core.List.{List}
use borrow.Author.Tests.{le-leb, lt-leb, leb-true, leb-false, lt-ltb, le-ltb, ne_eqb}
use lib.Dec.{eqb, leb, ltb}
use lib.ListN.{length, drop, get_or}
use Rattle.std.specs.Prelude.{Ok, Err}
use Rattle.lists.specs.Logic.{on}
use Rattle.lists.specs.Rows.{rows_of}
use Rattle.lists.proofs.LogicLaws.{and-pass, and-false}
use Rattle.syntax.specs.Machine.{accepting}
use Rattle.passage.specs.Layout.{body_wide}
use Rattle.columns.specs.Tables.{is_form}
use Rattle.reader.specs.declared.Fault.TheVariants as Faults
use Rattle.reader.specs.Rules.{largest}
use Rattle.feeds.specs.declared.Feed.{Feed}
use Rattle.std.specs.Prelude.{Some, None}
use Rattle.feeds.specs.Kept.{feed_of, feed_may, zeros, is_begun, read_of}
use Rattle.feeds.proofs.KeptLaws.{may-facts, read-told, read-not}
use Rattle.calls.specs.declared.Refusal.{Refusal}
use Rattle.calls.specs.declared.Refusal.TheVariants.{Unsound, Owner, StagingShort, UnknownForm}
use Rattle.calls.specs.declared.Counts.{Counts}
use Rattle.calls.specs.declared.Outcome.{Outcome}
use Rattle.calls.specs.Answers.{Answer, is_accepted}
use Rattle.calls.specs.Leaves.{Leaves, outcome_of, leaves}
use Rattle.calls.specs.Message.{message_sound, room_for, taken_by}
use Rattle.calls.specs.End.{most_rows, least, staged_rows, all_in_range, any_denied, falls_short, reading_kept, post_answer, end_sound, end_answer, end_with, cleared, end_leaves}
use Rattle.calls.specs.inner.Steps.{passed_of}
use Rattle.calls.proofs.LeavesLaws.{leaves-refused, passed-off}
use Rattle.messages.specs.inner.Steps.{taken_leaves}
use Rattle.feeds_end.specs.inner.Steps.{lines_reading, staged_right, found_or, known_or, right_answer, taken_from}

-- ---- what was found in the parts

module _ (f : Feed) where
  pub lines_long : (f.long ≡ 0 → ⊥) → Err (Faults.Long f.long) ≡ lines_reading f
  unfolding lines_reading
  lines_long l = rw (ne_eqb f.long 0 l)

  pub lines-form : f.long ≡ 0 → (f.lines.form ≡ 0 → ⊥) → Err (Faults.Form f.lines.form) ≡ lines_reading f
  unfolding lines_reading
  lines-form l m = rw (l, ne_eqb f.lines.form 0 m)

  pub lines-field : f.long ≡ 0 → f.lines.form ≡ 0 → (f.lines.wrong ≡ 0 → ⊥) → Err (Faults.Field f.lines.wrong f.lines.column) ≡ lines_reading f
  unfolding lines_reading
  lines-field l m w = rw (l, m, ne_eqb f.lines.wrong 0 w)

  pub lines-owner : f.long ≡ 0 → f.lines.form ≡ 0 → f.lines.wrong ≡ 0 → (f.lines.owner ≡ 0 → ⊥) → Err (Faults.Owner f.lines.owner) ≡ lines_reading f
  unfolding lines_reading
  lines-owner l m w o = rw (l, m, w, ne_eqb f.lines.owner 0 o)

  pub lines_rows : f.long ≡ 0 → f.lines.form ≡ 0 → f.lines.wrong ≡ 0 → f.lines.owner ≡ 0 → Ok f.lines.rows ≡ lines_reading f
  unfolding lines_reading
  lines_rows l m w o = rw (l, m, w, o)

  pub kept-long : largest < f.at → Err Faults.TooLong ≡ reading_kept f
  unfolding reading_kept
  kept-long h = rw (lt-ltb largest f.at h)

  pub kept-fault : f.at ≤ largest → (f.fault ≡ 0 → ⊥) → Err (Faults.Syntax (f.fault - 1)) ≡ reading_kept f
  unfolding reading_kept
  kept-fault h e = rw (le-ltb largest f.at h, ne_eqb f.fault 0 e)

  pub kept-lines : f.at ≤ largest → f.fault ≡ 0 → accepting f.machine ≡ true → lines_reading f ≡ reading_kept f
  unfolding reading_kept lines_reading
  kept-lines h e a = rw (le-ltb largest f.at h, e, a)

  pub kept-unfinished : f.at ≤ largest → f.fault ≡ 0 → accepting f.machine ≡ false → Err (Faults.Syntax f.at) ≡ reading_kept f
  unfolding reading_kept
  kept-unfinished h e a = rw (le-ltb largest f.at h, e, a)

-- ---- the staged rows

module _ (staging : List ℕ) (f : Feed) (here : ℕ) (is : here ≡ least f.staged (length staging / body_wide)) where
  pub rows-here : rows_of body_wide here staging ≡ staged_rows staging f
  unfolding staged_rows
  rows-here = ap (λ (n : ℕ). rows_of body_wide n staging) is

pub least-few : (a b : ℕ) → least a b ≤ a
least-few a b = go (leb a b) refl
  where
    go : (t : Bool) → leb a b ≡ t → on t a b ≤ a
    go true e = omega arith
    go false e = let h = leb-false a b e in omega arith

module _ (staging : List ℕ) (f : Feed) where
  pub right-rows : f.lines.rows ≤ most_rows → (b : Bool) → b ≡ all_in_range (staged_rows staging f) → b ≡ staged_right staging f
  unfolding staged_right
  right-rows h b p = p ∙ rw (le-leb f.lines.rows most_rows h)

  pub right-many : most_rows < f.lines.rows → false ≡ staged_right staging f
  unfolding staged_right
  right-many h = rw (lt-leb f.lines.rows most_rows h)

  -- what is right has as few rows staged as a message has
  pub right-few : staged_right staging f ≡ true → f.staged ≤ f.lines.rows → f.staged ≤ most_rows
  unfolding staged_right
  right-few e h =
      let q = and-pass (leb f.lines.rows most_rows) (all_in_range (staged_rows staging f)) e in
      le_trans h (leb-true f.lines.rows most_rows q.0)

-- ---- the ways out

module _ (register staging book table : List ℕ) (c : Counts) where
  -- a refusal
  refused : (f : Feed) (x a : Answer) → x ≡ a → is_accepted a ≡ false → (r : Outcome) → r ≡ outcome_of a c → leaves r book table ≡ taken_from x f staging book table c
  unfolding taken_from taken_by
  refused f x a e l r h = leaves-refused x a _ book table c e l r h

  module _ (f : Feed) (rows : List (List ℕ)) (is : rows ≡ staged_rows staging f) where
    post_is : (p q : Bool) → any_denied register f.sender rows ≡ p → falls_short staging f ≡ q
        → post_answer register staging book table c f ≡ on p (Err (Owner 0)) (on q (Err StagingShort) (room_for (staged_rows staging f) book table c))
    unfolding post_answer
    post_is p q d s = let e : any_denied register f.sender (staged_rows staging f) ≡ p = ap (any_denied register f.sender) (sym is) ∙ d in rw (e, s)

    pub post-denied : any_denied register f.sender rows ≡ true → (r : Outcome) → r ≡ outcome_of (Err (Owner 0)) c
        → leaves r book table ≡ taken_from (post_answer register staging book table c f) f staging book table c
    post-denied d r h = refused f _ (Err (Owner 0)) (post_is true (falls_short staging f) d refl) refl r h

    pub post-short : any_denied register f.sender rows ≡ false → falls_short staging f ≡ true → (r : Outcome) → r ≡ outcome_of (Err StagingShort) c
        → leaves r book table ≡ taken_from (post_answer register staging book table c f) f staging book table c
    post-short d s r h = refused f _ (Err StagingShort) (post_is false true d s) refl r h

    pub post-taken : any_denied register f.sender rows ≡ false → falls_short staging f ≡ false → (r : Outcome) (b t : List ℕ)
        → leaves r b t ≡ taken_leaves rows f.sender book table c → leaves r b t ≡ taken_from (post_answer register staging book table c f) f staging book table c
    unfolding taken_from taken_leaves
    post-taken d s r b t h = rw (post_is false false d s) (h ∙ ap (λ (bs : List (List ℕ)). taken_by (room_for bs book table c) bs f.sender book table c) is)

  module _ (f : Feed) where
    pub found : (a : Refusal) → passed_of 0 (reading_kept f) ≡ Err a → (r : Outcome) → r ≡ outcome_of (Err a) c
        → leaves r book table ≡ taken_from (found_or register staging book table c f) f staging book table c
    unfolding found_or
    found a e r h =
        let off = passed-off 0 (reading_kept f) a e (post_answer register staging book table c f) in
        refused f _ (Err a) off refl r h

    pub posted : (n : ℕ) → reading_kept f ≡ Ok n → (l : Leaves) → l ≡ taken_from (post_answer register staging book table c f) f staging book table c
        → l ≡ taken_from (found_or register staging book table c f) f staging book table c
    unfolding found_or
    posted n e l h = rw e h

  module _ (f : Feed) where
    pub form-known : is_form f.form ≡ true → (l : Leaves) → l ≡ taken_from (found_or register staging book table c f) f staging book table c
        → l ≡ taken_from (known_or register staging book table c f) f staging book table c
    unfolding known_or
    form-known e l h = rw e h

    pub form-unknown : is_form f.form ≡ false → (r : Outcome) → r ≡ outcome_of (Err UnknownForm) c
        → leaves r book table ≡ taken_from (known_or register staging book table c f) f staging book table c
    unfolding known_or
    form-unknown e r h = refused f _ (Err UnknownForm) (rw e) refl r h

  module _ (f : Feed) where
    pub lent-unsound : message_sound register book table c ≡ false → (r : Outcome) → r ≡ outcome_of (Err Unsound) c
        → leaves r book table ≡ taken_from (right_answer register staging book table c f) f staging book table c
    unfolding right_answer
    lent-unsound e r h = refused f _ (Err Unsound) (rw e) refl r h

    pub kept-unsound : message_sound register book table c ≡ true → staged_right staging f ≡ false → (r : Outcome) → r ≡ outcome_of (Err Unsound) c
        → leaves r book table ≡ taken_from (right_answer register staging book table c f) f staging book table c
    unfolding right_answer
    kept-unsound e u r h = refused f _ (Err Unsound) (rw (e, u)) refl r h

    pub all_right : message_sound register book table c ≡ true → staged_right staging f ≡ true → (l : Leaves)
        → l ≡ taken_from (known_or register staging book table c f) f staging book table c
        → l ≡ taken_from (right_answer register staging book table c f) f staging book table c
    unfolding right_answer
    all_right e u l h = rw (e, u) h

  module _ (kept : List ℕ) where
    -- what the end's rule leaves of the day
    abbrev taken : Leaves
    taken = taken_by (end_answer register staging book table c kept) (staged_rows staging (feed_of kept)) (feed_of kept).sender book table c

    begun-taken : is_begun kept ≡ true → taken_from (right_answer register staging book table c (feed_of kept)) (feed_of kept) staging book table c ≡ taken
    unfolding taken_from right_answer staged_right known_or found_or end_answer end_sound taken_by
    begun-taken e = rw e

    -- the feed that the numbers tell
    pub read-taken : (f : Feed) → read_of kept ≡ Some f → (l : Leaves) → l ≡ taken_from (right_answer register staging book table c f) f staging book table c → l ≡ taken
    read-taken f is l h =
        let t = read-told kept f is in
        h ∙ ap (λ (x : Feed). taken_from (right_answer register staging book table c x) x staging book table c) t.1 ∙ begun-taken t.0

    -- numbers of no begun one
    unread-unsound : is_begun kept ≡ false → end_answer register staging book table c kept ≡ Err Unsound
    unfolding end_answer end_sound
    unread-unsound e = rw (e, and-false (message_sound register book table c))

    pub unread-taken : read_of kept ≡ None → (r : Outcome) → r ≡ outcome_of (Err Unsound) c → leaves r book table ≡ taken
    unfolding taken_from
    unread-taken is r h = refused (feed_of kept) _ (Err Unsound) (unread-unsound (read-not kept is)) refl r h

    pub end-leaves : (r : Outcome) (b t : List ℕ) → leaves r b t ≡ taken
        → (n : List ℕ) → n ≡ on (is_accepted r.answer) cleared kept → end_with r b t n ≡ end_leaves register staging book table c kept
    unfolding end_leaves taken_by
    end-leaves r b t l n e =
        let m : n ≡ on (is_accepted taken.outcome.answer) cleared kept = e ∙ ap (λ (x : Leaves). on (is_accepted x.outcome.answer) cleared kept) l in
        λ i. end_with (l i).outcome (l i).book (l i).table (m i)

-- ---- the numbers

-- what an answer leaves of them
pub kept-cleared : (a : Answer) (kept n : List ℕ) → is_accepted a ≡ true → n ≡ cleared → n ≡ on (is_accepted a) cleared kept
kept-cleared a kept n e h = rw e h

pub kept-left : (a : Answer) (kept : List ℕ) → is_accepted a ≡ false → kept ≡ on (is_accepted a) cleared kept
kept-left a kept e = rw e

begun-staged : (kept : List ℕ) → is_begun kept ≡ true → (feed_of kept).staged ≤ (feed_of kept).lines.rows
unfolding is_begun
begun-staged kept e =
    let first = eqb (get_or kept 0 0) 1 && ltb (get_or kept 4 0) 32 && zeros (drop 38 kept) in
    (may-facts (feed_of kept) (and-pass first (feed_may (feed_of kept)) e).1).staged

-- a begun feed has no more rows staged than read
pub read-staged : (kept : List ℕ) (f : Feed) → read_of kept ≡ Some f → f.staged ≤ f.lines.rows
read-staged kept f is = let t = read-told kept f is in rw t.1 (begun-staged kept t.0)
