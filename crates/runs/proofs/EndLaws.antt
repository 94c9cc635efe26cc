-- The end of a dossier in parts that is accepted takes the staged rows, whoever wrote them. Assumes nothing.
use mathlib.Core.Path.{◌≡◌, refl, sym, ap, ◌∙◌, subst₂}
use mathlib.Core.Bool.{Bool, true, false, not, ◌&&◌}
use mathlib.Core.List.{List, [], ◌∷◌}
use Prim.Native.Nat.{ℕ, zero, suc, ◌+◌, ◌*◌, ◌/◌, ◌≤◌, ◌<◌}
use native.Mathlib.Nat.{le-div_iff_mul-le}
use native.Mathlib.Omega.{arith}
use borrow.Author.Tests.{leb-true, not-false}
use lib.Dec.{leb}
use lib.ListN.{length}
use Rattle.std.specs.Prelude.{Ok, Err}
use Rattle.lists.specs.Logic.{on}
use Rattle.lists.specs.Each.{Each}
use Rattle.lists.specs.Rows.{Wide}
use Rattle.lists.proofs.LogicLaws.{and-pass, or-fail}
use Rattle.lists.proofs.WideLaws.{wide-rows_of}
use Rattle.passage.specs.Layout.{body_wide, owner_of}
use Rattle.passage.specs.Ranges.{update_in_range}
use Rattle.columns.specs.Tables.{is_form}
use Rattle.register.specs.Register.{grants}
use Rattle.register.proofs.RegisterLaws.{grants-desk}
use Rattle.keys.proofs.ReplayLaws.{each_both}
use Rattle.table.specs.Rules.{table_room}
use Rattle.book.specs.Entries.{entry_wide}
use Rattle.book.specs.Rules.{book_sound, book_room}
use Rattle.feeds.specs.declared.Feed.{Feed}
use Rattle.feeds.specs.Kept.{feed_of, is_begun}
use Rattle.calls.specs.declared.Refusal.TheVariants.{Unsound, Owner, StagingShort, BookShort, TableShort, UnknownForm}
use Rattle.calls.specs.Answers.{Answer, is_accepted, unless_refused}
use Rattle.calls.specs.Message.{message_sound, number_for, rows_taken, room_for, taken_by}
use Rattle.calls.specs.End.{least, staged_rows, all_in_range, any_denied, falls_short, most_rows, end_sound, reading_kept, post_answer, end_answer, end_leaves}
use Rattle.calls.proofs.AcceptedLaws.{first_of, read-on}
use Rattle.calls.proofs.TakenLaws.{IsBody}
use Rattle.calls.specs.Leaves.{Day}
use Rattle.runs.specs.Runs.{Call, reply_to, after, Taken, Deed, deed_of, done, noted}
use Rattle.runs.proofs.FollowLaws.{Holds}
use Rattle.runs.proofs.TakeLaws.{takes, Takable, taken_deed, taken-deed, taken-holds}

-- ---- the staged rows

least-most : (a b : ℕ) → least a b ≤ b
least-most a b = go (leb a b) refl
  where
    go : (t : Bool) → leb a b ≡ t → on t a b ≤ b
    go true e = leb-true a b e
    go false e = omega arith

staged-wide : (staging : List ℕ) (f : Feed) → Wide body_wide (staged_rows staging f)
unfolding staged_rows
staged-wide staging f =
    wide-rows_of body_wide (least f.staged (length staging / body_wide)) staging ((le-div_iff_mul-le {k = body_wide} (omega arith)).0 (least-most f.staged (length staging / body_wide)))

each-in-range : (rs : List (List ℕ)) → all_in_range rs ≡ true → Each (λ (r : List ℕ). update_in_range r ≡ true) rs
unfolding all_in_range
each-in-range [] e = tt
each-in-range (r ∷ rs) e = let k = and-pass (update_in_range r) (all_in_range rs) e in (k.0, each-in-range rs k.1)

-- the desk is registered for no owner
granted-from : (register : List ℕ) (sender : ℕ) (rs : List (List ℕ)) → any_denied register sender rs ≡ false → 0 < length rs → 1 ≤ sender
unfolding any_denied
granted-from register sender [] e h = absurd (omega arith)
granted-from register zero (r ∷ rs) e h =
    let k : grants register 0 (owner_of r) ≡ true = not-false _ (or-fail (not (grants register 0 (owner_of r))) (any_denied register 0 rs) e).0 in
    let m : grants register 0 (owner_of r) ≡ false = grants-desk register 0 (owner_of r) refl in
    absurd (let z : ◌≡◌ {A = ℕ} 0 1 = cc in omega arith)
granted-from register (suc s) (r ∷ rs) e h = omega arith

-- a refusal, or what comes next
second-of : (b : Bool) (x a : Answer) → is_accepted x ≡ false → is_accepted (on b x a) ≡ true → (b ≡ false) × (is_accepted a ≡ true)
second-of true x a r e = absurd (let z : ◌≡◌ {A = ℕ} 0 1 = cc in omega arith)
second-of false x a r e = (refl, e)

module _ (register staging kept : List ℕ) (x : Day) where
  abbrev call : Call
  call = Call.end_feed register staging kept

  abbrev pub sender : ℕ
  sender = (feed_of kept).sender

  abbrev pub sent : List (List ℕ)
  sent = staged_rows staging (feed_of kept)

  abbrev fits : Bool
  fits = leb (x.counts.used + length sent * entry_wide) (book_room x.book)

  abbrev holds : Bool
  holds = leb (length (rows_taken sent x.table x.counts.rows)) (table_room x.table)

  -- what an accepted end passed
  record Went : Type 0 where
    sound : end_sound register staging x.book x.table x.counts kept ≡ true
    known : is_form (feed_of kept).form ≡ true
    rows : (n : ℕ) × (reading_kept (feed_of kept) ≡ Ok n)
    granted : any_denied register sender sent ≡ false
    all : falls_short staging (feed_of kept) ≡ false
    in-book : fits ≡ true
    in_table : holds ≡ true

  module _ (e : is_accepted (end_answer register staging x.book x.table x.counts kept) ≡ true) where
    went : Went
    unfolding end_answer post_answer room_for
    went =
        let found = unless_refused 0 (reading_kept (feed_of kept)) (post_answer register staging x.book x.table x.counts (feed_of kept)) in
        let s = first_of (end_sound register staging x.book x.table x.counts kept) (on (is_form (feed_of kept).form) found (Err UnknownForm)) (Err Unsound) refl e in
        let k = first_of (is_form (feed_of kept).form) found (Err UnknownForm) refl s.1 in
        let r = read-on 0 (reading_kept (feed_of kept)) (post_answer register staging x.book x.table x.counts (feed_of kept)) k.1 in
        let d = second-of (any_denied register sender sent) (Err (Owner 0)) (on (falls_short staging (feed_of kept)) (Err StagingShort) (room_for sent x.book x.table x.counts)) refl r.1 in
        let f = second-of (falls_short staging (feed_of kept)) (Err StagingShort) (room_for sent x.book x.table x.counts) refl d.1 in
        let b = first_of fits (on holds (Ok (number_for sent x.counts.used x.book)) (Err TableShort)) (Err BookShort) refl f.1 in
        let t = first_of holds (Ok (number_for sent x.counts.used x.book)) (Err TableShort) refl b.1 in
        record { sound = s.0; known = k.0; rows = r.0; granted = d.0; all = f.0; in-book = b.0; in_table = t.0 }

    -- and it is accepted with its number
    answer-is : end_answer register staging x.book x.table x.counts kept ≡ Ok (number_for sent x.counts.used x.book)
    unfolding end_answer post_answer room_for
    answer-is = let w = went in rw (w.sound, w.known, w.rows.1, w.granted, w.all, w.in-book, w.in_table) refl

    in-range : all_in_range sent ≡ true
    unfolding end_sound
    in-range =
        let a = and-pass (message_sound register x.book x.table x.counts) (is_begun kept && (leb (feed_of kept).lines.rows most_rows && all_in_range sent)) went.sound in
        let b = and-pass (is_begun kept) (leb (feed_of kept).lines.rows most_rows && all_in_range sent) a.1 in
        (and-pass (leb (feed_of kept).lines.rows most_rows) (all_in_range sent) b.1).1

    pub takable : Takable sent sender x
    takable =
        record {
          updates = each_both IsBody (λ (u : List ℕ). update_in_range u ≡ true) sent (staged-wide staging (feed_of kept)) (each-in-range sent in-range);
          from = granted-from register sender sent went.granted;
          in-book = leb-true _ _ went.in-book;
          in_table = leb-true _ _ went.in_table;
        }

    pub day-after : takes sent sender x ≡ after call x
    unfolding end_leaves taken_by
    day-after = rw e

    deed-is : taken_deed sent sender x ≡ deed_of call (reply_to call x)
    deed-is = rw answer-is

    pub end-deed : after call x ≡ done (deed_of call (reply_to call x)) x
    end-deed = sym day-after ∙ taken-deed sent sender x ∙ ap (λ (a : Deed). done a x) deed-is

    pub end-holds : (plan : List (List ℕ)) (lent : List ℕ) (log : List Taken) → book_sound x.counts.used x.book ≡ true → Holds plan lent x log
        → Holds plan lent (after call x) (noted (deed_of call (reply_to call x)) log)
    end-holds plan lent log sound f = subst₂ (Holds plan lent) day-after (ap (λ (a : Deed). noted a log) deed-is) (taken-holds sent sender x takable plan lent log sound f)
