-- All that is claimed of an answer's numbers holds: it is what the calls and the board claim. Assumes nothing.
use Prim.Native.Nat.{ℕ}
use mathlib.Core.Path.{◌≡◌, refl}
use mathlib.Core.Bool.{Bool, true, false}
use mathlib.Core.List.{List, [], ◌∷◌}
use Rattle.calls.specs.Answers.{Answer, numbers, is_accepted}
use Rattle.calls.specs.declared.Refusal.TheVariants.{Unsound as Refused}
use Rattle.calls.specs.declared.Counts.{Counts}
use Rattle.calls.specs.Claims.{GivesBack as CallGivesBack, is_one_of}
use Rattle.calls.specs.Leaves.{Leaves, counts_of}
use Rattle.calls.specs.Message.{taken_by, message_leaves}
use Rattle.calls.specs.Withdraw.{without_by, withdraw_leaves}
use Rattle.calls.specs.Open.{opened_by, open_leaves}
use Rattle.calls.specs.End.{end_sound, end_answer, cleared, end_leaves}
use Rattle.calls.proofs.RefusalLaws.{acceptance-is-zero, refusals-give-back, numbers-listed}
use Rattle.calls.proofs.EndLaws.{end-gives-back, end-listed}
use Rattle.feeds.specs.Kept.{is_begun}
use Rattle.feeds.specs.Feed.{fed}
use Rattle.feeds.specs.Feeding.{Feeding, fed_in, feeding, fed_out, feed_leaves}
use Rattle.calls.specs.Message.{message_sound}
use Rattle.std.specs.Prelude.{Err}
use Rattle.lists.proofs.LogicLaws.{and-false}
use Rattle.lists.specs.Logic.{on}
use Rattle.desk_answers.specs.Answered.{outcome_number, answered, told_of}
use Rattle.desk_answers.specs.Claims.{NumbersOfAnswer, FaceGivesBack, OpenGivesBack, MessageGivesBack, WithdrawGivesBack, EndGivesBack, FeedGivesBack, EndedOnce, FaceNumbersListed, FeedNumbersListed, All}
use Rattle.desk_answers.proofs.DossierLaws.{dossier-named}

numbers-of-answer : NumbersOfAnswer
unfolding answered outcome_number
numbers-of-answer o = (refl, refl)

-- ---- refusals

-- a number other than 0 is no acceptance
refused-by : (a : Answer) → ((numbers a).0 ≡ 0 → ⊥) → is_accepted a ≡ false
refused-by a h = go (is_accepted a) (acceptance-is-zero a).0
  where
    go : (b : Bool) → (b ≡ true → (numbers a).0 ≡ 0) → b ≡ false
    go true f = absurd (h (f refl))
    go false f = refl

-- what the calls claim of counts, book and table is what is claimed of an answer's numbers
gives_back : (left : Leaves) (used rows : ℕ) (book table : List ℕ) → CallGivesBack left (counts_of used rows) book table → FaceGivesBack (told_of left) used rows book table
unfolding outcome_number answered
gives_back left used rows book table f h =
    let g = f (refused-by left.outcome.answer h) in
    (rw g.0 refl, rw g.0 refl, g.1, g.2)

open-gives-back : OpenGivesBack
open-gives-back planning calendar book table used rows =
    gives_back _ used rows book table (refusals-give-back planning calendar planning planning book table 0 0 0 (counts_of used rows)).0

message-gives-back : MessageGivesBack
message-gives-back dossier register book table sender form used rows =
    gives_back _ used rows book table (refusals-give-back dossier dossier dossier register book table 0 sender form (counts_of used rows)).1

withdraw-gives-back : WithdrawGivesBack
withdraw-gives-back book table number sender used rows =
    gives_back _ used rows book table (refusals-give-back book book book book book table number sender 0 (counts_of used rows)).2

end_back : EndGivesBack
unfolding outcome_number answered
end_back register staging book table used rows feed h =
    let left = end_leaves register staging book table (counts_of used rows) feed in
    let g = end-gives-back register staging book table (counts_of used rows) feed (refused-by left.outcome.answer h) in
    (rw g.0 refl, rw g.0 refl, g.1, g.2, g.3)

-- of a part, by whether the numbers are those of a begun feed
feed-by : (b : Bool) (x : Feeding) (line staging kept : List ℕ) → x.answer ≡ 0
    → let t = on b x (feeding 1 kept line staging) in
    ((t.answer ≡ 0 → ⊥) → (t.kept ≡ kept) × (t.line ≡ line) × (t.staging ≡ staging)) × (is_one_of (0 ∷ 1 ∷ []) t.answer ≡ true)
feed-by true x line staging kept e = (λ h. absurd (h e), rw e)
feed-by false x line staging kept e = (λ h. (refl, refl, refl), refl)

feed-gives-back : FeedGivesBack
unfolding feed_leaves
feed-gives-back part register staging line feed h = (feed-by (is_begun feed) (fed_out (fed register (fed_in feed line staging) part)) line staging feed refl).0 h

-- zeros are the numbers of no begun feed
cleared-none : is_begun cleared ≡ false
unfolding is_begun
cleared-none = refl

cleared-refused : (register staging book table : List ℕ) (c : Counts) → end_answer register staging book table c cleared ≡ Err Refused
unfolding end_answer end_sound
cleared-refused register staging book table c = rw (cleared-none, and-false (message_sound register book table c))

cleared-fed : (part register staging line : List ℕ) → (feed_leaves part register staging line cleared).answer ≡ 1
unfolding feed_leaves
cleared-fed part register staging line = rw cleared-none

ended-once : EndedOnce
unfolding outcome_number end_leaves taken_by
ended-once register staging book table used rows feed =
    let c = counts_of used rows in (
      λ e. rw ((acceptance-is-zero (end_answer register staging book table c feed)).1 e),
      rw (cleared-refused register staging book table c),
      λ part line. cleared-fed part register staging line,
    )

-- ---- numbers

listed : FaceNumbersListed
unfolding outcome_number open_leaves opened_by message_leaves taken_by withdraw_leaves without_by
listed planning calendar dossier register book table number sender form used rows = numbers-listed planning calendar dossier register book table number sender form (counts_of used rows)

feed-listed : FeedNumbersListed
unfolding outcome_number end_leaves taken_by feed_leaves
feed-listed part register staging line book table used rows feed =
    ((feed-by (is_begun feed) (fed_out (fed register (fed_in feed line staging) part)) line staging feed refl).1, end-listed register staging book table (counts_of used rows) feed)

pub claims : All
claims = (
  numbers-of-answer,
  open-gives-back,
  message-gives-back,
  withdraw-gives-back,
  end_back,
  feed-gives-back,
  ended-once,
  listed,
  feed-listed,
  dossier-named,
)
