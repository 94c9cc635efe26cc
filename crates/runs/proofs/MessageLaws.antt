-- A message that is accepted takes its rows. Assumes nothing.
use mathlib.Core.Path.{◌≡◌, sym, ap, ◌∙◌, subst₂}
use mathlib.Core.Bool.{true}
use mathlib.Core.List.{List}
use Prim.Native.Nat.{ℕ, zero, suc, ◌≤◌, ◌<◌}
use native.Mathlib.Omega.{arith}
use lib.ListN.{length}
use Rattle.std.specs.Prelude.{Ok}
use Rattle.lists.specs.Each.{Each}
use Rattle.passage.specs.Ranges.{update_in_range}
use Rattle.columns.specs.Tables.{form_of}
use Rattle.reader.specs.Rules.{reading_of, items_of}
use Rattle.reader.proofs.RangeLaws.{rows-in-range}
use Rattle.reader.proofs.AnswerLaws.{rows-counted, accepted-each, desk-nothing}
use Rattle.keys.proofs.ReplayLaws.{each_both}
use Rattle.book.specs.Rules.{book_sound}
use Rattle.calls.specs.Answers.{is_accepted}
use Rattle.calls.specs.Message.{message_table, message_rows, message_answer, taken_by, message_leaves}
use Rattle.calls.proofs.AcceptedLaws.{Passed, passed, passes}
use Rattle.calls.proofs.TakenLaws.{IsBody, message-wide}
use Rattle.calls.specs.Leaves.{Day}
use Rattle.runs.specs.Runs.{Call, reply_to, after, Taken, Deed, deed_of, done, noted}
use Rattle.runs.proofs.LogLaws.{Update}
use Rattle.runs.proofs.FollowLaws.{Holds}
use Rattle.runs.proofs.TakeLaws.{takes, Takable, taken_deed, taken-deed, taken-holds}

abbrev InRange : List ℕ → Type 0
InRange u = update_in_range u ≡ true

-- the desk sends no row
from-sender : (form : ℕ) (register d : List ℕ) (sender n : ℕ) → reading_of (message_table form) register sender d ≡ Ok n → 0 < length (message_rows form d) → 1 ≤ sender
unfolding message_rows
from-sender form register d zero n r h =
    let z = desk-nothing (form_of form) register d n r in
    let c = rows-counted (message_table form) register 0 d n r in
    omega arith
from-sender form register d (suc s) n r h = omega arith

module _ (d : List ℕ) (sender form : ℕ) (register : List ℕ) (x : Day) where
  abbrev call : Call
  call = Call.message d sender form register

  abbrev pub sent : List (List ℕ)
  sent = message_rows form d

  module _ (e : is_accepted (message_answer d sender form register x.book x.table x.counts) ≡ true) where
    went : Passed d register x.book x.table sender form x.counts
    went = passed d register x.book x.table sender form x.counts e

    sent-updates : Each Update sent
    unfolding message_rows
    sent-updates =
        let r = went.rows in
        each_both IsBody InRange sent (message-wide form register sender d r.0 r.1) (accepted-each (message_table form) register sender d InRange (rows-in-range (form_of form) register sender (items_of (message_table form) d)) r.0 r.1)

    pub takable : Takable sent sender x
    takable = record { updates = sent-updates; from = from-sender form register d sender went.rows.0 went.rows.1; in-book = went.in-book; in_table = went.in_table }

    pub day-after : takes sent sender x ≡ after call x
    unfolding message_leaves taken_by
    day-after = rw e

    deed-is : taken_deed sent sender x ≡ deed_of call (reply_to call x)
    deed-is = rw (passes d register x.book x.table sender form x.counts went)

    pub message-deed : after call x ≡ done (deed_of call (reply_to call x)) x
    message-deed = sym day-after ∙ taken-deed sent sender x ∙ ap (λ (a : Deed). done a x) deed-is

    pub message-holds : (plan : List (List ℕ)) (lent : List ℕ) (log : List Taken) → book_sound x.counts.used x.book ≡ true → Holds plan lent x log
        → Holds plan lent (after call x) (noted (deed_of call (reply_to call x)) log)
    message-holds plan lent log sound f = subst₂ (Holds plan lent) day-after (ap (λ (a : Deed). noted a log) deed-is) (taken-holds sent sender x takable plan lent log sound f)
