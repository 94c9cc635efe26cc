-- The claims of `specs/Claims.antt`. Assumes nothing.
use mathlib.Core.Path.{◌≡◌, refl, sym, ap, ap₂, ◌∙◌, subst, subst₂}
use mathlib.Core.Bool.{Bool, true, false}
use mathlib.Core.List.{List, [], ◌∷◌}
use Prim.Native.Nat.{ℕ, zero, suc, ◌+◌, ◌<◌}
use native.Mathlib.Nat.{zero-add}
use native.Mathlib.Omega.{arith}
use lib.ListN.{length, get_or}
use Rattle.std.specs.Prelude.{Err}
use Rattle.lists.specs.Logic.{on}
use Rattle.keys.specs.Replay.{taken_all}
use Rattle.update.specs.Rule.{row_rule}
use Rattle.table.specs.Rules.{table_sound}
use Rattle.book.specs.Rules.{plan_rows}
use Rattle.calls.specs.Message.{taken_by, message_leaves}
use Rattle.calls.specs.End.{end_leaves}
use Rattle.calls.specs.Withdraw.{without_by, withdraw_leaves}
use Rattle.calls.specs.Open.{opened_by, open_leaves}
use Rattle.calls.specs.Leaves.{Day}
use Rattle.runs.specs.Runs.{Call, Reply, reply_to, is_listed, is_done, after, opened, Taken, Deed, deed_of, done, noted, Begun, begun_by, begun_if, day_after, log_after, begun_after}
use Rattle.runs.specs.Claims.{AfterRuns, Sound, CallsKeepSound, Agrees, CallsKeepAgreeing, TableIsReplay, rows_in, SameStandingSameRows, AsIfNever, SameRowsSameBoards, NumberedInOrder, RefusedChangesNothing, CallsAreDeeds, BoardsChangeNothing, All}
use Rattle.board.specs.declared.Refusal.TheVariants.{OutOfRange, Unsound}
use Rattle.board.specs.Rules.{listed, board_of, board_with, fitted, board_leaves}
use Rattle.board_show.specs.Ask.{Question, asks_in_range}
use Rattle.board_show.specs.Show.{shows}
use Rattle.runs.proofs.LogLaws.{NotedFrom}
use Rattle.runs.proofs.NeverLaws.{same-standing}
use Rattle.runs.proofs.FollowLaws.{Holds, Follows, rows-replayed}
use Rattle.runs.proofs.TakeLaws.{next-is}
use Rattle.runs.proofs.MessageLaws.{message-holds, message-deed}
use Rattle.runs.proofs.EndLaws.{end-holds, end-deed}
use Rattle.runs.proofs.WithdrawLaws.{withdraw-holds}
use Rattle.runs.proofs.OpenLaws.{open-follows}
use Rattle.runs.proofs.SoundLaws.{accepted-sound, accepted-agrees}

-- ---- a refused call

open-refused : (planning calendar : List ℕ) (x : Day) → is_done (reply_to (Call.reopen planning calendar) x) ≡ false → after (Call.reopen planning calendar) x ≡ x
unfolding open_leaves opened_by
open-refused planning calendar x e = rw e

message-refused : (d : List ℕ) (sender form : ℕ) (register : List ℕ) (x : Day) → is_done (reply_to (Call.message d sender form register) x) ≡ false → after (Call.message d sender form register) x ≡ x
unfolding message_leaves taken_by
message-refused d sender form register x e = rw e

end_refused : (register staging kept : List ℕ) (x : Day) → is_done (reply_to (Call.end_feed register staging kept) x) ≡ false → after (Call.end_feed register staging kept) x ≡ x
unfolding end_leaves taken_by
end_refused register staging kept x e = rw e

withdraw-refused : (n sender : ℕ) (x : Day) → is_done (reply_to (Call.withdraw n sender) x) ≡ false → after (Call.withdraw n sender) x ≡ x
unfolding withdraw_leaves without_by
withdraw-refused n sender x e = rw e

refused : RefusedChangesNothing
refused (Call.reopen planning calendar) x e = (open-refused planning calendar x e, rw e)
refused (Call.message d sender form register) x e = (message-refused d sender form register x e, rw e)
refused (Call.end_feed register staging kept) x e = (end_refused register staging kept x e, rw e)
refused (Call.withdraw n sender) x e = (withdraw-refused n sender x e, rw e)
refused (Call.look question places) x e = (refl, rw e)

-- ---- runs

-- a day and its log follow what the day began with
abbrev FollowsFrom : Begun → Day → List Taken → Type 0
FollowsFrom begun x log = Follows begun.plan begun.lent x log

accepted-holds : (call : Call) (x : Day) (begun : Begun) (log : List Taken) → FollowsFrom begun x log → is_done (reply_to call x) ≡ true
    → Holds (begun_if true call x begun).plan (begun_if true call x begun).lent (after call x) (noted (deed_of call (reply_to call x)) log)
accepted-holds (Call.reopen planning calendar) x begun log f e = rw e (open-follows planning calendar x.book x.table x.counts e).holds
accepted-holds (Call.message d sender form register) x begun log f e = message-holds d sender form register x e begun.plan begun.lent log f.agrees.0.0 f.holds
accepted-holds (Call.end_feed register staging kept) x begun log f e = end-holds register staging kept x e begun.plan begun.lent log f.agrees.0.0 f.holds
accepted-holds (Call.withdraw n sender) x begun log f e = withdraw-holds n sender x e begun.plan begun.lent log f.agrees.0.0 f.holds
accepted-holds (Call.look question places) x begun log f e = rw e f.holds

accepted-follows : (call : Call) (x : Day) (begun : Begun) (log : List Taken) → FollowsFrom begun x log → is_done (reply_to call x) ≡ true
    → FollowsFrom (begun_if true call x begun) (after call x) (noted (deed_of call (reply_to call x)) log)
accepted-follows call x begun log f e = record { agrees = accepted-agrees call x f.agrees e; holds = accepted-holds call x begun log f e }

call-follows : (call : Call) (x : Day) (begun : Begun) (log : List Taken) → FollowsFrom begun x log
    → FollowsFrom (begun_if (is_done (reply_to call x)) call x begun) (after call x) (noted (deed_of call (reply_to call x)) log)
call-follows call x begun log f = go (is_done (reply_to call x)) refl
  where
    go : (t : Bool) → is_done (reply_to call x) ≡ t → FollowsFrom (begun_if t call x begun) (after call x) (noted (deed_of call (reply_to call x)) log)
    go true e = accepted-follows call x begun log f e
    go false e = let r = refused call x e in subst₂ (Follows begun.plan begun.lent) (sym r.0) (sym (ap (λ (d : Deed). noted d log) r.1)) f

run-follows : (calls : List Call) (x : Day) (begun : Begun) (log : List Taken) → FollowsFrom begun x log → FollowsFrom (begun_after calls x begun) (day_after calls x) (log_after calls x log)
unfolding day_after log_after begun_after
run-follows [] x begun log f = f
run-follows (call ∷ calls) x begun log f =
    run-follows calls (after call x) (begun_if (is_done (reply_to call x)) call x begun) (noted (deed_of call (reply_to call x)) log) (call-follows call x begun log f)

follows : AfterRuns Follows
follows planning calendar book table c calls e =
    run-follows calls (opened planning calendar book table c) (begun_by planning calendar book) [] (open-follows planning calendar book table c e)

table-replay : TableIsReplay
table-replay planning calendar book table c calls e = rows-replayed _ _ _ _ (follows planning calendar book table c calls e)

same_rows : SameStandingSameRows
same_rows planning calendar book table planning' calendar' book' table' c c' calls calls' e e' p h =
    table-replay planning calendar book table c calls e
    ∙ ap₂ (λ (us plan : List (List ℕ)). taken_all row_rule us (plan_rows plan)) h p
    ∙ sym (table-replay planning' calendar' book' table' c' calls' e')

as-if-never : AsIfNever
as-if-never planning calendar book table planning' calendar' book' table' c c' calls calls' a a' n p h e =
    same_rows planning calendar book table planning' calendar' book' table' c c' calls calls' a a' p
    (same-standing n calls calls' (opened planning calendar book table c) (opened planning' calendar' book' table' c') h e)

-- ---- boards

-- a board of a sound day is one of its rows
board-of-rows : (question : Question) (places : List ℕ) (x : Day) → table_sound x.counts.rows x.table ≡ true
    → board_leaves question x.table x.counts.rows places
    ≡ on (asks_in_range question) (fitted (listed (shows question) (rows_in x)) places) (board_with (Err OutOfRange) places)
unfolding board_leaves board_of
board-of-rows question places x e = rw e

same-boards : SameRowsSameBoards
same-boards planning calendar book table planning' calendar' book' table' c c' calls calls' a a' question places h =
    ap Reply.showed
    (board-of-rows question places (day_after calls (opened planning calendar book table c)) (follows planning calendar book table c calls a).agrees.0.1
    ∙ ap (λ (rs : List (List ℕ)). on (asks_in_range question) (fitted (listed (shows question) rs) places) (board_with (Err OutOfRange) places)) h
    ∙ sym (board-of-rows question places (day_after calls' (opened planning' calendar' book' table' c')) (follows planning' calendar' book' table' c' calls' a').agrees.0.1))

boards-nothing : BoardsChangeNothing
unfolding board_leaves
boards-nothing question places x = (refl, refl, kept (table_sound x.counts.rows x.table) (asks_in_range question))
  where
    kept : (s t : Bool)
        → let board = on s (on t (fitted (board_of question x.table x.counts.rows) places) (board_with (Err OutOfRange) places)) (board_with (Err Unsound) places) in
        is_listed board.answer ≡ false → board.places ≡ places
    kept true true e = absurd (let z : ◌≡◌ {A = ℕ} 0 1 = cc in omega arith)
    kept true false e = refl
    kept false t e = refl

-- ---- numbers

in_order : (n : ℕ) (log : List Taken) → NotedFrom n log → (k : ℕ) (none : Taken) → k < length log → (get_or log k none).number ≡ suc (n + k)
in_order n [] h k none l = absurd (omega arith)
in_order n (m ∷ log) h zero none l = let f = h.0.follows in omega arith
in_order n (m ∷ log) h (suc k) none l = let i = in_order (suc n) log h.1 k none (omega arith) in omega arith

numbered-in-order : NumberedInOrder
numbered-in-order planning calendar book table c calls e k none l =
    in_order 0 (log_after calls (opened planning calendar book table c) []) (follows planning calendar book table c calls e).holds.numbered k none l ∙ ap suc (zero-add k)

calls-keep-sound : CallsKeepSound
calls-keep-sound call x s = go (is_done (reply_to call x)) refl
  where
    go : (t : Bool) → is_done (reply_to call x) ≡ t → Sound (after call x)
    go true e = accepted-sound call x s e
    go false e = subst Sound (sym (refused call x e).0) s

accepted-deed : (call : Call) (x : Day) → is_done (reply_to call x) ≡ true → after call x ≡ done (deed_of call (reply_to call x)) x
unfolding open_leaves opened_by withdraw_leaves without_by
accepted-deed (Call.reopen planning calendar) x e = rw e
accepted-deed (Call.message d sender form register) x e = message-deed d sender form register x e
accepted-deed (Call.end_feed register staging kept) x e = end-deed register staging kept x e
accepted-deed (Call.withdraw n sender) x e = rw e
accepted-deed (Call.look question places) x e = rw e

calls-are-deeds : CallsAreDeeds
calls-are-deeds call x = go (is_done (reply_to call x)) refl
  where
    go : (t : Bool) → is_done (reply_to call x) ≡ t → after call x ≡ done (deed_of call (reply_to call x)) x
    go true e = accepted-deed call x e
    go false e = let r = refused call x e in r.0 ∙ ap (λ (d : Deed). done d x) (sym r.1)

calls-keep-agreeing : CallsKeepAgreeing
calls-keep-agreeing call x a = go (is_done (reply_to call x)) refl
  where
    go : (t : Bool) → is_done (reply_to call x) ≡ t → Agrees (after call x)
    go true e = accepted-agrees call x a e
    go false e = subst Agrees (sym (refused call x e).0) a

pub claims : All
claims = (
  λ planning calendar book table c calls e. let f = (follows planning calendar book table c calls e).holds in (f.book-is, f.used-is),
  λ planning calendar book table c calls e. (follows planning calendar book table c calls e).agrees.0,
  calls-keep-sound,
  calls-keep-agreeing,
  table-replay,
  same_rows,
  as-if-never,
  same-boards,
  numbered-in-order,
  λ planning calendar book table c calls e. next-is _ _ _ _ (follows planning calendar book table c calls e).holds,
  refused,
  calls-are-deeds,
  boards-nothing,
)
