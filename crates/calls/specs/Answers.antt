-- Document 01's numbers for each answer. Assumes nothing.
use Rattle.std.specs.Prelude.{ℕ, Bool, Result, Ok, Err, is_ok}
use Rattle.reader.specs.declared.Fault.{Fault}
use Rattle.reader.specs.declared.Fault.TheVariants as Faults
use Rattle.reader.specs.Rules.{Reading}
use Rattle.calls.specs.declared.Refusal.{Refusal}
use Rattle.calls.specs.declared.Refusal.TheVariants.{Unsound, TooLong, Syntax, Long, Form, Field, Owner, StagingShort, BookShort, TableShort, KeyTwice, NoMessage, AlreadyWithdrawn, OtherSender, UnknownForm}

-- what a call answers: a number, or why it is refused
abbrev pub Answer : Type 0
Answer = Result ℕ Refusal

-- the number, two values besides, and which dossier; 0 where there is none
abbrev pub numbers : Answer → ℕ × ℕ × ℕ × ℕ
numbers (Ok n) = (0, n, 0, 0)
numbers (Err Unsound) = (1, 0, 0, 0)
numbers (Err (TooLong w)) = (2, 0, 0, w)
numbers (Err (Syntax i w)) = (3, i, 0, w)
numbers (Err (Long l w)) = (15, l, 0, w)
numbers (Err (Form l w)) = (4, l, 0, w)
numbers (Err (Field l c w)) = (5, l, c, w)
numbers (Err (Owner l)) = (6, l, 0, 0)
numbers (Err StagingShort) = (14, 0, 0, 0)
numbers (Err BookShort) = (7, 0, 0, 0)
numbers (Err TableShort) = (8, 0, 0, 0)
numbers (Err KeyTwice) = (9, 0, 0, 0)
numbers (Err NoMessage) = (10, 0, 0, 0)
numbers (Err AlreadyWithdrawn) = (11, 0, 0, 0)
numbers (Err OtherSender) = (12, 0, 0, 0)
numbers (Err UnknownForm) = (18, 0, 0, 0)

abbrev pub is_accepted : Answer → Bool
is_accepted a = is_ok a

-- a dossier's fault 2 to 6 or 15 as the call's refusal; w says which dossier
abbrev pub refusal_of : ℕ → Fault → Refusal
refusal_of w Faults.TooLong = TooLong w
refusal_of w (Faults.Syntax i) = Syntax i w
refusal_of w (Faults.Long l) = Long l w
refusal_of w (Faults.Form l) = Form l w
refusal_of w (Faults.Field l c) = Field l c w
refusal_of w (Faults.Owner l) = Owner l

-- that refusal, or what comes next
abbrev pub unless_refused : ℕ → Reading → Answer → Answer
unless_refused w (Err f) next = Err (refusal_of w f)
unless_refused w (Ok n) next = next
