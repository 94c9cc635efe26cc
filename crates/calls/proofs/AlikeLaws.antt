-- The old form is answered as before; a message without the columns in which the forms differ comes to the same in both. Assumes nothing.
use Prim.Native.Nat.{ℕ}
use mathlib.Core.Path.{refl, ap, ◌∙◌}
use mathlib.Core.List.{List}
use Rattle.std.specs.Prelude.{Err}
use Rattle.lists.specs.Logic.{on}
use Rattle.columns.specs.declared.Form.TheVariants.{Old, New}
use Rattle.columns.specs.declared.Table.TheVariants.{Message}
use Rattle.reader.specs.Rules.{Reading, reading_of}
use Rattle.reader.proofs.AlikeLaws.{forms-read-alike}
use Rattle.calls.specs.declared.Refusal.TheVariants.{Unsound}
use Rattle.calls.specs.declared.Counts.{Counts}
use Rattle.calls.specs.Answers.{unless_refused}
use Rattle.calls.specs.Leaves.{Leaves}
use Rattle.calls.specs.Message.{message_sound, message_rows, room_for, message_answer, taken_by, message_leaves}
use Rattle.calls.specs.End.{end_answer}
use Rattle.calls.specs.Claims.{OldFormAnswers, FormsTakenAlike}

pub old-form-answers : OldFormAnswers
unfolding message_answer message_rows end_answer
old-form-answers dossier register staging book table kept sender c = (refl, λ e. rw e refl)

-- what a reading and rows come to
abbrev comes_to : List ℕ → List ℕ → List ℕ → ℕ → Counts → Reading → List (List ℕ) → Leaves
comes_to register book table sender c r rows = taken_by (on (message_sound register book table c) (unless_refused 0 r (room_for rows book table c)) (Err Unsound)) rows sender book table c

pub forms-taken-alike : FormsTakenAlike
unfolding message_leaves message_answer message_rows
forms-taken-alike dossier register book table sender c h =
    let a = forms-read-alike Old New register sender dossier h in
    ap (λ (r : Reading). comes_to register book table sender c r (message_rows 0 dossier)) a.0
    ∙ ap (comes_to register book table sender c (reading_of (Message New) register sender dossier)) a.1
