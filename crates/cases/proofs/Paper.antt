-- P1 to P11 hold, each by the case or law of the crate that it is about. Assumes nothing.
use Prim.Native.Nat.{ℕ, ◌≤◌}
use native.Mathlib.Omega.{arith}
use mathlib.Core.Path.{◌≡◌, refl, ap, ◌∙◌}
use mathlib.Core.List.{List, [], ◌∷◌, ◌++◌}
use borrow.Author.Tests.{le-leb}
use lib.ListN.{length}
use Rattle.std.specs.Prelude.{Ok, Err}
use Rattle.lists.specs.Text.{bytes}
use Rattle.lists.proofs.RowLaws.{length-rows_of}
use Rattle.syntax.specs.Machine.{field_step, escape_step, first_escape_step, null_step, return_step, start_step, mark_step, step, accepting, run, fault}
use Rattle.syntax.specs.Cases as Syntax
use Rattle.turbo.specs.Split.{until, past}
use Rattle.turbo_lines.specs.Lines.{lines_from, first_long, mark_of, after_mark}
use Rattle.turbo.specs.Cases as Turbo
use Rattle.field_types.specs.Cases as Fields
use Rattle.passage.specs.Layout.{row_wide}
use Rattle.reader.specs.declared.Fault.TheVariants.{Syntax as SyntaxAt}
use Rattle.reader.specs.Items.{items}
use Rattle.reader.specs.Rules.{first_line, first_column, data_rows, answer_to, reading_of}
use Rattle.keys.specs.Replay.{taken_all}
use Rattle.update.specs.Moves.{may_move, table17}
use Rattle.table.specs.Rules.{table_room}
use Rattle.table.proofs.SoundLaws.{sound-within}
use Rattle.book.proofs.SoundLaws.{sound-facts}
use Rattle.calls.specs.Answers.{numbers}
use Rattle.calls.specs.Message.{message_table, message_rows, rows_taken, message_answer}
use Rattle.calls.proofs.AcceptedLaws.{sound-parts, passes}
use Rattle.cases.proofs.DayLaws.{through-the-calls}
use Rattle.cases.specs.Paper.{P5, P10, P11, All}

p5 : P5
unfolding may_move table17
p5 = (refl, refl)

-- ---- no bytes

nothing_read : (form : ℕ) (register : List ℕ) (sender : ℕ) → reading_of (message_table form) register sender [] ≡ Err (SyntaxAt 0)
unfolding reading_of fault run accepting
nothing_read form register sender = refl

p10 : P10
unfolding message_answer
p10 register book table sender form c s k = rw (s, le-leb form 1 k, nothing_read form register sender)

-- ---- a group line alone

abbrev group : List ℕ
group = bytes "\\G" ++ 13 ∷ 10 ∷ []

group-read : (form : ℕ) (register : List ℕ) (sender : ℕ) → reading_of (message_table form) register sender group ≡ Ok 0
unfolding reading_of fault run accepting step mark_step start_step return_step null_step first_escape_step escape_step field_step answer_to first_line first_column data_rows items lines_from first_long mark_of after_mark until past
group-read form register sender = refl

group-rows : (form : ℕ) → message_rows form group ≡ []
unfolding message_rows data_rows items lines_from first_long mark_of after_mark until past
group-rows form = refl

none-taken : (t : List ℕ) (n : ℕ) → n ≤ table_room t → length (rows_taken [] t n) ≤ table_room t
unfolding taken_all
none-taken t n h = rw (length-rows_of row_wide n t) h

p11 : P11
p11 register book table sender form c s k =
    let parts = sound-parts group register book table sender form c s in
    let used = (sound-facts c.used book parts.1).room in
    let rows = sound-within c.rows table parts.2 in
    ap numbers (
    passes group register book table sender form c record {
      sound = s;
      known = le-leb form 1 k;
      rows = (0, group-read form register sender);
      in-book = rw (group-rows form) (omega arith);
      in_table = rw (group-rows form) (none-taken table c.rows rows);
    }
    )
    ∙ rw (group-rows form)

pub cases : All
cases =
    let (p6, p7, p8, p9, two-rows, relief, cancelled) = through-the-calls in
    (Fields.P1, Fields.P2, Fields.P3, (Turbo.P4, Syntax.P4), p5, p6, p7, p8, p9, two-rows, relief, cancelled, p10, p11)
