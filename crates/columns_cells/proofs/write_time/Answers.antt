use mathlib.Core.Path.{◌≡◌, refl, sym, ap, ◌∙◌}
use mathlib.Core.List.{List}
use Prim.Native.Nat.{ℕ}
use native.Mathlib.Omega.{arith}
use Rattle.lists.specs.Text.{same}
use Rattle.lists.specs.BigEndian.{spelled}
use Rattle.turbo_labels.specs.Columns.{field_under}
use Rattle.columns.specs.Cell.{missing_time, time_cell}
use Rattle.columns_cells.proofs.WriteLaws.{kept-none, kept-spelled, time-missing, time-none, time-told}
use Rattle.columns_cells.proofs.write_time.Goals as goal

missing-spelled : spelled 3 16777215 ≡ missing_time
unfolding spelled
missing-spelled = refl

pub returns-then-same_bytes : goal.returns-then-same_bytes
returns-then-same_bytes c =
    let word = c.args.word.now in
    let told : c.same_bytes.result ≡ same c.lookup-here.result.now word = c.same_bytes.ensures in
    let here = ap (λ (l : List ℕ). same l word) (sym c.lookup-here.ensures) ∙ sym told ∙ c.if-same_bytes.true in
    let time = time-missing word (field_under c.args.stop c.args.columns c.args.line.now) c.args.field.now (sym c.is_null.ensures ∙ c.if-is_null.true) here in
    let t = kept-spelled c.args.at c.args.row.now 3 16777215 (missing-spelled ∙ time) (omega arith) c.put_number.ensures in record { some = t.0; written = t.1 }

pub returns-then-is_null : goal.returns-then-is_null
returns-then-is_null c =
    let word = c.args.word.now in
    let told : c.same_bytes.result ≡ same c.lookup-here.result.now word = c.same_bytes.ensures in
    let here = ap (λ (l : List ℕ). same l word) (sym c.lookup-here.ensures) ∙ sym told ∙ c.if-same_bytes.false in
    let t = kept-none c.args.at c.args.row.now
    (time-none word (field_under c.args.stop c.args.columns c.args.line.now) c.args.field.now (sym c.is_null.ensures ∙ c.if-is_null.true) here) in record { some = t.0; written = t.1 }

pub returns-in-Some : goal.returns-in-Some
returns-in-Some c =
    let read = c.read_time in
    let told = sym c.in-Some.is ∙ read.ensures in
    let time = time-told c.args.word.now (field_under c.args.stop c.args.columns c.args.line.now) c.args.field.now (sym c.is_null.ensures ∙ c.if-is_null.false) in
    let t = kept-spelled c.args.at c.args.row.now 3 _ (ap time_cell told ∙ time) (omega arith) c.put_number-in-Some.ensures in record { some = t.0; written = t.1 }

pub returns-in-None : goal.returns-in-None
returns-in-None c =
    let told = sym c.read_time.ensures ∙ c.in-None.is in
    let time = time-told c.args.word.now (field_under c.args.stop c.args.columns c.args.line.now) c.args.field.now (sym c.is_null.ensures ∙ c.if-is_null.false) in
    let t = kept-none c.args.at c.args.row.now (sym time ∙ ap time_cell told) in record { some = t.0; written = t.1 }
