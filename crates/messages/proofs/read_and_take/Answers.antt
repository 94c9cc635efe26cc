-- `read_and_take` meets its contract. Assumes nothing.
use native.Mathlib.Omega.{arith}
use mathlib.Core.Path.{◌≡◌, sym, ap, ◌∙◌}
use Rattle.std.specs.Prelude.{Ok}
use Rattle.lists.specs.Rows.{rows_of}
use Rattle.passage.specs.Layout.{body_wide}
use Rattle.columns.specs.declared.Table.{Table}
use Rattle.columns.specs.declared.Table.TheVariants.{Message}
use Rattle.columns.specs.Tables.{form_of}
use Rattle.reader.specs.Rules.{reading_of}
use Rattle.reader.specs.Staging.{staged_by}
use Rattle.reader.proofs.AnswerLaws.{rows_few}
use Rattle.calls.specs.Message.{message_table, message_rows}
use Rattle.calls.specs.inner.Steps.{passed_of}
use Rattle.calls.proofs.AcceptedLaws.{sound-parts}
use Rattle.calls.proofs.LeavesLaws.{passed_on}
use Rattle.messages.proofs.ReadLaws.{staged-bodies, dossier-refused, rows_taken}
use Rattle.messages.proofs.read_and_take.Goals as goal

pub take_rows-requires : goal.take_rows-requires
take_rows-requires c =
    let rows : reading_of (message_table c.args.form) c.args.register.now c.args.sender c.args.dossier.now ≡ Ok c.in-Ok.count = passed_on 0 _ _ (sym (c.passed.ensures ∙ ap (passed_of 0) (c.read_message-reading.ensures.answer ∙ ap (λ (t : Table). reading_of t c.args.register.now c.args.sender c.args.dossier.now) (ap Message c.form_of.ensures))) ∙ c.in-Ok.is) in
    let a = c.args in
    let few = rows_few (form_of a.form) a.register.now a.sender a.dossier.now _ rows in
    let parts = sound-parts a.dossier.now a.register.now a.book.now a.table.now a.sender a.form a.counts c.requires.counts_value.0 in
    let holds = c.requires.holds_rows _ few.1 few.0 in
    record { count_le_most_updates = (few.1, omega arith); book_value = (parts.1, parts.2) }

pub returns-in-Ok : goal.returns-in-Ok
returns-in-Ok c =
    let form : Message c.form_of.result ≡ message_table c.args.form = ap Message c.form_of.ensures in
    let rows : reading_of (message_table c.args.form) c.args.register.now c.args.sender c.args.dossier.now ≡ Ok c.in-Ok.count = passed_on 0 _ _ (sym (c.passed.ensures ∙ ap (passed_of 0) (c.read_message-reading.ensures.answer ∙ ap (λ (t : Table). reading_of t c.args.register.now c.args.sender c.args.dossier.now) (ap Message c.form_of.ensures))) ∙ c.in-Ok.is) in
    let a = c.args in
    let k = c.in-Ok.count in
    let few = rows_few (form_of a.form) a.register.now a.sender a.dossier.now k rows in
    let same : rows_of body_wide k c.read_message-reading.new.staging ≡ message_rows a.form a.dossier.now =
    ap (rows_of body_wide k) (c.read_message-reading.ensures.area ∙ ap (λ (t : Table). staged_by t a.register.now a.sender a.dossier.now a.staging.now) form) ∙ staged-bodies a.form a.register.now a.sender a.dossier.now _ k rows (c.requires.holds_rows k few.1 few.0) in
    rows_taken a.dossier.now a.sender a.form a.register.now a.book.now a.table.now a.counts c.requires.counts_value.0 c.requires.counts_value.1 k rows _ same c.take_rows.result _ _ c.take_rows.ensures

pub returns-in-Err : goal.returns-in-Err
returns-in-Err c =
    let a = c.args in
    dossier-refused a.dossier.now a.sender a.form a.register.now a.book.now a.table.now a.counts c.requires.counts_value.0 c.requires.counts_value.1 _ (sym (c.passed.ensures ∙ ap (passed_of 0) (c.read_message-reading.ensures.answer ∙ ap (λ (t : Table). reading_of t c.args.register.now c.args.sender c.args.dossier.now) (ap Message c.form_of.ensures))) ∙ c.in-Err.is) c.unchanged.result c.unchanged.ensures
