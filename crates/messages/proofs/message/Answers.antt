-- `message` meets its contract. Assumes nothing.
use mathlib.Core.Path.{sym, ◌∙◌}
use Rattle.calls.proofs.NumbersLaws.{message-told}
use Rattle.messages.proofs.ReadLaws.{unsound, unknown}
use Rattle.messages.proofs.message.Goals as goal

pub take_sound-requires : goal.take_sound-requires
take_sound-requires c = (sym c.is_sound.ensures ∙ c.if-is_sound.true, sym c.is_form.ensures ∙ c.if-is_form.true)

pub returns-then-is_form : goal.returns-then-is_form
returns-then-is_form c =
    let a = c.args in
    let t = message-told a.dossier.now a.sender a.form a.register.now a.book.now a.table.now a.counts _ _ _ c.take_sound.ensures in record { lent = t.0; numbers = t.1 }

pub returns-then-is_sound : goal.returns-then-is_sound
returns-then-is_sound c =
    let a = c.args in
    let t = message-told a.dossier.now a.sender a.form a.register.now a.book.now a.table.now a.counts _ _ _
    (unknown a.dossier.now a.sender a.form a.register.now a.book.now a.table.now a.counts (sym c.is_sound.ensures ∙ c.if-is_sound.true) (sym c.is_form.ensures ∙ c.if-is_form.false) c.unchanged.result c.unchanged.ensures) in record { lent = t.0; numbers = t.1 }

pub returns : goal.returns
returns c =
    let a = c.args in
    let t = message-told a.dossier.now a.sender a.form a.register.now a.book.now a.table.now a.counts _ _ _
    (unsound a.dossier.now a.sender a.form a.register.now a.book.now a.table.now a.counts (sym c.is_sound.ensures ∙ c.if-is_sound.false) c.unchanged-2.result c.unchanged-2.ensures) in record { lent = t.0; numbers = t.1 }
