-- `is_sound` meets its contract. Assumes nothing.
use mathlib.Core.Path.{sym, ◌∙◌}
use Rattle.messages.proofs.SoundLaws.{rest-sound, book-unsound, register-unsound}
use Rattle.messages.proofs.is_sound.Goals as goal

pub returns-then-book_is_sound : goal.returns-then-book_is_sound
returns-then-book_is_sound c =
    let a = c.args in
    c.table_is_sound.ensures
    ∙ sym (rest-sound a.register.now a.book.now a.table.now a.counts (sym c.register_is_sound.ensures ∙ c.if-register_is_sound.true) (sym c.book_is_sound.ensures ∙ c.if-book_is_sound.true))

pub returns-then-register_is_sound : goal.returns-then-register_is_sound
returns-then-register_is_sound c =
    let a = c.args in
    sym (book-unsound a.register.now a.book.now a.table.now a.counts (sym c.register_is_sound.ensures ∙ c.if-register_is_sound.true) (sym c.book_is_sound.ensures ∙ c.if-book_is_sound.false))

pub returns : goal.returns
returns c =
    let a = c.args in
    sym (register-unsound a.register.now a.book.now a.table.now a.counts (sym c.register_is_sound.ensures ∙ c.if-register_is_sound.false))
