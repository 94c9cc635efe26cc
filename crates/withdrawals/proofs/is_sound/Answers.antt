use mathlib.Core.Path.{sym, ◌∙◌}
use Rattle.withdrawals.proofs.AnswerLaws.{sound-book, unsound-book}
use Rattle.withdrawals.proofs.is_sound.Goals as goal

pub returns-then-book_is_sound : goal.returns-then-book_is_sound
returns-then-book_is_sound c =
    let a = c.args in
    sound-book a.book.now a.table.now a.counts _ (sym c.book_is_sound.ensures ∙ c.if-book_is_sound.true) c.table_is_sound.ensures

pub returns-else-book_is_sound : goal.returns-else-book_is_sound
returns-else-book_is_sound c =
    let a = c.args in
    c.if-book_is_sound.false ∙ unsound-book a.book.now a.table.now a.counts (sym c.book_is_sound.ensures ∙ c.if-book_is_sound.false)
