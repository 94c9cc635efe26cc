-- `is_sound` meets its contract. Assumes nothing.
use mathlib.Core.Path.{sym, ◌∙◌}
use Rattle.boards_saved.proofs.SavedLaws.{sound-by, sound-book, sound_none}
use Rattle.boards_saved.proofs.is_sound.Goals as goal

pub returns-then-book_is_sound : goal.returns-then-book_is_sound
returns-then-book_is_sound c = let a = c.args in sound-by a.register.now a.book.now a.used a.table.now a.rows c.table_is_sound.result (sym c.register_is_sound.ensures ∙ c.if-register_is_sound.true) (sym c.book_is_sound.ensures ∙ c.if-book_is_sound.true) c.table_is_sound.ensures

pub returns-then-register_is_sound : goal.returns-then-register_is_sound
returns-then-register_is_sound c = let a = c.args in sound-book a.register.now a.book.now a.used a.table.now a.rows (sym c.register_is_sound.ensures ∙ c.if-register_is_sound.true) (sym c.book_is_sound.ensures ∙ c.if-book_is_sound.false)

pub returns : goal.returns
returns c = let a = c.args in sound_none a.register.now a.book.now a.used a.table.now a.rows (sym c.register_is_sound.ensures ∙ c.if-register_is_sound.false)
