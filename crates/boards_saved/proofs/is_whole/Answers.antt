-- `is_whole` meets its contract. Assumes nothing.
use Rattle.boards_saved.proofs.SavedLaws.{whole-none, whole_by}
use Rattle.boards_saved.proofs.is_whole.Goals as goal

pub returns-then-file-end : goal.returns-then-file-end
returns-then-file-end c = let a = c.args in whole-none a.pairs a.used a.rows a.file.now c.end_at-end.result c.end_at-end.ensures c.if-file-end.true

pub returns : goal.returns
returns c = let a = c.args in whole_by a.pairs a.used a.rows a.file.now c.book_at-middle.result c.table_at-last.result c.end_at-end.result c.part.result.now c.part-2.result.now c.part-3.result.now c.is_sound.result c.book_at-middle.ensures c.table_at-last.ensures c.end_at-end.ensures c.if-file-end.false c.part.ensures c.part-2.ensures c.part-3.ensures c.is_sound.ensures
