-- `put_parts` meets its contract. Assumes nothing.
use mathlib.Core.Path.{refl}
use Rattle.boards_saved.proofs.SavedLaws.{part-put}
use Rattle.boards_saved.proofs.put_parts.Goals as goal

pub returns : goal.returns
returns c = let a = c.args in let m = c.book_at-middle.ensures in let l = c.table_at-last.ensures in let e = c.end_at-end.ensures in record { pairs = part-put a.file.now _ _ _ 28 _ 28 _ c.append.ensures.bytes c.part.ensures refl m; entries = part-put a.file.now _ _ _ _ _ _ _ c.append-2.ensures.bytes c.part-2.ensures m l; passages = part-put a.file.now _ _ _ _ _ _ _ c.append-3.ensures.bytes c.part-3.ensures l e }
