-- `write_heading` meets its contract. Assumes nothing.
use Rattle.boards_saved.proofs.SavedLaws.{heading-is}
use Rattle.boards_saved.proofs.write_heading.Goals as goal

pub returns : goal.returns
returns c = let a = c.args in heading-is a.pairs a.used a.rows a.heading.now _ _ _ _ c.copy_to.ensures c.put_number.ensures c.put_number-2.ensures c.put_number-3.ensures
