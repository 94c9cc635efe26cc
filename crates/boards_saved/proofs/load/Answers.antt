-- `load` meets its contract. Assumes nothing.
use mathlib.Core.Path.{sym, ◌∙◌}
use Rattle.boards_saved.proofs.SavedLaws.{register-day, book-day, table-day, register-other, book-other, table-other}
use Rattle.boards_saved.proofs.load.Goals as goal

pub returns-in-Day : goal.returns-in-Day
returns-in-Day c = let f = c.args.file.now in let e = sym c.in-Day.is ∙ c.read_day.ensures in record { day = e; pairs = register-day f _ _ _ e _ _ c.put_parts.ensures.pairs; entries = book-day f _ _ _ e _ _ c.put_parts.ensures.entries; passages = table-day f _ _ _ e _ _ c.put_parts.ensures.passages }

pub returns-in-Other : goal.returns-in-Other
returns-in-Other c = let f = c.args.file.now in let e = sym c.in-Other.is ∙ c.read_day.ensures in record { day = e; pairs = register-other f e _; entries = book-other f e _; passages = table-other f e _ }
