-- `hold_day` meets its contract. Assumes nothing.
use Rattle.std.proofs.Common.{sym, ap, ◌∙◌}
use Rattle.boards_saved.specs.declared.Saved.{Saved}
use Rattle.boards_deeds.specs.Deeds.{loaded_held}
use Rattle.boards_deeds.proofs.hold_day.Goals as goal

pub returns-in-Day : goal.returns-in-Day
returns-in-Day c = let a = c.args in ap (λ (x : Saved). loaded_held x a.held) (sym c.in-Day.is)

pub returns-in-Other : goal.returns-in-Other
returns-in-Other c = let a = c.args in c.decline.ensures ∙ ap (λ (x : Saved). loaded_held x a.held) (sym c.in-Other.is)
