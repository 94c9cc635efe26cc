-- Whether a board is shown follows from the table and the question. Nothing is lent to write. Assumes nothing.
use mathlib.Core.Path.{sym, ◌∙◌}
use Rattle.lists.proofs.Promise.{OneResult}
use Rattle.boards_departures.proofs.ask.Kinds as ask
use Rattle.boards_departures.proofs.ask.Reads as ask-reads

pub ask-determined : OneResult 2 ask.ps ask.r ask-reads.Post
ask-determined κs a x y s t p q = p ∙ sym q
