-- `send` meets its contract. Assumes nothing.
use Rattle.std.proofs.Common.{ℕ, List, refl, ap, ◌∙◌}
use Rattle.calls.specs.Message.{message_leaves}
use Rattle.boards_deeds.specs.Deeds.{state}
use Rattle.boards_deeds.proofs.DeedLaws.{left_is}
use Rattle.boards_deeds.proofs.send.Goals as goal

pub returns : goal.returns
returns c = let a = c.args in let o = c.take-o in left_is o.result _ _ _ a.held c.told.result (state a.held a.register.now a.book.now a.table.now) refl c.told.ensures (o.ensures ∙ ap (λ (x : List ℕ). message_leaves a.dossier.now a.sender a.form x a.book.now a.table.now a.held.counts) c.front-pairs.ensures)
