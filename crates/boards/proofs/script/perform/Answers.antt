-- `script::perform` meets its contract. Assumes nothing.
use mathlib.Core.Path.{refl}
use mathlib.Core.Logic.{inl, inr, ⊎_elim}
use Rattle.boards_deeds.specs.Deeds.{state}
use Rattle.boards_deeds.proofs.DeedLaws.{state-is, held-is}
use Rattle.boards.proofs.LeavesLaws.{leaves_by}
use Rattle.boards.proofs.script.perform.Goals as goal

pub returns-in-Nothing : goal.returns-in-Nothing
returns-in-Nothing c = let a = c.args in leaves_by a.order _ a.line.now (state a.held a.register.now a.book.now a.table.now) _ c.in-Nothing.is (refl)

pub returns-in-Open : goal.returns-in-Open
returns-in-Open c = let a = c.args in leaves_by a.order _ a.line.now (state a.held a.register.now a.book.now a.table.now) _ c.in-Open.is (c.«open».ensures a.register.now)

pub returns-in-Register : goal.returns-in-Register
returns-in-Register c = let a = c.args in leaves_by a.order _ a.line.now (state a.held a.register.now a.book.now a.table.now) _ c.in-Register.is (state-is _ _ _ _ _ _ _ _ c.enrol.ensures.state c.enrol.ensures.pairs refl refl)

pub returns-in-Message : goal.returns-in-Message
returns-in-Message c = let a = c.args in leaves_by a.order _ a.line.now (state a.held a.register.now a.book.now a.table.now) _ c.in-Message.is c.send.ensures

pub returns-in-Withdraw : goal.returns-in-Withdraw
returns-in-Withdraw c = let a = c.args in leaves_by a.order _ a.line.now (state a.held a.register.now a.book.now a.table.now) _ c.in-Withdraw.is (c.withdraw.ensures a.register.now)

pub returns-in-Board : goal.returns-in-Board
returns-in-Board c = let a = c.args in leaves_by a.order _ a.line.now (state a.held a.register.now a.book.now a.table.now) _ c.in-Board.is (c.ask.ensures a.register.now a.book.now)

pub returns-in-Messages : goal.returns-in-Messages
returns-in-Messages c = let a = c.args in leaves_by a.order _ a.line.now (state a.held a.register.now a.book.now a.table.now) _ c.in-Messages.is (held-is _ _ _ _ _ c.list_messages.ensures)

pub returns-in-Registered : goal.returns-in-Registered
returns-in-Registered c = let a = c.args in leaves_by a.order _ a.line.now (state a.held a.register.now a.book.now a.table.now) _ c.in-Registered.is (held-is _ _ _ _ _ c.list_pairs.ensures)

pub returns-in-Save : goal.returns-in-Save
returns-in-Save c = let a = c.args in leaves_by a.order _ a.line.now (state a.held a.register.now a.book.now a.table.now) _ c.in-Save.is (⊎_elim (λ e. inl (held-is _ _ _ _ _ e)) (λ e. inr (held-is _ _ _ _ _ e)) c.save.ensures)

pub returns-in-Load : goal.returns-in-Load
returns-in-Load c = let a = c.args in leaves_by a.order _ a.line.now (state a.held a.register.now a.book.now a.table.now) _ c.in-Load.is c.load_day.ensures

pub returns-in-Parts : goal.returns-in-Parts
returns-in-Parts c = let a = c.args in leaves_by a.order _ a.line.now (state a.held a.register.now a.book.now a.table.now) _ c.in-Parts.is c.send-in-Parts.ensures

pub returns-in-Bad : goal.returns-in-Bad
returns-in-Bad c = let a = c.args in leaves_by a.order _ a.line.now (state a.held a.register.now a.book.now a.table.now) _ c.in-Bad.is (held-is _ _ _ _ _ c.bad.ensures)
