use mathlib.Core.Path.{sym, ◌∙◌}
use Rattle.reader_step.proofs.RowStepLaws.{row-wrong, row_before, row-sent, row-refused}
use Rattle.reader_step.proofs.row_step.Goals as goal

pub returns-in-Err : goal.returns-in-Err
returns-in-Err c = let l = row-wrong c.args.table c.args.register.now c.args.sender c.args.state.now c.args.staging.now c.in-Err.is in record { state = c.wrong_field.ensures ∙ l.0; area = l.1 }

pub returns-then-state-ne0 : goal.returns-then-state-ne0
returns-then-state-ne0 c = let l = row_before c.args.table c.args.register.now c.args.sender c.args.state.now c.args.staging.now c.in-Ok.is c.if-state-ne0.true in record { state = c.count_line.ensures ∙ l.0; area = l.1 }

pub returns-then-may_send : goal.returns-then-may_send
returns-then-may_send c = let l = row-sent c.args.table c.args.register.now c.args.sender c.args.state.now c.args.staging.now c.in-Ok.is c.if-state-ne0.false (sym c.may_send.ensures ∙ c.if-may_send.true) in record { state = c.one_more.ensures ∙ l.0; area = c.stage.ensures ∙ l.1 }

pub returns-else-may_send : goal.returns-else-may_send
returns-else-may_send c = let l = row-refused c.args.table c.args.register.now c.args.sender c.args.state.now c.args.staging.now c.in-Ok.is c.if-state-ne0.false (sym c.may_send.ensures ∙ c.if-may_send.false) in record { state = c.wrong_owner.ensures ∙ l.0; area = l.1 }
