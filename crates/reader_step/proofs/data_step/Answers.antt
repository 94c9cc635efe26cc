use mathlib.Core.Path.{sym, ap, ◌∙◌}
use Rattle.reader_step.specs.Step.{row_step, row_staged}
use Rattle.reader_step.proofs.StepLaws.{data-many, data-known, data-read}
use Rattle.reader_step.proofs.data_step.Goals as goal

pub returns-then-count_fields-state : goal.returns-then-count_fields-state
returns-then-count_fields-state c = let l = data-many c.args.table c.args.register.now c.args.sender c.args.state.now c.args.line.now c.args.staging.now (λ e. c.if-count_fields-state.true (c.count_fields.ensures ∙ e)) in record { state = c.form_fault.ensures ∙ l.0; area = l.1 }

pub returns-then-state-ne0 : goal.returns-then-state-ne0
returns-then-state-ne0 c = let l = data-known c.args.table c.args.register.now c.args.sender c.args.state.now c.args.line.now c.args.staging.now (sym c.count_fields.ensures ∙ c.if-count_fields-state.false) c.if-state-ne0.true in record { state = c.count_line.ensures ∙ l.0; area = l.1 }

pub returns : goal.returns
returns c = let r = c.row_step in let e = c.read_row-read.ensures in let l = data-read c.args.table c.args.register.now c.args.sender c.args.state.now c.args.line.now c.args.staging.now (sym c.count_fields.ensures ∙ c.if-count_fields-state.false) c.if-state-ne0.false in record { state = r.ensures.state ∙ ap (row_step c.args.table c.args.register.now c.args.sender c.args.state.now) e ∙ l.0; area = r.ensures.area ∙ ap (λ x. row_staged c.args.table c.args.register.now c.args.sender c.args.state.now x c.args.staging.now) e ∙ l.1 }
