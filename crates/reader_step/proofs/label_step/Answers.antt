use Rattle.lists.specs.Logic.{on}
use mathlib.Core.Path.{sym, ap, ◌∙◌}
use mathlib.Core.Bool.{Bool}
use Rattle.reader_step.specs.declared.State.{State}
use Rattle.reader_step.specs.Step.{label_step, misformed, labelled}
use Rattle.reader_step.proofs.label_step.Goals as goal

pub returns-then-shape : goal.returns-then-shape
unfolding label_step
returns-then-shape c = let a = c.args in c.form_fault.ensures ∙ ap (λ (b : Bool). on {A = State} b (misformed a.state.now) (labelled a.state.now a.shape)) (sym c.if-shape.true)

pub returns : goal.returns
unfolding label_step
returns c = let a = c.args in c.under_labels.ensures ∙ ap (λ (b : Bool). on {A = State} b (misformed a.state.now) (labelled a.state.now a.shape)) (sym c.if-shape.false)
