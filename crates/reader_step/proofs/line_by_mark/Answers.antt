use Prim.Native.Nat.{ℕ}
use mathlib.Core.Path.{sym, ap, ◌∙◌}
use mathlib.Core.List.{List}
use Rattle.turbo.specs.Split.{until, fields}
use Rattle.rows.specs.Shape.{shape_of}
use Rattle.reader_step.specs.Place.{is_awaiting, is_under}
use Rattle.reader_step.specs.Step.{moved, label_step, place_named}
use Rattle.reader_step.proofs.StepLaws.{line-group, line-table, line-labels, line-labels-skipped, line-data, line-data-skipped, not-awaiting, not-under}
use Rattle.reader_step.proofs.line_by_mark.Goals as goal

pub returns-in-Awaiting : goal.returns-in-Awaiting
returns-in-Awaiting c = let l = line-labels c.args.table c.args.register.now c.args.sender c.args.state.now c.args.line.now c.args.staging.now (sym c.mark_of.ensures ∙ c.in-Labels.is) (ap is_awaiting c.in-Awaiting.is) in record { state = c.label_step.ensures ∙ ap (label_step c.args.state.now) (c.read_labels-shape.ensures ∙ ap (λ (x : List ℕ). shape_of c.args.table (fields x)) c.after_mark-in-Awaiting.ensures) ∙ l.0; area = l.1 }

pub data_step-requires : goal.data_step-requires
data_step-requires c = (c.requires.0, c.requires.1, c.requires.2 c.in-Under.is)

pub returns-in-Under : goal.returns-in-Under
returns-in-Under c = let l = line-data c.args.table c.args.register.now c.args.sender c.args.state.now c.args.line.now c.args.staging.now (sym c.mark_of.ensures ∙ c.in-Data.is) (ap is_under c.in-Under.is) in let r = c.data_step in record { state = r.ensures.state ∙ l.0; area = r.ensures.area ∙ l.1 }

pub returns-in-Group : goal.returns-in-Group
returns-in-Group c = let l = line-group c.args.table c.args.register.now c.args.sender c.args.state.now c.args.line.now c.args.staging.now (sym c.mark_of.ensures ∙ c.in-Group.is) in record { state = c.moved_to.ensures ∙ l.0; area = l.1 }

pub returns-in-Table : goal.returns-in-Table
returns-in-Table c = let l = line-table c.args.table c.args.register.now c.args.sender c.args.state.now c.args.line.now c.args.staging.now (sym c.mark_of.ensures ∙ c.in-Table.is) in record { state = c.moved_to-in-Table.ensures ∙ ap (moved c.args.state.now) (c.named_place.ensures ∙ ap (place_named c.args.table) (c.first_field-name.ensures ∙ ap (until 124) c.after_mark.ensures)) ∙ l.0; area = l.1 }

pub returns-in-Outside : goal.returns-in-Outside
returns-in-Outside c = let l = line-labels-skipped c.args.table c.args.register.now c.args.sender c.args.state.now c.args.line.now c.args.staging.now (sym c.mark_of.ensures ∙ c.in-Labels.is) (not-awaiting c.args.state.now.place c.in-Outside.is) in record { state = c.moved_to-in-Outside.ensures ∙ l.0; area = l.1 }

pub returns-in_default : goal.returns-in_default
returns-in_default c = let l = line-data-skipped c.args.table c.args.register.now c.args.sender c.args.state.now c.args.line.now c.args.staging.now (sym c.mark_of.ensures ∙ c.in-Data.is) (not-under c.args.state.now.place c.in_default.not-Under) in record { state = c.moved_to-in_default.ensures ∙ l.0; area = l.1 }
