-- `is_kind` meets its contract. Assumes nothing.
use Rattle.script_text.proofs.TextLaws.{kind-true, kind-false}
use Rattle.script_text.proofs.is_kind.Goals as goal

pub returns-then-blank : goal.returns-then-blank
returns-then-blank c = kind-true _ _ _ c.if-blank.true c.is_blank.ensures

pub returns : goal.returns
returns c = kind-false _ _ _ c.if-blank.false c.is_blank-2.ensures
