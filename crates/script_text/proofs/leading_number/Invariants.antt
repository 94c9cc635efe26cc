use mathlib.Core.Path.{◌≡◌}
use lib.ListN.{drop}
use Rattle.script_text.specs.Rules.{leading_from}
use Rattle.script_text.proofs.leading_number.Given as goal

abbrev pub invariant-loop-b : goal.invariant-loop-b
invariant-loop-b l = leading_from l.number (drop l.b-index l.text) ≡ leading_from 0 l.text
