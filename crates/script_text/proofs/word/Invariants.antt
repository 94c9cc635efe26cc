use Prim.Native.Nat.{◌-◌}
use mathlib.Core.Path.{◌≡◌}
use Rattle.script_text.specs.Rules.{word_from, word_at}
use Rattle.script_text.proofs.word.Given as goal

abbrev pub invariant-loop-passed : goal.invariant-loop-passed
invariant-loop-passed l = word_from (l.place - l.passed) l.t ≡ word_at l.place l.line
