use mathlib.Core.Path.{◌≡◌}
use Prim.Native.Nat.{◌+◌, ◌-◌, ◌*◌}
use Rattle.lists.specs.Part.{part}
use Rattle.passage.specs.Layout.{key_wide}
use Rattle.keys.specs.Keys.{cmp}
use Rattle.keys.proofs.compare_key.Given as goal

-- what the words before say nothing of
abbrev pub invariant-loop-word : goal.invariant-loop-word
invariant-loop-word l = cmp (part l.here key_wide l.left) (part l.there key_wide l.right) ≡ cmp (part (l.here + l.word * 8) (key_wide - l.word * 8) l.left) (part (l.there + l.word * 8) (key_wide - l.word * 8) l.right)
