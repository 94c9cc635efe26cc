use mathlib.Core.Path.{◌≡◌}
use mathlib.Core.Bool.{◌&&◌, ◌||◌}
use Prim.Native.Nat.{◌+◌, ◌-◌, ◌*◌}
use Rattle.lists.specs.Part.{part}
use Rattle.passage.specs.Layout.{key_wide}
use Rattle.keys.specs.Keys.{cmp}
use Rattle.keys.specs.Sorted.{is_less}
use Rattle.keys.proofs.is_below.Given as goal

-- what is told so far, or else the rest
abbrev pub invariant-loop-word : goal.invariant-loop-word
invariant-loop-word l = l.below || l.equal && is_less (cmp (part (l.here + l.word * 8) (key_wide - l.word * 8) l.left) (part (l.there + l.word * 8) (key_wide - l.word * 8) l.right)) ≡ is_less (cmp (part l.here key_wide l.left) (part l.there key_wide l.right))
