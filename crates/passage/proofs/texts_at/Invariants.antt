use mathlib.Core.Path.{◌≡◌}
use mathlib.Core.Bool.{◌&&◌}
use Prim.Native.Nat.{◌+◌, ◌≤◌}
use lib.Dec.{eqb}
use lib.ListN.{drop}
use Rattle.lists.specs.Part.{part}
use Rattle.passage.specs.Layout.{body_wide}
use Rattle.passage.specs.inner.Roles.{roles, texts_padded}
use Rattle.passage.proofs.RoleLaws.{clean}
use Rattle.passage.proofs.texts_at.Given as goal

-- what is counted so far and what is left decide together
abbrev pub invariant-loop-i : goal.invariant-loop-i
invariant-loop-i l =
    (l.bad ≤ l.i) × (eqb l.bad 0 && clean (drop l.i roles) (drop (l.at + l.i) l.bytes) ≡ texts_padded (part l.at body_wide l.bytes))
