-- The digits that are laid stand at the end of their twenty places; each turn leaves one place fewer. Assumes nothing.
use Prim.Native.Nat.{◌≤◌}
use Rattle.boards_words.proofs.put_number.Given as goal

abbrev pub invariant-loop-first : goal.invariant-loop-first
invariant-loop-first l = l.first ≤ 20

abbrev pub decreases-loop-first : goal.decreases-loop-first
decreases-loop-first l = l.first
