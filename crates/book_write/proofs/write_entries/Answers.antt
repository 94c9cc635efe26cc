use mathlib.Core.Path.{refl, ap, ◌∙◌}
use Prim.Native.Nat.{ℕ}
use native.Mathlib.Omega.{arith}
use lib.ListN.{length}
use Rattle.lists.specs.Part.{over}
use Rattle.lists.proofs.OverLaws.{length_over}
use Rattle.book_write.proofs.WriteLaws.{written, written_start, written-turn}
use borrow.Author.Rules.{rules}
use Rattle.book_write.proofs.write_entries.Goals as goal

pub loop-i-init : goal.loop-i-init
loop-i-init c = written_start _ _ _ _

pub loop-i-preserved : goal.loop-i-preserved
loop-i-preserved c =
    let l = c.loop-i in
    let a = c.args in
    written-turn a.number a.sender a.bodies.now l.i a.tail.now l.tail c.write_entry.new.tail (omega arith) c.write_entry.ensures l.invariant

pub returns : goal.returns
returns c =
    let a = c.args in
    c.loop-i.invariant ∙ ap (λ (i : ℕ). over 0 (written a.number a.sender a.bodies.now i) a.tail.now) (omega arith)
