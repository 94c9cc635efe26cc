use mathlib.Core.Path.{refl, ap, ◌∙◌}
use Prim.Native.Nat.{ℕ}
use native.Mathlib.Omega.{arith}
use lib.ListN.{length-set}
use Rattle.lists.specs.Part.{over}
use Rattle.book_write.proofs.WriteLaws.{marks, marks-start, marks-turn}
use borrow.Author.Rules.{rules}
use Rattle.book_write.proofs.mark_withdrawn.Goals as goal

pub loop-i-init : goal.loop-i-init
loop-i-init c = marks-start _ _

pub loop-i-preserved : goal.loop-i-preserved
loop-i-preserved c =
    let l = c.loop-i in
    let a = c.args in
    marks-turn a.at a.book.now l.i l.book (omega arith) l.invariant

pub returns : goal.returns
returns c =
    let a = c.args in
    c.loop-i.invariant ∙ ap (λ (i : ℕ). over a.at (marks a.at a.book.now i) a.book.now) (omega arith)
