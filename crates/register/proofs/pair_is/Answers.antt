use mathlib.Core.Path.{◌≡◌, ◌∙◌, sym, ap}
use mathlib.Core.List.{List}
use Prim.Native.Nat.{ℕ}
use native.Mathlib.Omega.{arith}
use borrow.Author.Tests.{ne_eqb}
use Rattle.lists.specs.Text.{same}
use Rattle.lists.proofs.PartLaws.{tail_all}
use Rattle.register.proofs.RegisterLaws.{pair-other, pair_same}
use Rattle.register.proofs.pair_is.Goals as goal

pub returns-then-pair-sender : goal.returns-then-pair-sender
returns-then-pair-sender c =
    let a = c.args in
    c.same_bytes.ensures
    ∙ ap (λ (t : List ℕ). same t a.owner.now) (tail_all 1 a.pair.now)
    ∙ sym (pair_same a.pair.now a.sender a.owner.now (omega arith) c.if-pair-sender.true)

pub returns-else-pair-sender : goal.returns-else-pair-sender
returns-else-pair-sender c =
    let a = c.args in
    rw (ne_eqb _ _ c.if-pair-sender.false) (sym (pair-other a.pair.now a.sender a.owner.now (omega arith) c.if-pair-sender.false))
