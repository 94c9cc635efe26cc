use mathlib.Core.Path.{◌≡◌, refl, sym, ap, ◌∙◌}
use mathlib.Core.Bool.{Bool, ◌&&◌, ◌||◌}
use Prim.Native.Nat.{ℕ, ◌+◌, ◌*◌}
use native.Mathlib.Omega.{arith}
use Rattle.lists.proofs.EachLaws.{bytes-known}
use Rattle.passage.specs.Layout.{key_wide}
use Rattle.keys.proofs.WordLaws.{below-turn, last-below}
use Rattle.keys.proofs.is_below.Goals as goal

pub loop-word-preserved : goal.loop-word-preserved
loop-word-preserved c =
    let s = c.args in
    let e : (c.loop-word.word + 1) * 8 ≡ c.loop-word.word * 8 + 8 = omega arith in
    rw e
    (below-turn s.left.now s.right.now s.here s.there key_wide (c.loop-word.word * 8) 8 (omega arith) (omega arith) (omega arith)
    (bytes-known s.left.now (λ (i : ℕ). omega (arith, c.type_inv.left i))) (bytes-known s.right.now (λ (i : ℕ). omega (arith, c.type_inv.right i))) _ _ c.word_at-x.ensures c.word_at-y.ensures c.loop-word.below c.loop-word.equal
    ∙ c.loop-word.invariant)

pub returns : goal.returns
returns c =
    let s = c.args in
    let e = last-below s.left.now s.right.now s.here s.there key_wide (c.loop-word.word * 8) 40 (omega arith) (omega arith) (omega arith) refl in
    ap (λ (t : Bool). c.loop-word.below || c.loop-word.equal && t) (sym e) ∙ c.loop-word.invariant
