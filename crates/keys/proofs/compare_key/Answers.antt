use mathlib.Core.Path.{◌≡◌, refl, sym, ◌∙◌}
use Prim.Native.Nat.{ℕ, ◌+◌, ◌*◌}
use native.Mathlib.Omega.{arith}
use Rattle.lists.proofs.EachLaws.{bytes-known}
use Rattle.passage.specs.Layout.{key_wide}
use Rattle.keys.proofs.WordLaws.{words-decide, word_same, last-decides}
use Rattle.keys.proofs.compare_key.Goals as goal

pub returns-then-x-y : goal.returns-then-x-y
returns-then-x-y c =
    let s = c.args in
    c.cmp.ensures
    ∙ words-decide s.left.now s.right.now s.here s.there key_wide (c.loop-word.word * 8) 8 (omega arith) (omega arith) (omega arith)
    (bytes-known s.left.now (λ (i : ℕ). omega (arith, c.type_inv.left i))) (bytes-known s.right.now (λ (i : ℕ). omega (arith, c.type_inv.right i))) _ _ c.word_at-x.ensures c.word_at-y.ensures c.if-x-y.true
    ∙ sym c.loop-word.invariant

pub loop-word-preserved : goal.loop-word-preserved
loop-word-preserved c =
    let s = c.args in
    let e : (c.loop-word.word + 1) * 8 ≡ c.loop-word.word * 8 + 8 = omega arith in
    rw e
    (c.loop-word.invariant
    ∙ word_same s.left.now s.right.now s.here s.there key_wide (c.loop-word.word * 8) 8 (omega arith) (omega arith) (omega arith)
    (bytes-known s.left.now (λ (i : ℕ). omega (arith, c.type_inv.left i))) (bytes-known s.right.now (λ (i : ℕ). omega (arith, c.type_inv.right i))) _ _ c.word_at-x.ensures c.word_at-y.ensures (omega (arith, c.if-x-y.false)) (omega (arith, c.if-x-y.false)))

pub returns : goal.returns
returns c =
    let s = c.args in
    c.cmp-2.ensures
    ∙ last-decides s.left.now s.right.now s.here s.there key_wide (c.loop-word.word * 8) 40 (omega arith) (omega arith) (omega arith) refl
    ∙ sym c.loop-word.invariant
