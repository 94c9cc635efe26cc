-- `word` meets its contract. Assumes nothing.
use Prim.Native.Nat.{ℕ, ◌-◌, ◌+◌, ◌<◌}
use native.Mathlib.Omega.{arith}
use mathlib.Core.Path.{◌≡◌, sym, ap, ◌∙◌}
use Rattle.script_text.specs.Rules.{word_from}
use Rattle.script_text.proofs.TextLaws.{front-is, word-start, word_next, word_end}
use Rattle.script_text.proofs.word.Goals as goal

pub loop-passed-init : goal.loop-passed-init
loop-passed-init c =
    let e : c.args.place - 0 ≡ c.args.place = omega arith in
    ap (λ (k : ℕ). word_from k c.from_word-t.result.now) e ∙ word-start _ _ _ c.from_word-t.ensures

pub loop-passed-preserved : goal.loop-passed-preserved
loop-passed-preserved c =
    let l = c.loop-passed in
    let k = c.args.place - l.passed in
    let e : c.args.place - (l.passed + 1) ≡ c.args.place - l.passed - 1 = omega arith in
    let h : 0 < c.args.place - l.passed = omega arith in
    ap (λ (k : ℕ). word_from k c.next_word-t.result.now) e ∙ word_next (c.args.place - l.passed) l.t.now c.next_word-t.result.now h c.next_word-t.ensures ∙ l.invariant

pub returns : goal.returns
returns c =
    let l = c.loop-passed in
    let z : c.args.place - l.passed ≡ 0 = omega arith in
    sym (front-is c.run_of.result l.t.now) ∙ word_end (c.args.place - l.passed) c.run_of.result l.t.now z c.run_of.ensures.is ∙ l.invariant
