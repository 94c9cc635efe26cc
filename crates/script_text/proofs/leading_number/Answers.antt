-- `leading_number` meets its contract. Assumes nothing.
use Prim.Native.Nat.{ℕ, ◌+◌, ◌<◌, ◌≤◌}
use native.Mathlib.Omega.{arith}
use mathlib.Core.Path.{◌≡◌, refl, sym, ◌∙◌}
use mathlib.Core.Bool.{true, false}
use lib.ListN.{length, get_or}
use Rattle.lists.specs.Logic.{within}
use Rattle.lists.proofs.LogicLaws.{within-true}
use Rattle.lists.proofs.RangeLaws.{range-within}
use Rattle.script_text.proofs.TextLaws.{leading-stop, leading-on, leading_end}
use Rattle.script_text.proofs.leading_number.Goals as goal

pub with_digit-number-requires : goal.with_digit-number-requires
with_digit-number-requires c =
    let w = c.contains.ensures.value ∙ range-within c.new.result 48 57 _ c.new.ensures.start c.new.ensures.end c.new.ensures.exhausted in
    within-true 48 57 _ (sym w ∙ c.if-contains.true)

pub loop-b-preserved : goal.loop-b-preserved
loop-b-preserved c =
    let l = c.loop-b in
    let w = c.contains.ensures.value ∙ range-within c.new.result 48 57 _ c.new.ensures.start c.new.ensures.end c.new.ensures.exhausted in
    sym (leading-on l.number _ c.args.text.now l.b-index (omega arith) (sym w ∙ c.if-contains.true) c.with_digit-number.ensures) ∙ l.invariant

pub returns-else-contains : goal.returns-else-contains
returns-else-contains c =
    let l = c.loop-b in
    let w = c.contains.ensures.value ∙ range-within c.new.result 48 57 _ c.new.ensures.start c.new.ensures.end c.new.ensures.exhausted in
    sym (leading-stop l.number c.args.text.now l.b-index (omega arith) (sym w ∙ c.if-contains.false)) ∙ l.invariant

pub returns : goal.returns
returns c = let l = c.loop-b in sym (leading_end l.number c.args.text.now l.b-index (omega arith)) ∙ l.invariant
