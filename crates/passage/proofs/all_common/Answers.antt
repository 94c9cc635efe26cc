use mathlib.Core.Path.{sym, ◌∙◌}
use Prim.Native.Nat.{◌+◌, ◌*◌, ◌≤◌}
use native.Mathlib.Omega.{arith}
use lib.ListN.{length}
use Rattle.passage.proofs.StepLaws.{row_fits}
use Rattle.passage.proofs.CommonLaws.{first-date, common-start, common-end, common-step, common-date}
use Rattle.passage.proofs.all_common.Goals as goal

pub loop-i-init : goal.loop-i-init
loop-i-init c = let a = c.args in (first-date, common-start a.width a.offset a.count a.at a.bytes.now)

pub common_at-requires : goal.common_at-requires
common_at-requires c =
    let a = c.args in
    let fit : a.at + c.loop-i.i * a.width + a.width ≤ length a.bytes.now = row_fits a.width a.count c.loop-i.i a.at (length a.bytes.now) c.loop-i-test.true c.requires.0 in
    record { body_wide_in_bounds = omega (arith, fit); date_value = (c.get_number-date.ensures, c.loop-i.invariant.0) }

pub loop-i-preserved : goal.loop-i-preserved
loop-i-preserved c =
    let l = c.loop-i in
    let a = c.args in
    let step = common-step a.width a.offset a.count a.at a.bytes.now l.i c.loop-i-test.true c.requires.1 in
    let good = sym c.common_at.ensures ∙ c.if-not-common_at.false in
    (rw c.get_number-date.ensures (common-date (a.at + l.i * a.width + a.offset) a.bytes.now good), l.invariant.1 ∙ step ∙ rw good)

pub returns-then-not-common_at : goal.returns-then-not-common_at
returns-then-not-common_at c =
    let l = c.loop-i in
    let a = c.args in
    let step = common-step a.width a.offset a.count a.at a.bytes.now l.i c.loop-i-test.true c.requires.1 in
    let bad = sym c.common_at.ensures ∙ c.if-not-common_at.true in
    sym (l.invariant.1 ∙ step ∙ rw bad)

pub returns : goal.returns
returns c =
    let a = c.args in
    let l = c.loop-i in
    sym (l.invariant.1 ∙ common-end a.width a.offset a.count a.at a.bytes.now l.i c.loop-i-test.false)
