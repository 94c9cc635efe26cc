-- `updates_in_range` meets its contract. Assumes nothing.
use mathlib.Core.Path.{◌≡◌, sym, ap, ◌∙◌}
use mathlib.Core.Bool.{true, ◌&&◌}
use Prim.Native.Nat.{◌+◌, ◌*◌}
use native.Mathlib.Omega.{arith}
use borrow.Author.Rules.{rules}
use Rattle.lists.specs.Part.{part}
use Rattle.passage.specs.Layout.{body_wide}
use Rattle.passage.specs.Ranges.{common_in_range}
use Rattle.passage.proofs.CommonLaws.{left, common-start, common-now}
use Rattle.lists.specs.Rows.{rows_of}
use Rattle.calls.specs.End.{all_in_range}
use Rattle.feeds_end.proofs.RowsLaws.{rest, rest-start, range-step, range-end}
use Rattle.passage.specs.inner.Roles.{all_common}
use Rattle.feeds_end.proofs.updates_in_range.Goals as goal

pub loop-i-init : goal.loop-i-init
loop-i-init c =
    let s = c.args in
    (search rules, ap all_in_range (rest-start s.count s.staging.now), sym (common-start body_wide 0 s.count 0 s.staging.now) ∙ c.requires.staging_value)

pub update_in_range-good-requires : goal.update_in_range-good-requires
update_in_range-good-requires c =
    let common : let s = c.args in let i = c.loop-i.i in (common_in_range (part (0 + i * body_wide + 0) body_wide s.staging.now) ≡ true) × (all_common (left body_wide 0 s.count 0 s.staging.now (i + 1)) ≡ true) = let s = c.args in
    common-now body_wide 0 s.count 0 s.staging.now c.loop-i.i c.loop-i-test.true (omega arith) c.loop-i.invariant.2 in
    let i = c.loop-i.i in
    let e : 0 + i * body_wide + 0 ≡ i * body_wide = omega arith in
    record { body_wide_in_bounds = search rules; bytes_value = rw e at common.0 }

pub loop-i-preserved : goal.loop-i-preserved
loop-i-preserved c =
    let common : let s = c.args in let i = c.loop-i.i in (common_in_range (part (0 + i * body_wide + 0) body_wide s.staging.now) ≡ true) × (all_common (left body_wide 0 s.count 0 s.staging.now (i + 1)) ≡ true) = let s = c.args in
    common-now body_wide 0 s.count 0 s.staging.now c.loop-i.i c.loop-i-test.true (omega arith) c.loop-i.invariant.2 in
    let step : let s = c.args in all_in_range (rows_of body_wide s.count s.staging.now) ≡ (c.update_in_range-good.result && all_in_range (rest s.count s.staging.now (c.loop-i.i + 1))) = let s = c.args in
    let i = c.loop-i.i in
    c.loop-i.invariant.1 ∙ range-step s.count s.staging.now i c.loop-i-test.true ∙ rw (← c.update_in_range-good.ensures) in
    (omega arith, step ∙ rw c.if-good.true, common.1)

pub returns-else-good : goal.returns-else-good
returns-else-good c =
    let step : let s = c.args in all_in_range (rows_of body_wide s.count s.staging.now) ≡ (c.update_in_range-good.result && all_in_range (rest s.count s.staging.now (c.loop-i.i + 1))) = let s = c.args in
    let i = c.loop-i.i in
    c.loop-i.invariant.1 ∙ range-step s.count s.staging.now i c.loop-i-test.true ∙ rw (← c.update_in_range-good.ensures) in
    rw (step, c.if-good.false)

pub returns : goal.returns
returns c =
    let s = c.args in
    sym (c.loop-i.invariant.1 ∙ range-end s.count s.staging.now c.loop-i.i c.loop-i-test.false)
