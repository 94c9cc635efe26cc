-- `any_denied` meets its contract. Assumes nothing.
use mathlib.Core.Path.{◌≡◌, sym, ap, ◌∙◌}
use mathlib.Core.Bool.{not, ◌||◌}
use Prim.Native.Nat.{◌+◌}
use native.Mathlib.Omega.{arith}
use borrow.Author.Rules.{rules}
use Rattle.lists.specs.Rows.{rows_of}
use Rattle.passage.specs.Layout.{body_wide}
use Rattle.calls.specs.End.{any_denied}
use Rattle.feeds_end.proofs.RowsLaws.{rest, rest-start, denied-step, denied-end}
use Rattle.feeds_end.proofs.any_denied.Goals as goal

pub loop-i-init : goal.loop-i-init
loop-i-init c =
    let s = c.args in
    (search rules, ap (any_denied s.register.now s.sender) (rest-start s.count s.staging.now))

pub loop-i-preserved : goal.loop-i-preserved
loop-i-preserved c =
    let step : let s = c.args in any_denied s.register.now s.sender (rows_of body_wide s.count s.staging.now) ≡ (not c.registered.result || any_denied s.register.now s.sender (rest s.count s.staging.now (c.loop-i.i + 1))) = let s = c.args in
    let i = c.loop-i.i in
    c.loop-i.invariant.1
    ∙ denied-step s.count s.staging.now s.register.now s.sender i c.loop-i-test.true
    ∙ rw (← c.registered.ensures) in
    (omega arith, step ∙ rw c.if-registered.true)

pub returns-else-registered : goal.returns-else-registered
returns-else-registered c =
    let step : let s = c.args in any_denied s.register.now s.sender (rows_of body_wide s.count s.staging.now) ≡ (not c.registered.result || any_denied s.register.now s.sender (rest s.count s.staging.now (c.loop-i.i + 1))) = let s = c.args in
    let i = c.loop-i.i in
    c.loop-i.invariant.1
    ∙ denied-step s.count s.staging.now s.register.now s.sender i c.loop-i-test.true
    ∙ rw (← c.registered.ensures) in
    rw (step, c.if-registered.false)

pub returns : goal.returns
returns c =
    let s = c.args in
    sym (c.loop-i.invariant.1 ∙ denied-end s.count s.staging.now s.register.now s.sender c.loop-i.i c.loop-i-test.false)
