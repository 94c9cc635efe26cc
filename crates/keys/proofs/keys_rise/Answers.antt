use mathlib.Core.Path.{◌≡◌, sym, ◌∙◌}
use Prim.Native.Nat.{◌+◌, ◌-◌}
use native.Mathlib.Omega.{arith}
use Rattle.keys.proofs.RiseLaws.{rise-end, rise-turn}
use Rattle.keys.proofs.keys_rise.Goals as goal

pub returns-then-not-is_below : goal.returns-then-not-is_below
returns-then-not-is_below c =
    let a = c.args in
    let l = c.loop-row in
    sym
    (l.invariant
    ∙ rise-turn a.width a.offset a.count a.bytes.now (l.row - 1) l.row (omega arith) c.loop-row-test.true c.requires.1
    ∙ rw (← c.is_below.ensures, c.if-not-is_below.true))

pub loop-row-preserved : goal.loop-row-preserved
loop-row-preserved c =
    let a = c.args in
    let l = c.loop-row in
    let e : l.row + 1 - 1 ≡ l.row = omega arith in
    rw e
    (l.invariant
    ∙ rise-turn a.width a.offset a.count a.bytes.now (l.row - 1) l.row (omega arith) c.loop-row-test.true c.requires.1
    ∙ rw (← c.is_below.ensures, c.if-not-is_below.false))

pub returns : goal.returns
returns c =
    let a = c.args in
    sym (c.loop-row.invariant ∙ rise-end a.width a.offset a.count a.bytes.now (c.loop-row.row - 1) (omega arith))
