use mathlib.Core.Path.{◌≡◌, sym, ◌∙◌}
use Prim.Native.Nat.{ℕ}
use native.Mathlib.Omega.{arith}
use mathlib.Core.List.{List, []}
use lib.ListN.{get_or}
use Rattle.lists.specs.Part.{part}
use Rattle.passage.specs.Layout.{key_of, key_wide}
use Rattle.keys.specs.Keys.{cmp}
use Rattle.keys.proofs.FindLaws.{seek-end, seek-here, seek-up, seek-down}
use Rattle.table.specs.Rules.{rows}
use Rattle.table.proofs.RowKeyLaws.{key-at, seek-rows}
use Rattle.table.proofs.find_near.Goals as goal

pub loop-low-init : goal.loop-low-init
loop-low-init c =
    (omega arith, omega arith, omega arith, seek-rows c.args.count c.args.table.now (part c.args.from key_wide c.args.key.now) c.requires.table_value)

pub loop-low-preserved-in-Less : goal.loop-low-preserved-in-Less
loop-low-preserved-in-Less c =
    let low : ℕ = c.loop-low.low in
    let high : ℕ = c.loop-low.high in
    let look : ℕ = c.probe-look.result in
    let key : List ℕ = part c.args.from key_wide c.args.key.now in
    let compared : cmp (key_of (get_or (rows c.args.count c.args.table.now) look [])) key ≡ c.compare_key-o.result = let s = c.args in
    rw (key-at s.count look s.table.now (omega arith)) (sym c.compare_key-o.ensures) in
    let s = c.args in
    let i = c.loop-low.invariant in
    let e = c.probe-look.ensures in
    (i.0, i.2, omega arith, seek-up (rows s.count s.table.now) key low look high i.3 e.0 e.1 (compared ∙ c.in-Less.is))

pub returns-in-Equal : goal.returns-in-Equal
returns-in-Equal c =
    let low : ℕ = c.loop-low.low in
    let high : ℕ = c.loop-low.high in
    let look : ℕ = c.probe-look.result in
    let key : List ℕ = part c.args.from key_wide c.args.key.now in
    let compared : cmp (key_of (get_or (rows c.args.count c.args.table.now) look [])) key ≡ c.compare_key-o.result = let s = c.args in
    rw (key-at s.count look s.table.now (omega arith)) (sym c.compare_key-o.ensures) in
    let s = c.args in
    let e = c.probe-look.ensures in
    seek-here (rows s.count s.table.now) key low look high c.loop-low.invariant.3 e.0 e.1 (compared ∙ c.in-Equal.is)

pub loop-low-preserved : goal.loop-low-preserved
loop-low-preserved c =
    let low : ℕ = c.loop-low.low in
    let high : ℕ = c.loop-low.high in
    let look : ℕ = c.probe-look.result in
    let key : List ℕ = part c.args.from key_wide c.args.key.now in
    let compared : cmp (key_of (get_or (rows c.args.count c.args.table.now) look [])) key ≡ c.compare_key-o.result = let s = c.args in
    rw (key-at s.count look s.table.now (omega arith)) (sym c.compare_key-o.ensures) in
    let s = c.args in
    let i = c.loop-low.invariant in
    let e = c.probe-look.ensures in
    (omega arith, i.1, i.2, seek-down (rows s.count s.table.now) key low look high i.3 e.0 e.1 (compared ∙ c.in-Greater.is))

pub returns : goal.returns
returns c =
    let s = c.args in
    let l = c.loop-low in
    seek-end (rows s.count s.table.now) (part s.from key_wide s.key.now) l.low l.high l.invariant.3 c.loop-low-test.false
