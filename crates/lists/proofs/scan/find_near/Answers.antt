use Prim.Native.Nat.{ℕ}
use mathlib.Core.Bool.{Bool}
use native.Mathlib.Omega.{arith}
use Rattle.lists.specs.contracts.scan.find_near.F-Fn.{words}
use Rattle.lists.proofs.ScanLaws.{chunk-first, chunk-clear, rest-first}
use Rattle.lists.proofs.scan.find_near.Goals as goal

pub returns-then-k-lt8 : goal.returns-then-k-lt8
returns-then-k-lt8 g c =
    let may : ℕ → Bool → Type 0 = (words g.row.F g.F.Fn).post c.args.test in
    chunk-first may c.args.bytes.now _ _ 8 c.loop-i.i c.as_chunks.ensures.front (omega (arith, c.as_chunks.ensures.front_len)) c.loop-i.invariant c.first-k.result c.if-k-lt8.true c.first-k.ensures

pub loop-i-preserved : goal.loop-i-preserved
loop-i-preserved g c =
    let may : ℕ → Bool → Type 0 = (words g.row.F g.F.Fn).post c.args.test in
    chunk-clear may c.args.bytes.now _ _ 8 c.loop-i.i c.as_chunks.ensures.front (omega (arith, c.as_chunks.ensures.front_len)) c.loop-i.invariant c.first-k.result c.if-k-lt8.false c.first-k.ensures.clear

pub returns : goal.returns
returns g c = rest-first 8 c.as_chunks.ensures.back c.as_chunks.ensures.front_len (omega arith) c.loop-i.invariant c.first.ensures
