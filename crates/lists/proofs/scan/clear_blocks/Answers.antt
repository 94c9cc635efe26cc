use Prim.Native.Nat.{ℕ}
use mathlib.Core.Bool.{Bool}
use native.Mathlib.Omega.{arith}
use Rattle.lists.specs.contracts.scan.clear_blocks.F-Fn.{words}
use Rattle.lists.proofs.ScanLaws.{chunk-clear}
use Rattle.lists.proofs.scan.clear_blocks.Goals as goal

pub loop-i-preserved : goal.loop-i-preserved
loop-i-preserved g c =
    let may : ℕ → Bool → Type 0 = (words g.row.F g.F.Fn).post c.args.test in
    chunk-clear may c.args.bytes.now _ _ 16 c.loop-i.i c.as_chunks.ensures.front (omega (arith, c.as_chunks.ensures.front_len)) c.loop-i.invariant 16 (omega arith) (c.any_of.ensures c.if-any_of.false)
