use Rattle.std.proofs.Common.{arith}
use Rattle.lists.proofs.NumberTurnLaws.{rest-start, write-start, rest-turn, write-turn}
use Rattle.lists.proofs.put_number.Goals as goal

pub loop-i-init : goal.loop-i-init
loop-i-init c = let s = c.args in (rest-start s.at s.width s.value s.bytes.now, write-start s.at s.width s.value s.bytes.now)

pub loop-i-preserved : goal.loop-i-preserved
loop-i-preserved c =
    let l = c.loop-i in
    let a = c.args in (
      rest-turn a.at a.width a.value a.bytes.now l.i l.rest (omega arith) (omega arith) l.invariant.0,
      write-turn a.at a.width a.value a.bytes.now l.i l.rest (omega arith) (omega arith) l.invariant.0 l.bytes l.invariant.1,
    )
