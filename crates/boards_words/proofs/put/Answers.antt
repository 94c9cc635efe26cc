-- `put` is safe, and ends since each turn leaves fewer words. Assumes nothing.
use native.Mathlib.Omega.{arith}
use Rattle.boards_words.proofs.put.Goals as goal

pub loop-rest-init : goal.loop-rest-init
loop-rest-init c = omega arith

pub put_piece-at-requires : goal.put_piece-at-requires
put_piece-at-requires c = tt

pub behind-mark-requires : goal.behind-mark-requires
behind-mark-requires c = tt

pub after-next-requires : goal.after-next-requires
after-next-requires c = tt

pub loop-rest-smaller : goal.loop-rest-smaller
loop-rest-smaller c = omega arith

pub loop-rest-preserved : goal.loop-rest-preserved
loop-rest-preserved c = omega arith

pub returns : goal.returns
returns c = tt
