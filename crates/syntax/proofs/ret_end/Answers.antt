use native.Mathlib.Omega.{arith}
use Rattle.syntax.proofs.EndLaws.{loud-faults, ret-ends, ret-other, ret-line}
use Rattle.syntax.proofs.ret_end.Goals as goal

pub returns-then-dossier-j-ne13 : goal.returns-then-dossier-j-ne13
returns-then-dossier-j-ne13 c = record { ahead = omega arith; leads = λ f k. loud-faults _ _ c.requires.0 f k c.requires.1 c.requires.2 c.if-dossier-j-ne13.true }

pub returns-then-dossier-a : goal.returns-then-dossier-a
returns-then-dossier-a c = record { ahead = omega arith; leads = λ f k. ret-ends _ _ c.requires.0 f k c.if-dossier-j-ne13.false c.if-dossier-a.true }

pub returns-then-dossier-a-ne10 : goal.returns-then-dossier-a-ne10
returns-then-dossier-a-ne10 c = record { ahead = omega arith; leads = λ f k. ret-other _ _ c.requires.0 f k c.if-dossier-j-ne13.false (omega arith) c.if-dossier-a-ne10.true }

pub returns : goal.returns
returns c = record { ahead = (omega arith, omega arith); leads = λ f k. ret-line _ _ c.requires.0 f k c.if-dossier-j-ne13.false (omega arith) c.if-dossier-a-ne10.false }
