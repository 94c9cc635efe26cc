use native.Mathlib.Omega.{arith}
use Rattle.syntax.proofs.EndLaws.{null-ends, null-good, null-other}
use Rattle.syntax.proofs.null_end.Goals as goal

pub returns-then-dossier-e : goal.returns-then-dossier-e
returns-then-dossier-e c = record { ahead = omega arith; leads = λ k. null-ends c.args.dossier.now c.args.j c.requires.0 c.requires.1 c.requires.2 k c.if-dossier-e.true }

pub returns-in-124 : goal.returns-in-124
returns-in-124 c = record { ahead = (omega arith, omega arith); leads = λ k. null-good c.args.dossier.now c.args.j c.requires.0 c.requires.1 c.requires.2 k c.if-dossier-e.false c.in-124.is }

pub returns-in_default : goal.returns-in_default
returns-in_default c = record { ahead = omega arith; leads = λ k. null-other c.args.dossier.now c.args.j c.requires.0 c.requires.1 c.requires.2 k c.if-dossier-e.false c.in_default.in_default-own.rest.1 }
