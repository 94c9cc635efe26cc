use native.Mathlib.Omega.{arith}
use Rattle.syntax.proofs.EndLaws.{slash-ends, slash-letter, slash-other, null-inside}
use Rattle.syntax.proofs.escape_end.Goals as goal

pub returns-then-dossier-a : goal.returns-then-dossier-a
returns-then-dossier-a c = record { ahead = omega arith; leads = λ k. slash-ends c.args.dossier.now c.args.j c.requires.0 c.requires.1 c.args.fresh k c.if-dossier-a.true }

pub null_end-requires : goal.null_end-requires
null_end-requires c = (omega arith, c.requires.1, c.in-48.is)

pub returns-then-fresh : goal.returns-then-fresh
returns-then-fresh c = record { ahead = c.null_end.ensures.ahead; leads = λ k. rw c.if-fresh.true (c.null_end.ensures.leads k) }

pub returns-in-105 : goal.returns-in-105
returns-in-105 c = record { ahead = (omega arith, omega arith); leads = λ k. slash-letter c.args.dossier.now c.args.j c.requires.0 c.requires.1 c.args.fresh k (omega arith) c.in-105.is }

pub returns-else-fresh : goal.returns-else-fresh
returns-else-fresh c = record { ahead = omega arith; leads = λ k. rw c.if-fresh.false (null-inside c.args.dossier.now c.args.j (omega arith) c.requires.1 c.in-48.is k) }

pub returns-in_default : goal.returns-in_default
returns-in_default c = let r = c.in_default.in_default-own.rest in record { ahead = omega arith; leads = λ k. slash-other c.args.dossier.now c.args.j c.requires.0 c.requires.1 c.args.fresh k (omega arith) r.0.1 r.1 }
