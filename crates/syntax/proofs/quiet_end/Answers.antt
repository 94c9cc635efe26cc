use native.Mathlib.Omega.{arith}
use borrow.Author.Rules.{rules}
use Rattle.syntax.proofs.QuietLaws.{first-quiet}
use Rattle.syntax.proofs.quiet_end.Goals as goal

pub returns : goal.returns
returns c = omega (arith, first-quiet c.args.dossier.now c.args.i c.find_far-quiet.ensures (λ b p. search rules) (λ b p. search rules))
