use native.Mathlib.Omega.{arith}
use borrow.Author.Rules.{rules}
use Rattle.turbo.proofs.SplitLaws.{first-until}
use Rattle.turbo.proofs.find_far.Goals as goal

pub returns-clause-is : goal.returns-clause-is
returns-clause-is c = omega (arith, first-until c.args.byte c.args.bytes.now c.find_far-hit.ensures (λ b p. search rules) (λ b p. search rules))
