-- `run_of` meets its contract. Assumes nothing.
use borrow.Author.Rules.{rules}
use Rattle.script_text.proofs.TextLaws.{run-first}
use Rattle.script_text.proofs.run_of.Goals as goal

pub returns-clause-is : goal.returns-clause-is
returns-clause-is c = run-first c.args.blank c.args.s.now c.find_near.ensures (λ b p. search rules) (λ b p. search rules)
