use borrow.Author.Rules.{rules}
use Rattle.passage.proofs.RoleLaws.{role-listed}
use Rattle.passage.proofs.role.Goals as goal

pub returns : goal.returns
returns c =
    rw (c.role_in-4.ensures.is, c.role_in-3.ensures.is, c.role_in-2.ensures.is, c.role_in.ensures.is)
    (role-listed c.args.i (search rules))
