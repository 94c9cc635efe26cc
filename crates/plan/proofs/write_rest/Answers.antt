use Rattle.plan.proofs.BodyLaws.{rest-written}
use Rattle.plan.proofs.write_rest.Goals as goal

pub returns : goal.returns
returns c =
    let a = c.args in
    rest-written a.at a.pass a.passes.now c.requires.1 a.out.now _ _ _ _
    c.copy_part.ensures
    c.clear.ensures
    c.copy_part-2.ensures
    c.copy_to.ensures
