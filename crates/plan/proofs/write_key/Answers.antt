use Rattle.plan.proofs.BodyLaws.{key-written}
use Rattle.plan.proofs.write_key.Goals as goal

pub returns : goal.returns
returns c =
    let a = c.args in
    key-written a.at a.pass a.passes.now c.requires.1 a.out.now a.validity a.validities.now c.requires.2 _ _ _
    c.copy_part.ensures
    c.copy_part-2.ensures
    c.copy_part-3.ensures
