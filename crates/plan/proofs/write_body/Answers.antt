use Rattle.plan.proofs.BodyLaws.{body-written}
use Rattle.plan.proofs.write_body.Goals as goal

pub returns : goal.returns
returns c =
    let a = c.args in
    body-written a.at a.pass a.passes.now c.requires.1 a.out.now a.validity a.validities.now c.requires.2 _ _
    c.write_key.ensures
    c.write_rest.ensures
