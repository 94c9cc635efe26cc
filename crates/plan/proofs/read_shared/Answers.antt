use Rattle.plan.proofs.BodyLaws.{shared-written}
use Rattle.plan.proofs.read_shared.Goals as goal

pub returns : goal.returns
returns c =
    let a = c.args in
    shared-written a.pass a.passes.now a.shared.now _ _ c.requires.1 c.requires.0 c.copy_part.ensures c.copy_part-2.ensures
