use Rattle.lists.proofs.ScanLaws.{first-rest}
use Rattle.lists.proofs.scan.find_far.Goals as goal

pub returns : goal.returns
returns g c = first-rest c.clear_blocks-at.result c.clear_blocks-at.ensures.within c.clear_blocks-at.ensures.clear c.first.ensures
