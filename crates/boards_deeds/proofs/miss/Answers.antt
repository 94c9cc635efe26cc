-- `miss` meets its contract. Assumes nothing.
use Rattle.boards_deeds.proofs.DeedLaws.{missed-is}
use Rattle.boards_deeds.proofs.miss.Goals as goal

pub returns : goal.returns
returns c = missed-is c.args.held c.wrapping_add_u32.result c.wrapping_add_u32.ensures.value
