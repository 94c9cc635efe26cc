-- `next` meets its contract. Assumes nothing.
use Rattle.boards_deeds.proofs.DeedLaws.{next-is}
use Rattle.boards_deeds.proofs.next.Goals as goal

pub returns : goal.returns
returns c = next-is c.args.held c.wrapping_add_u32.result c.wrapping_add_u32.ensures.value
