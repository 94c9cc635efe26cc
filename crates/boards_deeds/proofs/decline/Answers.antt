-- `decline` meets its contract. Assumes nothing.
use Rattle.boards_deeds.proofs.DeedLaws.{declined-is}
use Rattle.boards_deeds.proofs.decline.Goals as goal

pub returns : goal.returns
returns c = declined-is c.args.held c.wrapping_add_u32.result c.wrapping_add_u32.ensures.value
