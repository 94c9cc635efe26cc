use Rattle.board_show.specs.Ask.{asks_in_range}
use Rattle.board_show.proofs.asks_in_range.Goals as goal

pub returns : goal.returns
unfolding asks_in_range
returns c = rw (c.is_date.ensures, c.is_text-2.ensures, c.is_text.ensures)
