use Rattle.board_show.proofs.AskLaws.{all-bytes}
use Rattle.board_show.proofs.is_text.Goals as goal

pub returns-then-length : goal.returns-then-length
returns-then-length c = rw (c.if-length.true, c.is_printed.ensures, all-bytes c.args.text.now)
