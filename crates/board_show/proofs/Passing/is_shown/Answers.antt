use Rattle.board_show.proofs.ShowLaws.{may-be-is}
use Rattle.board_show.proofs.Passing.is_shown.Goals as goal

pub returns : goal.returns
returns c = let p = c.args.self in may-be-is c.args.span.from c.args.span.till p.moment p.status p.show_cancelled p.flexible p.monitored p.fortify p.heard
