use Rattle.feeds.proofs.KeptLaws.{kept-written}
use Rattle.feeds.proofs.keep.Goals as goal

pub returns : goal.returns
returns c =
    let n = c.machine_number-number in
    let m = c.from-place in
    let p = c.keep_places in
    kept-written c.args.feed n.result m.result p.new.kept p.ensures.kept p.ensures.room n.ensures m.ensures
