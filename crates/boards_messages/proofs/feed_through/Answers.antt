-- `feed_through` meets its contract. Assumes nothing.
use native.Mathlib.Omega.{arith}
use Rattle.boards_messages.proofs.CutLaws.{as-whole}
use Rattle.boards_messages.proofs.feed_through.Goals as goal

pub feed_all-requires : goal.feed_all-requires
feed_all-requires c = c.requires.0

pub returns : goal.returns
returns c =
    let a = c.args in
    let b = c.begin in
    let f = c.feed_all in
    let e = c.end in
    as-whole a.dossier.now a.register.now a.size a.sender a.form a.line.now a.staging.now a.book.now a.table.now a.counts (omega (arith, c.ranges.sender)) (omega (arith, c.ranges.form)) c.requires.0 c.requires.1
    e.result b.new.kept f.new.kept f.new.line f.new.staging e.new.book e.new.table e.new.kept
    b.ensures f.ensures e.ensures.lent
