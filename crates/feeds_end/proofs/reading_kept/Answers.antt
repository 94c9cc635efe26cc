-- `reading_kept` meets its contract. Assumes nothing.
use mathlib.Core.Path.{sym, ◌∙◌}
use Rattle.feeds_end.proofs.EndLaws.{kept-long, kept-fault, kept-lines, kept-unfinished}
use Rattle.feeds_end.proofs.reading_kept.Goals as goal

pub returns-then-feed-gt65536 : goal.returns-then-feed-gt65536
returns-then-feed-gt65536 c = kept-long c.args.feed c.if-feed-gt65536.true

pub returns-then-feed-ne0 : goal.returns-then-feed-ne0
returns-then-feed-ne0 c = kept-fault c.args.feed c.if-feed-gt65536.false c.if-feed-ne0.true

pub returns-then-may_end : goal.returns-then-may_end
returns-then-may_end c =
    c.lines_reading.ensures
    ∙ kept-lines c.args.feed c.if-feed-gt65536.false c.if-feed-ne0.false (sym c.may_end.ensures ∙ c.if-may_end.true)

pub returns : goal.returns
returns c =
    kept-unfinished c.args.feed c.if-feed-gt65536.false c.if-feed-ne0.false (sym c.may_end.ensures ∙ c.if-may_end.false)
