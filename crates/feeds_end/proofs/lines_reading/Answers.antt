-- `lines_reading` meets its contract. Assumes nothing.
use Rattle.feeds_end.proofs.EndLaws.{lines_long, lines-form, lines-field, lines-owner, lines_rows}
use Rattle.feeds_end.proofs.lines_reading.Goals as goal

pub returns-then-feed-ne0 : goal.returns-then-feed-ne0
returns-then-feed-ne0 c = lines_long c.args.feed c.if-feed-ne0.true

pub returns-then-lines-ne0 : goal.returns-then-lines-ne0
returns-then-lines-ne0 c = lines-form c.args.feed c.if-feed-ne0.false c.if-lines-ne0.true

pub returns-then-lines-ne0-2 : goal.returns-then-lines-ne0-2
returns-then-lines-ne0-2 c = lines-field c.args.feed c.if-feed-ne0.false c.if-lines-ne0.false c.if-lines-ne0-2.true

pub returns-then-lines-ne0-3 : goal.returns-then-lines-ne0-3
returns-then-lines-ne0-3 c =
    lines-owner c.args.feed c.if-feed-ne0.false c.if-lines-ne0.false c.if-lines-ne0-2.false c.if-lines-ne0-3.true

pub returns : goal.returns
returns c =
    lines_rows c.args.feed c.if-feed-ne0.false c.if-lines-ne0.false c.if-lines-ne0-2.false c.if-lines-ne0-3.false
