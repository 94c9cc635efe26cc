-- `staged_right` meets its contract. Assumes nothing.
use mathlib.Core.Path.{ap, ◌∙◌}
use Rattle.calls.specs.End.{all_in_range}
use Rattle.feeds_end.proofs.EndLaws.{rows-here, right-rows, right-many}
use Rattle.feeds_end.proofs.staged_right.Goals as goal

pub returns-then-rows-le-MOST_ROWS : goal.returns-then-rows-le-MOST_ROWS
returns-then-rows-le-MOST_ROWS c =
    let here = c.staged_here-here in
    let a = c.args in
    right-rows a.staging.now a.feed c.if-rows-le-MOST_ROWS.true _
    (c.rows_in_range.ensures ∙ ap all_in_range (rows-here a.staging.now a.feed here.result here.ensures.is))

pub returns : goal.returns
returns c = let a = c.args in right-many a.staging.now a.feed c.if-rows-le-MOST_ROWS.false
