-- `end_read` meets its contract. Assumes nothing.
use mathlib.Core.Path.{sym, ap, ◌∙◌}
use Rattle.calls.specs.inner.Steps.{passed_of}
use Rattle.calls.proofs.LeavesLaws.{passed_on}
use Rattle.feeds_end.proofs.EndLaws.{found, posted}
use Rattle.feeds_end.proofs.end_read.Goals as goal

pub post-requires : goal.post-requires
post-requires c = record { counts_value = c.requires.counts_value; staged_le_most_rows = c.requires.staged_le_most_rows }

pub returns-in-Ok : goal.returns-in-Ok
returns-in-Ok c =
    let a = c.args in
    posted a.register.now a.staging.now a.book.now a.table.now a.counts a.feed _ (passed_on 0 _ _ (sym (c.passed.ensures ∙ ap (passed_of 0) c.reading_kept.ensures) ∙ c.in-Ok.is)) _ c.post.ensures

pub returns-in-Err : goal.returns-in-Err
returns-in-Err c =
    let a = c.args in
    found a.register.now a.staging.now a.book.now a.table.now a.counts a.feed _ (sym (c.passed.ensures ∙ ap (passed_of 0) c.reading_kept.ensures) ∙ c.in-Err.is) c.unchanged.result c.unchanged.ensures
