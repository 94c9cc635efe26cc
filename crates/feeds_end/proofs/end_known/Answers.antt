-- `end_known` meets its contract. Assumes nothing.
use mathlib.Core.Path.{sym, ◌∙◌}
use Rattle.feeds_end.proofs.EndLaws.{form-known, form-unknown}
use Rattle.feeds_end.proofs.end_known.Goals as goal

pub end_read-requires : goal.end_read-requires
end_read-requires c = record { counts_value = c.requires.counts_value; staged_le_most_rows = c.requires.staged_le_most_rows }

pub returns-then-is_form : goal.returns-then-is_form
returns-then-is_form c =
    let a = c.args in
    form-known a.register.now a.staging.now a.book.now a.table.now a.counts a.feed (sym c.is_form.ensures ∙ c.if-is_form.true) _ c.end_read.ensures

pub returns : goal.returns
returns c =
    let a = c.args in
    form-unknown a.register.now a.staging.now a.book.now a.table.now a.counts a.feed (sym c.is_form.ensures ∙ c.if-is_form.false) c.unchanged.result c.unchanged.ensures
