-- `rows_in_range` meets its contract. Assumes nothing.
use mathlib.Core.Path.{sym, ◌∙◌}
use Rattle.lists.specs.Rows.{rows_of}
use Rattle.passage.specs.Layout.{body_wide}
use Rattle.feeds_end.proofs.RowsLaws.{range_none}
use Rattle.feeds_end.proofs.rows_in_range.Goals as goal

pub updates_in_range-requires : goal.updates_in_range-requires
updates_in_range-requires c = record { body_wide_in_bounds = c.requires; staging_value = sym c.all_common.ensures ∙ c.if-all_common.true }

pub returns : goal.returns
returns c =
    let a = c.args in
    range_none (rows_of body_wide a.count a.staging.now) (sym c.all_common.ensures ∙ c.if-all_common.false)
