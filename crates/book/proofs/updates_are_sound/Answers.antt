use mathlib.Core.Path.{sym, ◌∙◌}
use native.Mathlib.Omega.{arith}
use lib.ListN.{drop}
use Rattle.lists.specs.Rows.{rows_of}
use Rattle.book.specs.Entries.{entry_wide}
use Rattle.book.proofs.ChainLaws.{chain-none}
use Rattle.book.proofs.updates_are_sound.Goals as goal

pub all_common-requires : goal.all_common-requires
all_common-requires c = (omega arith, omega arith)

pub updates_follow-requires : goal.updates_follow-requires
updates_follow-requires c = record { entry_wide_in_bounds = omega arith; book_value = sym c.all_common.ensures ∙ c.if-all_common.true }

pub returns-then-all_common : goal.returns-then-all_common
returns-then-all_common c = c.updates_follow.ensures

pub returns-else-all_common : goal.returns-else-all_common
returns-else-all_common c =
    let a = c.args in
    c.if-all_common.false ∙ sym (chain-none (rows_of entry_wide a.entries (drop a.at a.book.now)) (sym c.all_common.ensures ∙ c.if-all_common.false))
