use mathlib.Core.Path.{sym, ◌∙◌}
use native.Mathlib.Omega.{arith}
use borrow.Author.Rules.{rules}
use Rattle.messages_take.proofs.StepLaws.{held_below, held-count, held-store, new-within, new-count, new-store}
use Rattle.messages_take.proofs.take_found.Goals as goal

pub overflow_mul-i : goal.overflow_mul-i
overflow_mul-i c =
    let a = c.args in
    let i = c.in-Ok.i in
    let e = sym c.requires.found_value ∙ c.in-Ok.is in
    let h = held_below a.table.now a.bodies.now a.count a.from i c.requires.row_wide_in_bounds.0 c.requires.row_wide_in_bounds.1 e in
    search rules

pub apply_row-requires : goal.apply_row-requires
apply_row-requires c =
    let a = c.args in
    let i = c.in-Ok.i in
    let e = sym c.requires.found_value ∙ c.in-Ok.is in
    let h = held_below a.table.now a.bodies.now a.count a.from i c.requires.row_wide_in_bounds.0 c.requires.row_wide_in_bounds.1 e in
    (omega arith, c.requires.row_wide_in_bounds.1)

pub insert_new-requires : goal.insert_new-requires
insert_new-requires c =
    let a = c.args in
    let i = c.in-Err.i in
    let e = sym c.requires.found_value ∙ c.in-Err.is in
    (new-within a.table.now a.bodies.now a.count a.from i c.requires.row_wide_in_bounds.0 c.requires.row_wide_in_bounds.1 e, rw (new-count a.table.now a.bodies.now a.count a.from i c.requires.row_wide_in_bounds.0 c.requires.row_wide_in_bounds.1 e) c.requires.row_wide_in_bounds_2, c.requires.row_wide_in_bounds.1)

pub returns-in-Ok : goal.returns-in-Ok
returns-in-Ok c =
    let a = c.args in
    let i = c.in-Ok.i in
    let e = sym c.requires.found_value ∙ c.in-Ok.is in
    record { value = held-count a.table.now a.bodies.now a.count a.from i c.requires.row_wide_in_bounds.0 c.requires.row_wide_in_bounds.1 e; table_after = held-store a.table.now a.bodies.now a.count a.from i c.requires.row_wide_in_bounds.0 c.requires.row_wide_in_bounds.1 e _ c.apply_row.ensures }

pub returns-in-Err : goal.returns-in-Err
returns-in-Err c =
    let a = c.args in
    let i = c.in-Err.i in
    let e = sym c.requires.found_value ∙ c.in-Err.is in
    record { value = new-count a.table.now a.bodies.now a.count a.from i c.requires.row_wide_in_bounds.0 c.requires.row_wide_in_bounds.1 e; table_after = new-store a.table.now a.bodies.now a.count a.from i c.requires.row_wide_in_bounds.0 c.requires.row_wide_in_bounds.1 e _ c.insert_new.ensures }
