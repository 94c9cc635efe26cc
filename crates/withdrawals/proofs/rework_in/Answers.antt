use mathlib.Core.Path.{sym, ◌∙◌}
use native.Mathlib.Omega.{arith}
use Rattle.table.proofs.SoundLaws.{sound-most, sound-fits, sound-sorted}
use Rattle.book.proofs.SoundLaws.{sound-facts, used-within}
use Rattle.withdrawals.proofs.RoomLaws.{sound-parts, room-refused, room-taken}
use Rattle.withdrawals.proofs.ReworkLaws.{Worked, names-most, names-few, rows_are, room-short, room-there, rows_fit, rows-stored}
use Rattle.withdrawals.proofs.rework_in.Goals as goal

pub work_out-named-requires : goal.work_out-named-requires
work_out-named-requires c =
    let a = c.args in
    record { book_value = (sound-parts a.book.now a.table.now a.counts c.requires.counts_value).0; entry_wide_bound = (c.requires.message_at.within, c.requires.count_in_bounds.0, c.requires.count_in_bounds.1) }

pub fits_after-requires : goal.fits_after-requires
fits_after-requires c =
    let worked : let a = c.args in Worked a.number a.counts.used a.book.now a.at a.count a.counts.rows a.table.now c.work_out-named.result c.work_out-named.new.slots = let a = c.args in
    let sound = sound-parts a.book.now a.table.now a.counts c.requires.counts_value in
    record {
      sound = sound.0;
      tables = sound.1;
      stands = c.requires.message_at;
      counted = c.work_out-named.ensures.value;
      slots = c.work_out-named.ensures.slots_after;
    } in
    let a = c.args in
    let x = worked in
    let k = names-most x in
    record { row_wide_in_bounds = (sound-fits a.counts.rows a.table.now x.tables, omega arith, sound-most a.counts.rows a.table.now x.tables, names-few x); table_value = sound-sorted a.counts.rows a.table.now x.tables }

pub settle-settled-requires : goal.settle-settled-requires
settle-settled-requires c =
    let worked : let a = c.args in Worked a.number a.counts.used a.book.now a.at a.count a.counts.rows a.table.now c.work_out-named.result c.work_out-named.new.slots = let a = c.args in
    let sound = sound-parts a.book.now a.table.now a.counts c.requires.counts_value in
    record {
      sound = sound.0;
      tables = sound.1;
      stands = c.requires.message_at;
      counted = c.work_out-named.ensures.value;
      slots = c.work_out-named.ensures.slots_after;
    } in
    let a = c.args in
    let x = worked in
    let k = names-most x in
    record { row_wide_in_bounds = (sound-fits a.counts.rows a.table.now x.tables, omega arith, rows_fit x (room-there x (sym c.fits_after.ensures ∙ c.if-fits_after.true))); table_value = sound-sorted a.counts.rows a.table.now x.tables }

pub mark_withdrawn-requires : goal.mark_withdrawn-requires
mark_withdrawn-requires c =
    let a = c.args in
    let sound = sound-parts a.book.now a.table.now a.counts c.requires.counts_value in
    let u = (used-within a.counts.used a.book.now (sound-facts a.counts.used a.book.now sound.0)).0 in
    let w = c.requires.message_at.within in
    omega arith

pub returns-then-fits_after : goal.returns-then-fits_after
returns-then-fits_after c =
    let worked : let a = c.args in Worked a.number a.counts.used a.book.now a.at a.count a.counts.rows a.table.now c.work_out-named.result c.work_out-named.new.slots = let a = c.args in
    let sound = sound-parts a.book.now a.table.now a.counts c.requires.counts_value in
    record {
      sound = sound.0;
      tables = sound.1;
      stands = c.requires.message_at;
      counted = c.work_out-named.ensures.value;
      slots = c.work_out-named.ensures.slots_after;
    } in
    let a = c.args in
    let x = worked in
    room-taken a.number a.book.now a.table.now a.counts _ c.settle-settled.result _ _ (room-there x (sym c.fits_after.ensures ∙ c.if-fits_after.true))
    c.accepted.ensures (rw (rows_are x) at c.settle-settled.ensures.value) (c.mark_withdrawn.ensures ∙ c.requires.message_at.marks) (rows-stored x _ c.settle-settled.ensures.table_after)

pub returns : goal.returns
returns c =
    let worked : let a = c.args in Worked a.number a.counts.used a.book.now a.at a.count a.counts.rows a.table.now c.work_out-named.result c.work_out-named.new.slots = let a = c.args in
    let sound = sound-parts a.book.now a.table.now a.counts c.requires.counts_value in
    record {
      sound = sound.0;
      tables = sound.1;
      stands = c.requires.message_at;
      counted = c.work_out-named.ensures.value;
      slots = c.work_out-named.ensures.slots_after;
    } in
    let a = c.args in
    room-refused a.number a.book.now a.table.now a.counts _ (room-short worked (sym c.fits_after.ensures ∙ c.if-fits_after.false)) c.unchanged.ensures
