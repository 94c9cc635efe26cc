use mathlib.Core.Path.{◌≡◌, sym, ◌∙◌}
use mathlib.Core.Bool.{true, false}
use Prim.Native.Nat.{◌≤◌}
use native.Mathlib.Omega.{arith}
use Rattle.std.proofs.lemmas.Bool.{false≢true}
use Rattle.table.specs.Rules.{rows, table_room, all_in_range}
use Rattle.table.proofs.SoundLaws.{sound-over, sound-room, room-holds, rows-rise, range_none}
use Rattle.table.proofs.table_is_sound.Goals.{then-all_common, else-all_common}
use Rattle.table.proofs.table_is_sound.Goals as goal

pub returns-then-rows_room-count : goal.returns-then-rows_room-count
returns-then-rows_room-count c = sound-over c.args.count c.args.table.now (rw (← c.rows_room.ensures) c.if-rows_room-count.true)

pub all_common-requires : goal.all_common-requires
all_common-requires c =
    let within : c.args.count ≤ table_room c.args.table.now = rw (← c.rows_room.ensures) c.if-rows_room-count.false in
    let h = room-holds c.args.count c.args.table.now within in
    (omega arith, omega arith)

pub all_in_range-requires : goal.all_in_range-requires
all_in_range-requires c =
    let s = c.args in
    let within : s.count ≤ table_room s.table.now = rw (← c.rows_room.ensures) c.if-rows_room-count.false in
    record { row_wide_in_bounds = room-holds s.count s.table.now within; table_value = sym c.all_common.ensures ∙ c.if-all_common.true }

pub keys_rise-requires : goal.keys_rise-requires
keys_rise-requires c =
    let s = c.args in
    let within : s.count ≤ table_room s.table.now = rw (← c.rows_room.ensures) c.if-rows_room-count.false in
    (room-holds s.count s.table.now within, omega arith)

pub returns-then-all_in_range : goal.returns-then-all_in_range
returns-then-all_in_range c =
    let s = c.args in
    let within : s.count ≤ table_room s.table.now = rw (← c.rows_room.ensures) c.if-rows_room-count.false in
    let good : all_in_range (rows s.count s.table.now) ≡ true =
    elim c.if-all_common.branch [ then-all_common w ↦ sym w.all_in_range.ensures ∙ sym w.value-is ∙ c.if-all_in_range.true | else-all_common w ↦ absurd (false≢true (sym w.if-all_common.false ∙ sym w.value-is ∙ c.if-all_in_range.true)) ] in
    c.keys_rise.ensures ∙ rows-rise (rows s.count s.table.now) ∙ sym (sym (sound-room s.count s.table.now within) ∙ rw good)

pub returns-else-all_in_range : goal.returns-else-all_in_range
returns-else-all_in_range c =
    let s = c.args in
    let within : s.count ≤ table_room s.table.now = rw (← c.rows_room.ensures) c.if-rows_room-count.false in
    let bad : all_in_range (rows s.count s.table.now) ≡ false =
    elim c.if-all_common.branch [ then-all_common w ↦ sym w.all_in_range.ensures ∙ sym w.value-is ∙ c.if-all_in_range.false | else-all_common w ↦ range_none (rows s.count s.table.now) (sym c.all_common.ensures ∙ w.if-all_common.false) ] in
    c.if-all_in_range.false ∙ sym (sym (sound-room s.count s.table.now within) ∙ rw bad)
