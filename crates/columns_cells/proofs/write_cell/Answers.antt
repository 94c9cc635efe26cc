use mathlib.Core.Path.{◌≡◌, ap, ◌∙◌}
use native.Mathlib.Omega.{arith}
use Rattle.lists.specs.Text.{bytes}
use Rattle.turbo_labels.specs.Columns.{field_under}
use Rattle.field_types.specs.Digits as Digits
use Rattle.field_types.specs.Dates as Dates
use Rattle.field_types.specs.Stamps as Stamps
use Rattle.field_types.specs.Names as Names
use Rattle.columns.specs.Cell.{width, number_cell, time_at, cell}
use Rattle.columns_cells.proofs.WriteLaws.{Kept, kept-as}
use Rattle.columns_cells.proofs.KindLaws.{wide-as, kind-as}
use Rattle.columns_cells.proofs.write_cell.Goals as goal

pub write_text-requires : goal.write_text-requires
unfolding width
write_text-requires c = wide-as c.args.at _ c.in-Text.is c.requires

pub write_number-requires : goal.write_number-requires
unfolding width
write_number-requires c =
    (omega arith, wide-as c.args.at _ c.in-Date.is c.requires)

pub write_number-requires-in-Journey : goal.write_number-requires-in-Journey
unfolding width
write_number-requires-in-Journey c =
    (omega arith, wide-as c.args.at _ c.in-Journey.is c.requires)

pub write_number-requires-in-Fortify : goal.write_number-requires-in-Fortify
unfolding width
write_number-requires-in-Fortify c =
    (omega arith, wide-as c.args.at _ c.in-Fortify.is c.requires)

pub write_number-requires-in-Order : goal.write_number-requires-in-Order
unfolding width
write_number-requires-in-Order c =
    (omega arith, wide-as c.args.at _ c.in-Order.is c.requires)

pub write_number-requires-in-Stamp : goal.write_number-requires-in-Stamp
unfolding width
write_number-requires-in-Stamp c =
    (omega arith, wide-as c.args.at _ c.in-Stamp.is c.requires)

pub write_number-requires-in-Status : goal.write_number-requires-in-Status
unfolding width
write_number-requires-in-Status c =
    (omega arith, wide-as c.args.at _ c.in-Status.is c.requires)

pub write_time-requires : goal.write_time-requires
unfolding width
write_time-requires c = wide-as c.args.at _ c.in-Arrival.is c.requires

pub write_time-requires-in-Departure : goal.write_time-requires-in-Departure
unfolding width
write_time-requires-in-Departure c = wide-as c.args.at _ c.in-Departure.is c.requires

pub write_number-requires-in-StopType : goal.write_number-requires-in-StopType
unfolding width
write_number-requires-in-StopType c =
    (omega arith, wide-as c.args.at _ c.in-StopType.is c.requires)

pub write_number-requires-in-Bit : goal.write_number-requires-in-Bit
unfolding width
write_number-requires-in-Bit c =
    (omega arith, wide-as c.args.at _ c.in-Bit.is c.requires)

pub write_number-requires-in-Flexible : goal.write_number-requires-in-Flexible
unfolding width
write_number-requires-in-Flexible c =
    (omega arith, wide-as c.args.at _ c.in-Flexible.is c.requires)

pub write_number-requires-in-Truth : goal.write_number-requires-in-Truth
unfolding width
write_number-requires-in-Truth c =
    (omega arith, wide-as c.args.at _ c.in-Truth.is c.requires)

pub write_number-requires-in-Shown : goal.write_number-requires-in-Shown
unfolding width
write_number-requires-in-Shown c =
    (omega arith, wide-as c.args.at _ c.in-Shown.is c.requires)

pub returns-in-Text : goal.returns-in-Text
unfolding cell
returns-in-Text c =
    let stop = field_under c.args.stop c.args.columns c.args.line.now in
    let kind = kind-as stop c.args.field.now c.in-Text.is in
    let t = kept-as c.args.at c.args.row.now kind (c.write_text.ensures.some, c.write_text.ensures.written) in record { some = t.0; written = t.1 }

pub returns-in-Date : goal.returns-in-Date
unfolding cell
returns-in-Date c =
    let stop = field_under c.args.stop c.args.columns c.args.line.now in
    let read : c.read_date.result ≡ Dates.date c.args.field.now = c.read_date.ensures in
    let kind = kind-as stop c.args.field.now c.in-Date.is in
    let t = kept-as c.args.at c.args.row.now (ap (number_cell 4) read ∙ kind) (c.write_number.ensures.some, c.write_number.ensures.written) in record { some = t.0; written = t.1 }

pub returns-in-Journey : goal.returns-in-Journey
unfolding cell
returns-in-Journey c =
    let stop = field_under c.args.stop c.args.columns c.args.line.now in
    let read : c.read_number.result ≡ Digits.numeral 6 c.args.field.now = c.read_number.ensures in
    let kind = kind-as stop c.args.field.now c.in-Journey.is in
    let t = kept-as c.args.at c.args.row.now (ap (number_cell 4) read ∙ kind) (c.write_number-in-Journey.ensures.some, c.write_number-in-Journey.ensures.written) in record { some = t.0; written = t.1 }

pub returns-in-Fortify : goal.returns-in-Fortify
unfolding cell
returns-in-Fortify c =
    let stop = field_under c.args.stop c.args.columns c.args.line.now in
    let read : c.read_number-in-Fortify.result ≡ Digits.numeral 2 c.args.field.now = c.read_number-in-Fortify.ensures in
    let kind = kind-as stop c.args.field.now c.in-Fortify.is in
    let t = kept-as c.args.at c.args.row.now (ap (number_cell 1) read ∙ kind) (c.write_number-in-Fortify.ensures.some, c.write_number-in-Fortify.ensures.written) in record { some = t.0; written = t.1 }

pub returns-in-Order : goal.returns-in-Order
unfolding cell
returns-in-Order c =
    let stop = field_under c.args.stop c.args.columns c.args.line.now in
    let read : c.read_number-in-Order.result ≡ Digits.numeral 3 c.args.field.now = c.read_number-in-Order.ensures in
    let kind = kind-as stop c.args.field.now c.in-Order.is in
    let t = kept-as c.args.at c.args.row.now (ap (number_cell 2) read ∙ kind) (c.write_number-in-Order.ensures.some, c.write_number-in-Order.ensures.written) in record { some = t.0; written = t.1 }

pub returns-in-Stamp : goal.returns-in-Stamp
unfolding cell
returns-in-Stamp c =
    let stop = field_under c.args.stop c.args.columns c.args.line.now in
    let read : c.read_stamp.result ≡ Stamps.stamp c.args.field.now = c.read_stamp.ensures in
    let kind = kind-as stop c.args.field.now c.in-Stamp.is in
    let t = kept-as c.args.at c.args.row.now (ap (number_cell 4) read ∙ kind) (c.write_number-in-Stamp.ensures.some, c.write_number-in-Stamp.ensures.written) in record { some = t.0; written = t.1 }

pub returns-in-Status : goal.returns-in-Status
unfolding cell
returns-in-Status c =
    let stop = field_under c.args.stop c.args.columns c.args.line.now in
    let read : c.read_status.result ≡ Names.status c.args.field.now = c.read_status.ensures in
    let kind = kind-as stop c.args.field.now c.in-Status.is in
    let t = kept-as c.args.at c.args.row.now (ap (number_cell 1) read ∙ kind) (c.write_number-in-Status.ensures.some, c.write_number-in-Status.ensures.written) in record { some = t.0; written = t.1 }

pub returns-in-Arrival : goal.returns-in-Arrival
unfolding cell
returns-in-Arrival c =
    let stop = field_under c.args.stop c.args.columns c.args.line.now in
    let kind = kind-as stop c.args.field.now c.in-Arrival.is in
    let write = c.write_time in
    let said : Kept c.args.at (time_at (bytes "FIRST") stop c.args.field.now) c.args.row.now write.result write.new.row = (write.ensures.some, write.ensures.written) in
    let t = kept-as c.args.at c.args.row.now kind said in record { some = t.0; written = t.1 }

pub returns-in-Departure : goal.returns-in-Departure
unfolding cell
returns-in-Departure c =
    let stop = field_under c.args.stop c.args.columns c.args.line.now in
    let kind = kind-as stop c.args.field.now c.in-Departure.is in
    let write = c.write_time-in-Departure in
    let said : Kept c.args.at (time_at (bytes "LAST") stop c.args.field.now) c.args.row.now write.result write.new.row = (write.ensures.some, write.ensures.written) in
    let t = kept-as c.args.at c.args.row.now kind said in record { some = t.0; written = t.1 }

pub returns-in-StopType : goal.returns-in-StopType
unfolding cell
returns-in-StopType c =
    let stop = field_under c.args.stop c.args.columns c.args.line.now in
    let read : c.read_stop_type.result ≡ Names.stop_type c.args.field.now = c.read_stop_type.ensures in
    let kind = kind-as stop c.args.field.now c.in-StopType.is in
    let t = kept-as c.args.at c.args.row.now (ap (number_cell 1) read ∙ kind) (c.write_number-in-StopType.ensures.some, c.write_number-in-StopType.ensures.written) in record { some = t.0; written = t.1 }

pub returns-in-Bit : goal.returns-in-Bit
unfolding cell
returns-in-Bit c =
    let stop = field_under c.args.stop c.args.columns c.args.line.now in
    let read : c.read_bit.result ≡ Names.bit c.args.field.now = c.read_bit.ensures in
    let kind = kind-as stop c.args.field.now c.in-Bit.is in
    let t = kept-as c.args.at c.args.row.now (ap (number_cell 1) read ∙ kind) (c.write_number-in-Bit.ensures.some, c.write_number-in-Bit.ensures.written) in record { some = t.0; written = t.1 }

pub returns-in-Flexible : goal.returns-in-Flexible
unfolding cell
returns-in-Flexible c =
    let stop = field_under c.args.stop c.args.columns c.args.line.now in
    let read : c.read_flexible.result ≡ Names.flexible c.args.field.now = c.read_flexible.ensures in
    let kind = kind-as stop c.args.field.now c.in-Flexible.is in
    let t = kept-as c.args.at c.args.row.now (ap (number_cell 1) read ∙ kind) (c.write_number-in-Flexible.ensures.some, c.write_number-in-Flexible.ensures.written) in record { some = t.0; written = t.1 }

pub returns-in-Truth : goal.returns-in-Truth
unfolding cell
returns-in-Truth c =
    let stop = field_under c.args.stop c.args.columns c.args.line.now in
    let read : c.read_truth.result ≡ Names.truth c.args.field.now = c.read_truth.ensures in
    let kind = kind-as stop c.args.field.now c.in-Truth.is in
    let t = kept-as c.args.at c.args.row.now (ap (number_cell 1) read ∙ kind) (c.write_number-in-Truth.ensures.some, c.write_number-in-Truth.ensures.written) in record { some = t.0; written = t.1 }

pub returns-in-Shown : goal.returns-in-Shown
unfolding cell
returns-in-Shown c =
    let stop = field_under c.args.stop c.args.columns c.args.line.now in
    let read : c.read_shown.result ≡ Names.shown c.args.field.now = c.read_shown.ensures in
    let kind = kind-as stop c.args.field.now c.in-Shown.is in
    let t = kept-as c.args.at c.args.row.now (ap (number_cell 1) read ∙ kind) (c.write_number-in-Shown.ensures.some, c.write_number-in-Shown.ensures.written) in record { some = t.0; written = t.1 }
