-- P6 to P9 and the dossier of two rows, through the calls on the bytes of the worked day, by computation. Assumes nothing.
use mathlib.Core.Path.{refl}
use Rattle.lists.specs.Text.{same}
use Rattle.lists.specs.Part.{part, onto, over}
use Rattle.lists.specs.Rows.{rows_of, flat, store}
use Rattle.lists.specs.BigEndian.{number, spelled}
use Rattle.clock.specs.Date.{days_in, is_date}
use Rattle.clock.specs.Moment.{month_start, day_count}
use Rattle.syntax.specs.Machine.{field_step, escape_step, first_escape_step, null_step, return_step, start_step, mark_step, step, accepting, run, fault}
use Rattle.turbo.specs.Escape.{escaped, decode}
use Rattle.turbo.specs.Split.{until, past, fields, field_at}
use Rattle.turbo_lines.specs.Lines.{lines_from, first_long, mark_of, after_mark}
use Rattle.turbo_labels.specs.Columns.{count, column_of, field_under, any_twice}
use Rattle.field_types.specs.Digits.{numeral, triple}
use Rattle.field_types.specs.Times.{clock, time}
use Rattle.field_types.specs.Dates.{date}
use Rattle.field_types.specs.Stamps.{utc_offset, stamp_seconds, stamp}
use Rattle.field_types.specs.Names.{bit, status, stop_type, flexible, truth, shown}
use Rattle.texts.specs.Texts.{text}
use Rattle.columns.specs.Cell.{cell}
use Rattle.columns.specs.Tables.{message_columns, planning_columns, calendar_columns, columns_in, table_name, names, misses, row_of, wrong_column, label_fault}
use Rattle.register.specs.Register.{has_pair, grants, register_sound}
use Rattle.passage.specs.Ranges.{padded_text, key_in_range, times_in_range, common_in_range, update_in_range, plan_in_range, heard_in_range, row_in_range}
use Rattle.keys.specs.Keys.{cmp}
use Rattle.keys.specs.Sorted.{rises_from, sorted_rows, get, put, remove, put_all}
use Rattle.keys.specs.Replay.{taken, taken_all, replayed, reworked}
use Rattle.update.specs.Moves.{table17, may_move}
use Rattle.update.specs.Rule.{apply_row, beginning, row_rule}
use Rattle.reader.specs.Items.{items}
use Rattle.reader.specs.Rules.{first_line, first_column, data_rows, answer_to, reading_of}
use Rattle.plan.specs.Passes.{plan_body}
use Rattle.plan.specs.Rules.{matches, joined_with, joined}
use Rattle.table.specs.Rules.{table_room, all_in_range, table_sound}
use Rattle.book.specs.Entries.{entry_of, entries_of, leading, plan_count, plans_in, updates_in}
use Rattle.book.specs.Rules.{keys_named, book_room, all_plans, entry_in_range, may_follow, chained, no_entry, book_sound, last_from, next_number, message_entries, marked_withdrawn, withdrawn, standing, plan_row, plan_rows, row_for}
use Rattle.calls.specs.Open.{passages_of, plan_of, room_to_open, open_answer, opened_by, open_leaves}
use Rattle.calls.specs.Message.{message_sound, message_rows, room_for, message_answer, book_taking, table_taking, taken_by, message_leaves}
use Rattle.calls.specs.Withdraw.{withdraw_sound, rows_without, room_without, withdraw_answer, book_without, table_without, without_by, withdraw_leaves}
use Rattle.board_show.specs.Ask.{asks_in_range}
use Rattle.board_show.specs.Show.{at_stop, may_show, shows}
use Rattle.board.specs.Rules.{place_in, list_from, listed, board_of, board_leaves}
use Rattle.runs.specs.Runs.{day_after}
use Rattle.cases.specs.Paper.{P6, P7, P8, P9, TwoRows, Relief, Cancelled}

pub through-the-calls : P6 × P7 × P8 × P9 × TwoRows × Relief × Cancelled
unfolding day_after reading_of fault run accepting step mark_step start_step return_step null_step first_escape_step escape_step field_step answer_to first_line first_column data_rows items lines_from first_long mark_of after_mark until past fields field_at field_under table_name label_fault any_twice count column_of names columns_in misses same wrong_column row_of flat cell spelled text decode escaped date is_date days_in triple numeral stamp stamp_seconds month_start day_count utc_offset clock time status stop_type bit flexible truth shown part rows_of open_leaves opened_by open_answer room_to_open plan_of put_all passages_of joined joined_with matches plan_body planning_columns calendar_columns message_leaves taken_by message_answer message_sound room_for book_taking table_taking next_number last_from taken_all taken put get row_rule apply_row beginning may_move table17 entries_of entry_of over onto store message_rows has_pair grants message_columns withdraw_leaves without_by withdraw_answer withdraw_sound room_without rows_without keys_named book_without table_without reworked row_for replayed remove standing message_entries withdrawn marked_withdrawn plan_rows plan_row register_sound book_sound book_room plan_count leading plans_in updates_in all_plans plan_in_range common_in_range key_in_range padded_text times_in_range sorted_rows rises_from cmp chained entry_in_range may_follow no_entry update_in_range table_sound table_room all_in_range row_in_range heard_in_range number board_leaves board_of listed list_from place_in asks_in_range shows at_stop may_show
through-the-calls = ((refl, refl), (refl, refl), (refl, refl), (refl, refl), (refl, refl, refl, refl, refl, refl), (refl, refl, refl), (refl, refl, refl, refl, refl))
