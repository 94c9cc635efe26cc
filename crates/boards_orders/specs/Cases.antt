-- Lines of a script, by computation. Assumes nothing.
use Rattle.std.specs.Prelude.{◌≡◌, refl, true, false, []}
use Rattle.lists.specs.Text.{bytes, same}
use Rattle.turbo.specs.Split.{fields}
use Rattle.turbo_labels.specs.Columns.{column_of}
use Rattle.clock.specs.Date.{is_date, days_in}
use Rattle.field_types.specs.Digits.{numeral, triple}
use Rattle.field_types.specs.Times.{clock}
use Rattle.field_types.specs.Dates.{date}
use Rattle.script_text.specs.Rules.{is_blank, run_in, from_word, word_from, word_at}
use Rattle.boards_orders.specs.declared.Order.TheVariants.{Nothing, Open, Register, Message, Withdraw, Board, Messages, Save, Load, Parts, Bad}
use Rattle.boards_orders.specs.Orders.{command_of, number_word, date_word, time_word, register_order, message_order, parts_order, withdraw_order, board_order, places_at, form_at, has_words, is_whole, is_of_day, order_by, commanded, order_in, no-day, no_sender, not_to_register, no_owner, no_date, no_time, no_horizon, no_places, no_size, no_form}

-- with a day open
abbrev Lines : Type 0
Lines =
    (order_in true [] ≡ Nothing)
    × (order_in true (bytes "# OPEN a b") ≡ Nothing)
    × (order_in true (bytes "OPEN a b") ≡ Open)
    × (order_in true (bytes "OPEN a") ≡ Bad 0 15)
    × (order_in true (bytes "SHUT a b") ≡ Bad 0 25)
    × (order_in true (bytes "REGISTER 3 CXX") ≡ Register 3)
    × (order_in true (bytes "REGISTER 0 CXX") ≡ Bad 1 not_to_register)
    × (order_in true (bytes "REGISTER 3 ABCDEFGHIJK") ≡ Bad 2 no_owner)
    × (order_in true (bytes "MESSAGE 256 f") ≡ Bad 1 no_sender)
    × (order_in true (bytes "WITHDRAW 7 0") ≡ Withdraw 7 0)
    × (order_in true (bytes "MESSAGES") ≡ Messages)
    × (order_in true (bytes "SAVE f") ≡ Save)
    × (order_in true (bytes "LOAD f g") ≡ Bad 0 23)
    × (order_in true (bytes "PARTS 3 f 65536") ≡ Parts 3 65536 0)
    × (order_in true (bytes "PARTS 3 f 0") ≡ Bad 3 no_size)
    × (order_in true (bytes "PARTS 3 f 65537") ≡ Bad 3 no_size)
    × (order_in true (bytes "PARTS 3 f") ≡ Bad 0 24)

lines_case : Lines
unfolding order_in commanded order_by is_whole has_words form_at parts_order withdraw_order message_order register_order number_word command_of word_at word_from from_word run_in is_blank numeral column_of fields same
lines_case = (refl, refl, refl, refl, refl, refl, refl, refl, refl, refl, refl, refl, refl, refl, refl, refl, refl)

-- the form: left out, known or not, no number, a word too many
abbrev Forms : Type 0
Forms =
    (order_in true (bytes "MESSAGE 3 f") ≡ Message 3 0)
    × (order_in true (bytes "MESSAGE 3 f 0") ≡ Message 3 0)
    × (order_in true (bytes "MESSAGE 3 f 1") ≡ Message 3 1)
    × (order_in true (bytes "MESSAGE 3 f 2") ≡ Message 3 2)
    × (order_in true (bytes "MESSAGE 3 f 999999999") ≡ Message 3 999999999)
    × (order_in true (bytes "MESSAGE 3 f new") ≡ Bad 3 no_form)
    × (order_in true (bytes "MESSAGE 3 f 1000000000") ≡ Bad 3 no_form)
    × (order_in true (bytes "MESSAGE 256 f new") ≡ Bad 1 no_sender)
    × (order_in true (bytes "MESSAGE 3 f 1 1") ≡ Bad 0 17)
    × (order_in true (bytes "PARTS 3 f 100 1") ≡ Parts 3 100 1)
    × (order_in true (bytes "PARTS 3 f 100 2") ≡ Parts 3 100 2)
    × (order_in true (bytes "PARTS 3 f 100 new") ≡ Bad 4 no_form)
    × (order_in true (bytes "PARTS 3 f 0 new") ≡ Bad 3 no_size)
    × (order_in true (bytes "PARTS 3 f 100 1 1") ≡ Bad 0 24)

forms-case : Forms
unfolding order_in commanded order_by is_whole has_words form_at parts_order message_order number_word command_of word_at word_from from_word run_in is_blank numeral column_of fields same
forms-case = (refl, refl, refl, refl, refl, refl, refl, refl, refl, refl, refl, refl, refl, refl)

-- with none open
abbrev NoDay : Type 0
NoDay =
    (order_in false (bytes "MESSAGE 3 f") ≡ Bad 0 no-day)
    × (order_in false (bytes "SAVE f") ≡ Bad 0 no-day)
    × (order_in false (bytes "PARTS 3 f 100") ≡ Bad 0 no-day)
    × (order_in false (bytes "SHUT a b") ≡ Bad 0 25)
    × (order_in false (bytes "REGISTER 3 CXX") ≡ Register 3)
    × (order_in false (bytes "LOAD f") ≡ Load)

no-day-case : NoDay
unfolding order_in commanded is_of_day order_by is_whole has_words register_order number_word command_of word_at word_from from_word run_in is_blank numeral column_of fields same
no-day-case = (refl, refl, refl, refl, refl, refl)

-- a board's words
abbrev Boards : Type 0
Boards =
    (board_order (bytes "BOARD CXX S1 2016-03-01 12:00:00 3600") ≡ Board 20160301 43200 3600 2048)
    × (board_order (bytes "BOARD CXX S1 2016-02-30 12:00:00 3600") ≡ Bad 3 no_date)
    × (board_order (bytes "BOARD CXX S1 2016-03-01 07:50 3600") ≡ Bad 4 no_time)
    × (board_order (bytes "BOARD CXX S1 2016-03-01 12:00:00 1h") ≡ Bad 5 no_horizon)
    × (board_order (bytes "BOARD CXX S1 2016-03-01 12:00:00 3600 x") ≡ Bad 6 no_places)

boards-case : Boards
unfolding board_order places_at number_word date_word time_word word_at word_from from_word run_in is_blank date is_date days_in clock triple numeral
boards-case = (refl, refl, refl, refl, refl)
