-- `take_rows` meets its contract. Assumes nothing.
use Prim.Native.Nat.{ℕ, ◌+◌, ◌*◌, ◌≤◌, ◌<◌}
use native.Mathlib.Omega.{arith}
use mathlib.Core.Path.{◌≡◌, sym, ◌∙◌}
use mathlib.Core.List.{List, []}
use lib.ListN.{length}
use Rattle.lists.specs.Rows.{rows_of}
use Rattle.lists.proofs.RowLaws.{length-rows_of}
use Rattle.passage.specs.Layout.{body_wide, row_wide}
use Rattle.table.specs.Rules.{most_rows}
use Rattle.table.proofs.SoundLaws.{room_most, room_fits, sound-within, sound-fits, sound-sorted}
use Rattle.book.specs.Entries.{entry_wide}
use Rattle.book.specs.Rules.{book_room}
use Rattle.messages.proofs.SoundLaws.{used-fits}
use Rattle.messages.proofs.TakeLaws.{rowless, book-short, table-short, fits}
use Rattle.messages.proofs.take_rows.Goals as goal

pub returns-then-count-eq0 : goal.returns-then-count-eq0
unfolding rows_of
returns-then-count-eq0 c =
    let bodies : List (List ℕ) = rows_of body_wide c.args.count c.args.staging.now in
    let no-bodies : c.args.count ≡ 0 → bodies ≡ [] = λ e. rw e in
    let a = c.args in
    rowless a.sender a.book.now a.table.now a.counts c.requires.book_value bodies (no-bodies c.if-count-eq0.true) c.unchanged.result c.unchanged.ensures

pub overflow_add-used : goal.overflow_add-used
overflow_add-used c =
    let u = used-fits c.args.counts.used c.args.book.now c.requires.book_value.0 in
    omega arith

pub returns-then-book_room-used : goal.returns-then-book_room-used
returns-then-book_room-used c =
    let bodies : List (List ℕ) = rows_of body_wide c.args.count c.args.staging.now in
    let a = c.args in
    let room = c.book_room.ensures in
    let h : book_room a.book.now < a.counts.used + length bodies * entry_wide = rw (← room, length-rows_of body_wide a.count a.staging.now) c.if-book_room-used.true in
    book-short bodies a.sender a.book.now a.table.now a.counts h c.unchanged-then-book_room-used.result c.unchanged-then-book_room-used.ensures

pub take_fitting-requires : goal.take_fitting-requires
take_fitting-requires c =
    let a = c.args in
    let t = c.requires.book_value.1 in
    let m = c.rows_room-most.ensures in
    let most : c.rows_room-most.result ≤ most_rows = rw m (room_most a.table.now) in
    let held : a.counts.rows ≤ c.rows_room-most.result = rw m (sound-within a.counts.rows a.table.now t) in
    let within : c.rows_room-most.result * row_wide ≤ length a.table.now = rw m (room_fits a.table.now) in
    let room = c.requires.count_le_most_updates in
    record { row_wide_in_bounds = (sound-fits a.counts.rows a.table.now t, omega arith, held, most, omega arith); table_value = sound-sorted a.counts.rows a.table.now t; row_wide_in_bounds_2 = within }

pub write_rows-requires : goal.write_rows-requires
write_rows-requires c =
    let a = c.args in
    let room = c.book_room.ensures in
    let fit : a.counts.used + a.count * entry_wide ≤ book_room a.book.now = rw (← room) c.if-book_room-used.false in
    record { count_le_most_updates = c.requires.count_le_most_updates; book_value = c.requires.book_value.0; entry_wide_bound = fit }

pub returns-in-Some : goal.returns-in-Some
returns-in-Some c =
    let bodies : List (List ℕ) = rows_of body_wide c.args.count c.args.staging.now in
    let a = c.args in
    let all = length-rows_of body_wide a.count a.staging.now in
    let room = c.book_room.ensures in
    let fit : a.counts.used + length bodies * entry_wide ≤ book_room a.book.now = rw (← room, all) c.if-book_room-used.false in
    let some : length bodies ≡ 0 → ⊥ = λ e. c.if-count-eq0.false (sym all ∙ e) in
    let wrote = c.write_rows in
    fits bodies a.sender a.book.now a.table.now a.counts _ c.rows_room-most.ensures c.take_fitting.result _ (c.take_fitting.ensures.value, c.take_fitting.ensures.table_after) some fit _ c.in-Some.is wrote.result _ a.count (sym all) wrote.ensures.outcome wrote.ensures.entries

pub returns-in-None : goal.returns-in-None
returns-in-None c =
    let bodies : List (List ℕ) = rows_of body_wide c.args.count c.args.staging.now in
    let a = c.args in
    let room = c.book_room.ensures in
    let fit : a.counts.used + length bodies * entry_wide ≤ book_room a.book.now = rw (← room, length-rows_of body_wide a.count a.staging.now) c.if-book_room-used.false in
    table-short bodies a.sender a.book.now a.table.now a.counts _ c.rows_room-most.ensures c.take_fitting.result _ (c.take_fitting.ensures.value, c.take_fitting.ensures.table_after) fit c.in-None.is c.unchanged-in-None.result c.unchanged-in-None.ensures
