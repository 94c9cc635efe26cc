use mathlib.Core.Path.{◌≡◌, refl, sym, ◌∙◌}
use mathlib.Core.List.{List, []}
use Prim.Native.Nat.{ℕ, ◌*◌, ◌≤◌}
use native.Mathlib.Omega.{arith}
use lib.ListN.{length}
use Rattle.std.specs.Prelude.{Err}
use Rattle.lists.specs.Rows.{rows_of}
use Rattle.lists.proofs.RowLaws.{length-rows_of}
use Rattle.passage.specs.Layout.{body_wide}
use Rattle.keys.specs.Sorted.{put_all}
use Rattle.table.proofs.SoundLaws.{room_fits}
use Rattle.book.specs.Entries.{plan_wide}
use Rattle.book.specs.Rules.{book_room}
use Rattle.book.proofs.SoundLaws.{room_within}
use Rattle.calls.specs.declared.Refusal.TheVariants.{KeyTwice, TableShort}
use Rattle.opening_write.specs.inner.Steps.{most_plans}
use Rattle.opening_write.proofs.SortLaws.{js, distinct-count, places-each, plan-read}
use Rattle.opening_write.proofs.StageLaws.{refused-with, accepted-with, key_twice, table-short, accepted}
use Rattle.opening_write.proofs.sort_and_write.Goals as goal

pub sort_keys-distinct-requires : goal.sort_keys-distinct-requires
sort_keys-distinct-requires c =
    let few : c.args.count ≤ most_plans = let m = (room_within c.args.book.now).1 in omega arith in
    let f = few in (omega arith, c.requires.0, f, omega arith)

pub returns-then-distinct-count : goal.returns-then-distinct-count
returns-then-distinct-count c =
    let bodies : List (List ℕ) = rows_of body_wide c.args.count c.args.bodies.now in
    let counted : length bodies ≡ c.args.count = length-rows_of body_wide c.args.count c.args.bodies.now in
    let fits : length bodies * plan_wide ≤ book_room c.args.book.now = rw counted c.requires.1 in
    let distinct : c.sort_keys-distinct.result ≡ length (put_all bodies []) = c.sort_keys-distinct.ensures.value ∙ distinct-count c.args.bodies.now c.args.count in
    let a = c.args in
    let d : c.sort_keys-distinct.result ≡ a.count → ⊥ = c.if-distinct-count.true in
    refused-with bodies a.book.now a.table.now a.counts (Err KeyTwice) _ refl
    (key_twice bodies a.book.now a.table.now a.counts fits (λ e. d (distinct ∙ e ∙ counted))) c.unchanged.result c.unchanged.ensures

pub returns-then-room-count : goal.returns-then-room-count
returns-then-room-count c =
    let bodies : List (List ℕ) = rows_of body_wide c.args.count c.args.bodies.now in
    let counted : length bodies ≡ c.args.count = length-rows_of body_wide c.args.count c.args.bodies.now in
    let fits : length bodies * plan_wide ≤ book_room c.args.book.now = rw counted c.requires.1 in
    let distinct : c.sort_keys-distinct.result ≡ length (put_all bodies []) = c.sort_keys-distinct.ensures.value ∙ distinct-count c.args.bodies.now c.args.count in
    let all : length (put_all bodies []) ≡ length bodies = sym distinct ∙ c.if-distinct-count.false ∙ sym counted in
    let a = c.args in
    let k = counted in
    refused-with bodies a.book.now a.table.now a.counts (Err TableShort) _ refl
    (table-short bodies a.book.now a.table.now a.counts fits all (omega arith)) c.unchanged-then-room-count.result c.unchanged-then-room-count.ensures

pub write_plan-requires : goal.write_plan-requires
write_plan-requires c =
    let few : c.args.count ≤ most_plans = let m = (room_within c.args.book.now).1 in omega arith in
    let all-places : length (js c.args.bodies.now c.args.count) ≡ c.args.count = sym c.sort_keys-distinct.ensures.value ∙ c.if-distinct-count.false in
    let k = c.sort_keys-distinct in
    let f = few in
    let m = (room_within c.args.book.now).0 in
    record { plan_wide_in_bounds = (omega arith, c.requires.0, omega arith); each = places-each c.args.bodies.now c.args.count all-places _ _ k.ensures.order_after f }

pub write_rows-requires : goal.write_rows-requires
write_rows-requires c =
    let few : c.args.count ≤ most_plans = let m = (room_within c.args.book.now).1 in omega arith in
    let all-places : length (js c.args.bodies.now c.args.count) ≡ c.args.count = sym c.sort_keys-distinct.ensures.value ∙ c.if-distinct-count.false in
    let k = c.sort_keys-distinct in
    let f = few in
    let m = room_fits c.args.table.now in
    record { row_wide_in_bounds = (omega arith, c.requires.0, omega arith); each = places-each c.args.bodies.now c.args.count all-places _ _ k.ensures.order_after f }

pub returns : goal.returns
returns c =
    let few : c.args.count ≤ most_plans = let m = (room_within c.args.book.now).1 in omega arith in
    let bodies : List (List ℕ) = rows_of body_wide c.args.count c.args.bodies.now in
    let counted : length bodies ≡ c.args.count = length-rows_of body_wide c.args.count c.args.bodies.now in
    let fits : length bodies * plan_wide ≤ book_room c.args.book.now = rw counted c.requires.1 in
    let distinct : c.sort_keys-distinct.result ≡ length (put_all bodies []) = c.sort_keys-distinct.ensures.value ∙ distinct-count c.args.bodies.now c.args.count in
    let all : length (put_all bodies []) ≡ length bodies = sym distinct ∙ c.if-distinct-count.false ∙ sym counted in
    let all-places : length (js c.args.bodies.now c.args.count) ≡ c.args.count = sym c.sort_keys-distinct.ensures.value ∙ c.if-distinct-count.false in
    let a = c.args in
    let k = counted in
    accepted-with bodies a.book.now a.table.now a.counts _ a.count _ c.accepted.result c.write_plan.new.tail c.write_rows.new.table
    (accepted bodies a.book.now a.table.now a.counts fits all (omega arith)) (all ∙ k)
    (plan-read a.bodies.now a.count all-places _ _ c.sort_keys-distinct.ensures.order_after few) c.accepted.ensures c.write_plan.ensures c.write_rows.ensures
