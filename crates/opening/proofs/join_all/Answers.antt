use mathlib.Core.Path.{◌≡◌, refl, sym, ap, subst, ◌∙◌}
use mathlib.Core.List.{List}
use Prim.Native.Nat.{ℕ, ◌*◌, ◌/◌, ◌≤◌}
use native.Mathlib.Omega.{arith}
use lib.ListN.{length}
use Rattle.std.specs.Prelude.{Err}
use Rattle.passage.specs.Layout.{body_wide}
use Rattle.book.specs.Entries.{plan_wide}
use Rattle.book.specs.Rules.{book_room}
use Rattle.book.proofs.SoundLaws.{room_within}
use Rattle.calls.specs.declared.Refusal.TheVariants.{BookShort}
use Rattle.calls.specs.Open.{room_to_open}
use Rattle.opening.specs.inner.Joining.{fewer, staged_pairs}
use Rattle.opening_write.proofs.StageLaws.{Opened, refused-with, book-short}
use Rattle.lists.proofs.AreaLaws.{room_for}
use Rattle.opening.proofs.AreaLaws.{most-within, few-joined, pairs-few}
use Rattle.opening.proofs.PairLaws.{pairs-short, pairs-read, wide-pairs}
use Rattle.opening.proofs.join_all.Goals as goal

pub join-pairs-requires : goal.join-pairs-requires
join-pairs-requires c =
    let room : ℕ = book_room c.args.book.now / plan_wide in
    let long : ℕ = length c.args.bodies.now in
    let most-is : c.fewer-most.result ≡ fewer room (long / body_wide) = c.fewer-most.ensures ∙ ap (λ (n : ℕ). fewer (n / plan_wide) (long / body_wide)) c.book_room-room.ensures in
    let few : (c.fewer-most.result ≤ room) × (c.fewer-most.result * body_wide ≤ long) = subst (λ (m : ℕ). (m ≤ room) × (m * body_wide ≤ long)) (sym most-is) (most-within room long) in
    let w = few in
    let l = w.0 in
    let m = (room_within c.args.book.now).1 in
    (c.requires.0, c.requires.1, w.1, omega arith)

pub returns-then-most-pairs : goal.returns-then-most-pairs
returns-then-most-pairs c =
    let room : ℕ = book_room c.args.book.now / plan_wide in
    let long : ℕ = length c.args.bodies.now in
    let most-is : c.fewer-most.result ≡ fewer room (long / body_wide) = c.fewer-most.ensures ∙ ap (λ (n : ℕ). fewer (n / plan_wide) (long / body_wide)) c.book_room-room.ensures in
    let joins : List (List ℕ) = staged_pairs c.args.times c.args.passes.now c.args.days c.args.validities.now in
    let a = c.args in
    refused-with joins a.book.now a.table.now a.counts (Err BookShort) _ refl
    (book-short joins a.book.now a.table.now a.counts
    (pairs-short joins c.fewer-most.result c.join-pairs.result c.join-pairs.ensures.count a.book.now (a.times * a.days) long (pairs-few a.times a.passes.now a.days a.validities.now) c.requires.2 most-is
    c.if-most-pairs.true)) c.unchanged.result c.unchanged.ensures

pub sort_and_write-requires : goal.sort_and_write-requires
sort_and_write-requires c =
    let room : ℕ = book_room c.args.book.now / plan_wide in
    let long : ℕ = length c.args.bodies.now in
    let most-is : c.fewer-most.result ≡ fewer room (long / body_wide) = c.fewer-most.ensures ∙ ap (λ (n : ℕ). fewer (n / plan_wide) (long / body_wide)) c.book_room-room.ensures in
    let few : (c.fewer-most.result ≤ room) × (c.fewer-most.result * body_wide ≤ long) = subst (λ (m : ℕ). (m ≤ room) × (m * body_wide ≤ long)) (sym most-is) (most-within room long) in
    let w = few in
    let k = few-joined c.join-pairs.result c.fewer-most.result (book_room c.args.book.now) long c.if-most-pairs.false w.1 w.0 in
    (room_for _ long c.join-pairs.new.out (omega arith) k.0, k.1)

pub returns : goal.returns
returns c =
    let room : ℕ = book_room c.args.book.now / plan_wide in
    let long : ℕ = length c.args.bodies.now in
    let most-is : c.fewer-most.result ≡ fewer room (long / body_wide) = c.fewer-most.ensures ∙ ap (λ (n : ℕ). fewer (n / plan_wide) (long / body_wide)) c.book_room-room.ensures in
    let few : (c.fewer-most.result ≤ room) × (c.fewer-most.result * body_wide ≤ long) = subst (λ (m : ℕ). (m ≤ room) × (m * body_wide ≤ long)) (sym most-is) (most-within room long) in
    let joins : List (List ℕ) = staged_pairs c.args.times c.args.passes.now c.args.days c.args.validities.now in
    let a = c.args in
    let r =
    pairs-read joins c.fewer-most.result c.join-pairs.result c.join-pairs.ensures.count _ c.join-pairs.new.out c.join-pairs.ensures.bodies
    (wide-pairs a.times a.passes.now a.days a.validities.now c.requires.0 c.requires.1) c.if-most-pairs.false few.1 in
    subst
    (λ (k : List (List ℕ)). Opened (room_to_open k a.book.now a.table.now) k a.book.now a.table.now a.counts c.sort_and_write.result c.sort_and_write.new.book c.sort_and_write.new.table)
    r c.sort_and_write.ensures
