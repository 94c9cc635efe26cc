use mathlib.Core.Path.{sym, ◌∙◌}
use Prim.Native.Nat.{◌≤◌}
use native.Mathlib.Omega.{arith}
use Rattle.book.specs.Rules.{book_room}
use Rattle.book.proofs.SoundLaws.{room_within, count-within, sound_none, sound-ragged, sound-is}
use Rattle.book.proofs.book_is_sound.Goals as goal

pub returns-then-book_room-used : goal.returns-then-book_room-used
returns-then-book_room-used c =
    let a = c.args in
    sym (sound_none a.used a.book.now (rw c.book_room.ensures at c.if-book_room-used.true))

pub count_plans-n-requires : goal.count_plans-n-requires
count_plans-n-requires c =
    let r = room_within c.args.book.now in
    omega (arith, r.0)

pub overflow_mul-rest : goal.overflow_mul-rest
overflow_mul-rest c =
    let a = c.args in
    let r = room_within a.book.now in
    let k = count-within a.used a.book.now c.count_plans-n.result c.count_plans-n.ensures in
    omega arith

pub overflow_sub-rest : goal.overflow_sub-rest
overflow_sub-rest c =
    let a = c.args in
    count-within a.used a.book.now c.count_plans-n.result c.count_plans-n.ensures

pub returns-then-rest-ne0 : goal.returns-then-rest-ne0
returns-then-rest-ne0 c =
    let a = c.args in
    let f : a.used ≤ book_room a.book.now = rw c.book_room.ensures at c.if-book_room-used.false in
    sym (sound-ragged a.used a.book.now c.count_plans-n.result c.count_plans-n.ensures f c.if-rest-ne0.true)

pub plans_are_sound-requires : goal.plans_are_sound-requires
plans_are_sound-requires c =
    let a = c.args in
    let r = room_within a.book.now in
    let k = count-within a.used a.book.now c.count_plans-n.result c.count_plans-n.ensures in
    omega arith

pub overflow_mul-n : goal.overflow_mul-n
overflow_mul-n c =
    let a = c.args in
    let r = room_within a.book.now in
    let k = count-within a.used a.book.now c.count_plans-n.result c.count_plans-n.ensures in
    omega arith

pub updates_are_sound-requires : goal.updates_are_sound-requires
updates_are_sound-requires c =
    let a = c.args in
    let r = room_within a.book.now in
    let k = count-within a.used a.book.now c.count_plans-n.result c.count_plans-n.ensures in
    omega arith

pub returns-then-plans_are_sound : goal.returns-then-plans_are_sound
returns-then-plans_are_sound c =
    let a = c.args in
    let f : a.used ≤ book_room a.book.now = rw c.book_room.ensures at c.if-book_room-used.false in
    let t = sym c.plans_are_sound.ensures ∙ c.if-plans_are_sound.true in
    c.updates_are_sound.ensures ∙ sym (sound-is a.used a.book.now c.count_plans-n.result c.count_plans-n.ensures f c.if-rest-ne0.false ∙ rw t)

pub returns-else-plans_are_sound : goal.returns-else-plans_are_sound
returns-else-plans_are_sound c =
    let a = c.args in
    let f : a.used ≤ book_room a.book.now = rw c.book_room.ensures at c.if-book_room-used.false in
    let t = sym c.plans_are_sound.ensures ∙ c.if-plans_are_sound.false in
    c.if-plans_are_sound.false ∙ sym (sound-is a.used a.book.now c.count_plans-n.result c.count_plans-n.ensures f c.if-rest-ne0.false ∙ rw t)
