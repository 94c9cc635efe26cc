use mathlib.Core.Path.{refl, sym, ◌∙◌}
use Prim.Native.Nat.{◌+◌, ◌*◌, ◌≤◌}
use native.Mathlib.Omega.{arith}
use lib.ListN.{length}
use Rattle.std.specs.Prelude.{Err}
use Rattle.book.specs.Entries.{plan_wide, entry_wide}
use Rattle.book.proofs.SoundLaws.{sound-facts, used-within}
use Rattle.book_find.proofs.HeldLaws.{missing-message}
use Rattle.calls.specs.declared.Refusal.TheVariants.{NoMessage}
use Rattle.withdrawals.specs.inner.Steps.{MessageAt}
use Rattle.withdrawals.proofs.RoomLaws.{sound-parts}
use Rattle.withdrawals.proofs.AnswerLaws.{refused_all, not_there}
use Rattle.withdrawals.proofs.StandsLaws.{stands}
use Rattle.withdrawals.proofs.withdraw_sound.Goals as goal

pub find_message-h-requires : goal.find_message-h-requires
find_message-h-requires c =
    let a = c.args in
    (sound-parts a.book.now a.table.now a.counts c.requires).0

pub count_plans-requires : goal.count_plans-requires
count_plans-requires c =
    let a = c.args in
    (used-within a.counts.used a.book.now (sound-facts a.counts.used a.book.now (sound-parts a.book.now a.table.now a.counts c.requires).0)).0

pub overflow_mul-at : goal.overflow_mul-at
overflow_mul-at c =
    let found : let a = c.args in MessageAt a.number a.counts.used a.book.now (c.count_plans.result * plan_wide + c.in-Some.i * entry_wide) c.in-Some.count = let a = c.args in
    let sound = (sound-parts a.book.now a.table.now a.counts c.requires).0 in
    rw c.count_plans.ensures (stands a.number a.counts.used a.book.now sound c.in-Some.i c.in-Some.count (sym c.find_message-h.ensures ∙ c.in-Some.is)) in
    let fits : c.count_plans.result * plan_wide + c.in-Some.i * entry_wide ≤ length c.args.book.now = let a = c.args in
    let u = (used-within a.counts.used a.book.now (sound-facts a.counts.used a.book.now (sound-parts a.book.now a.table.now a.counts c.requires).0)).0 in
    let w = found.within in
    omega arith in
    omega (arith, fits)

pub overflow_mul-at-in-Some : goal.overflow_mul-at-in-Some
overflow_mul-at-in-Some c =
    let found : let a = c.args in MessageAt a.number a.counts.used a.book.now (c.count_plans.result * plan_wide + c.in-Some.i * entry_wide) c.in-Some.count = let a = c.args in
    let sound = (sound-parts a.book.now a.table.now a.counts c.requires).0 in
    rw c.count_plans.ensures (stands a.number a.counts.used a.book.now sound c.in-Some.i c.in-Some.count (sym c.find_message-h.ensures ∙ c.in-Some.is)) in
    let fits : c.count_plans.result * plan_wide + c.in-Some.i * entry_wide ≤ length c.args.book.now = let a = c.args in
    let u = (used-within a.counts.used a.book.now (sound-facts a.counts.used a.book.now (sound-parts a.book.now a.table.now a.counts c.requires).0)).0 in
    let w = found.within in
    omega arith in
    omega (arith, fits)

pub overflow_add-at : goal.overflow_add-at
overflow_add-at c =
    let found : let a = c.args in MessageAt a.number a.counts.used a.book.now (c.count_plans.result * plan_wide + c.in-Some.i * entry_wide) c.in-Some.count = let a = c.args in
    let sound = (sound-parts a.book.now a.table.now a.counts c.requires).0 in
    rw c.count_plans.ensures (stands a.number a.counts.used a.book.now sound c.in-Some.i c.in-Some.count (sym c.find_message-h.ensures ∙ c.in-Some.is)) in
    let fits : c.count_plans.result * plan_wide + c.in-Some.i * entry_wide ≤ length c.args.book.now = let a = c.args in
    let u = (used-within a.counts.used a.book.now (sound-facts a.counts.used a.book.now (sound-parts a.book.now a.table.now a.counts c.requires).0)).0 in
    let w = found.within in
    omega arith in
    omega (arith, fits)

pub withdraw_found-requires : goal.withdraw_found-requires
withdraw_found-requires c =
    let found : let a = c.args in MessageAt a.number a.counts.used a.book.now (c.count_plans.result * plan_wide + c.in-Some.i * entry_wide) c.in-Some.count = let a = c.args in
    let sound = (sound-parts a.book.now a.table.now a.counts c.requires).0 in
    rw c.count_plans.ensures (stands a.number a.counts.used a.book.now sound c.in-Some.i c.in-Some.count (sym c.find_message-h.ensures ∙ c.in-Some.is)) in
    record { counts_value = c.requires; message_at = found }

pub returns-in-None : goal.returns-in-None
returns-in-None c =
    let a = c.args in
    let sound = sound-parts a.book.now a.table.now a.counts c.requires in
    refused_all a.number a.sender a.book.now a.table.now a.counts (Err NoMessage) _
    (not_there a.number a.sender a.book.now a.table.now a.counts c.requires (missing-message a.counts.used a.book.now a.number sound.0 (sym c.find_message-h.ensures ∙ c.in-None.is)))
    refl c.unchanged.ensures
