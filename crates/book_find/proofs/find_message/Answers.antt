use Prim.Native.Nat.{◌*◌, ◌-◌, ◌/◌, ◌≤◌}
use lib.ListN.{length}
use Rattle.book.specs.Entries.{plan_wide, entry_wide}
use mathlib.Core.Path.{sym, ap, ◌∙◌}
use native.Mathlib.Omega.{arith}
use Rattle.book.proofs.SoundLaws.{sound-facts, used-within, count-within, updates-are}
use Rattle.book_find.proofs.CountLaws.{place-within, held-nowhere, held-at}
use Rattle.book_find.specs.inner.Held.{held_as}
use borrow.Author.Rules.{rules}
use Rattle.book_find.proofs.find_message.Goals as goal

pub count_plans-from-requires : goal.count_plans-from-requires
count_plans-from-requires c = (used-within _ _ (sound-facts _ _ c.requires)).0

pub overflow_mul-from : goal.overflow_mul-from
overflow_mul-from c =
    let k = count-within c.args.used c.args.book.now c.count_plans-from.result c.count_plans-from.ensures in
    search rules

pub overflow_sub-m : goal.overflow_sub-m
overflow_sub-m c =
    count-within c.args.used c.args.book.now c.count_plans-from.result c.count_plans-from.ensures

pub count_leading-i-requires : goal.count_leading-i-requires
count_leading-i-requires c =
    let k = count-within c.args.used c.args.book.now c.count_plans-from.result c.count_plans-from.ensures in
    let u = (used-within _ _ (sound-facts _ _ c.requires)).0 in
    omega arith

pub returns-then-i-m : goal.returns-then-i-m
returns-then-i-m c =
    held-nowhere (c.count_plans-from.result * plan_wide) ((c.args.used - c.count_plans-from.result * plan_wide) / entry_wide) c.args.number c.args.book.now
    c.count_leading-i.result c.count_leading-i.ensures c.if-i-m.true
    ∙ ap (held_as c.args.number) (sym (updates-are c.args.used c.args.book.now c.count_plans-from.result c.count_plans-from.ensures))

pub overflow_mul-i : goal.overflow_mul-i
overflow_mul-i c =
    let places : let s = c.args in (c.count_leading-i.result ≤ (s.used - c.count_plans-from.result * plan_wide) / entry_wide) × (c.count_plans-from.result * plan_wide ≤ s.used) × (s.used ≤ length s.book.now) = (
      place-within (c.count_plans-from.result * plan_wide) _ _ c.args.book.now _ c.count_leading-i.ensures,
      count-within c.args.used c.args.book.now c.count_plans-from.result c.count_plans-from.ensures,
      (used-within _ _ (sound-facts _ _ c.requires)).0,
    ) in
    let h = places in
    search rules

pub overflow_add-from : goal.overflow_add-from
overflow_add-from c =
    let places : let s = c.args in (c.count_leading-i.result ≤ (s.used - c.count_plans-from.result * plan_wide) / entry_wide) × (c.count_plans-from.result * plan_wide ≤ s.used) × (s.used ≤ length s.book.now) = (
      place-within (c.count_plans-from.result * plan_wide) _ _ c.args.book.now _ c.count_leading-i.ensures,
      count-within c.args.used c.args.book.now c.count_plans-from.result c.count_plans-from.ensures,
      (used-within _ _ (sound-facts _ _ c.requires)).0,
    ) in
    let h = places in
    search rules

pub overflow_sub-m-2 : goal.overflow_sub-m-2
overflow_sub-m-2 c =
    let places : let s = c.args in (c.count_leading-i.result ≤ (s.used - c.count_plans-from.result * plan_wide) / entry_wide) × (c.count_plans-from.result * plan_wide ≤ s.used) × (s.used ≤ length s.book.now) = (
      place-within (c.count_plans-from.result * plan_wide) _ _ c.args.book.now _ c.count_leading-i.ensures,
      count-within c.args.used c.args.book.now c.count_plans-from.result c.count_plans-from.ensures,
      (used-within _ _ (sound-facts _ _ c.requires)).0,
    ) in
    places.0

pub count_leading-k-requires : goal.count_leading-k-requires
count_leading-k-requires c =
    let places : let s = c.args in (c.count_leading-i.result ≤ (s.used - c.count_plans-from.result * plan_wide) / entry_wide) × (c.count_plans-from.result * plan_wide ≤ s.used) × (s.used ≤ length s.book.now) = (
      place-within (c.count_plans-from.result * plan_wide) _ _ c.args.book.now _ c.count_leading-i.ensures,
      count-within c.args.used c.args.book.now c.count_plans-from.result c.count_plans-from.ensures,
      (used-within _ _ (sound-facts _ _ c.requires)).0,
    ) in
    let h = places in
    omega arith

pub returns : goal.returns
returns c =
    held-at (c.count_plans-from.result * plan_wide) ((c.args.used - c.count_plans-from.result * plan_wide) / entry_wide) c.args.number c.args.book.now
    c.count_leading-i.result c.count_leading-i.ensures c.if-i-m.false c.count_leading-k.result c.count_leading-k.ensures
    ∙ ap (held_as c.args.number) (sym (updates-are c.args.used c.args.book.now c.count_plans-from.result c.count_plans-from.ensures))
