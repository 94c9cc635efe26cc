use mathlib.Core.Path.{ap, ◌∙◌}
use Prim.Native.Nat.{ℕ, ◌+◌}
use native.Mathlib.Omega.{arith}
use Rattle.book.proofs.SoundLaws.{sound-facts, used-within, count-within}
use Rattle.book.proofs.NumberLaws.{last-most, next-is}
use Rattle.book_write.proofs.NumberLaws.{next-first, last_fits, next-after}
use borrow.Author.Rules.{rules}
use Rattle.book_write.proofs.next_number.Goals as goal

pub count_plans-from-requires : goal.count_plans-from-requires
count_plans-from-requires c = (used-within _ _ (sound-facts _ _ c.requires)).0

pub overflow_mul-from : goal.overflow_mul-from
overflow_mul-from c =
    let k = count-within c.args.used c.args.book.now c.count_plans-from.result c.count_plans-from.ensures in
    search rules

pub returns-then-used-from : goal.returns-then-used-from
returns-then-used-from c =
    next-first c.args.used c.args.book.now c.requires c.count_plans-from.result c.count_plans-from.ensures c.if-used-from.true

pub overflow_sub-used : goal.overflow_sub-used
overflow_sub-used c =
    let k = last_fits c.args.used c.args.book.now c.requires c.count_plans-from.result c.count_plans-from.ensures c.if-used-from.false in
    omega arith

pub overflow_add-used : goal.overflow_add-used
overflow_add-used c =
    let k = last_fits c.args.used c.args.book.now c.requires c.count_plans-from.result c.count_plans-from.ensures c.if-used-from.false in
    search rules

pub get_number-last-requires : goal.get_number-last-requires
get_number-last-requires c =
    let k = last_fits c.args.used c.args.book.now c.requires c.count_plans-from.result c.count_plans-from.ensures c.if-used-from.false in
    let u = (used-within _ _ (sound-facts _ _ c.requires)).0 in
    (omega arith, omega arith)

pub overflow_add-result : goal.overflow_add-result
overflow_add-result c =
    let l = last-most c.args.used c.args.book.now c.requires in
    let n = next-after c.args.used c.args.book.now c.requires c.count_plans-from.result c.count_plans-from.ensures c.if-used-from.false in
    search rules

pub returns : goal.returns
returns c =
    ap (λ (n : ℕ). n + 1) (c.get_number-last.ensures ∙ next-after c.args.used c.args.book.now c.requires c.count_plans-from.result c.count_plans-from.ensures c.if-used-from.false)
    ∙ next-is c.args.used c.args.book.now
