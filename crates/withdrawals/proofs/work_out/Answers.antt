use native.Mathlib.Omega.{arith}
use borrow.Author.Rules.{rules}
use Rattle.withdrawals.proofs.WorkLaws.{used-fits, few, lent-long, Sorted, sorted-into, lent-there, order-most, order_below, order-rises, order-count, plans-within, plans-fit, plans-rise, updates-fit, keys-are, worked}
use Rattle.withdrawals.proofs.work_out.Goals as goal

pub slice_bounds-e-end : goal.slice_bounds-e-end
slice_bounds-e-end c =
    let a = c.args in
    let u = used-fits a.used a.at a.count a.book.now c.requires.book_value c.requires.entry_wide_bound.0 in
    search rules

pub sort_keys-c-requires : goal.sort_keys-c-requires
sort_keys-c-requires c =
    let a = c.args in
    let k = few a.used a.at a.count a.book.now c.requires.book_value c.requires.entry_wide_bound.0 in
    (omega arith, lent-long a.used a.at a.count a.book.now c.requires.book_value c.requires.entry_wide_bound.0, omega arith, omega arith)

pub count_plans-n-requires : goal.count_plans-n-requires
count_plans-n-requires c =
    let a = c.args in
    used-fits a.used a.at a.count a.book.now c.requires.book_value c.requires.entry_wide_bound.0

pub begin_slots-requires : goal.begin_slots-requires
begin_slots-requires c =
    let sorted : let a = c.args in Sorted a.used a.at a.count a.book.now c.sort_keys-c.result c.sort_keys-c.new.order = let a = c.args in
    sorted-into a.used a.at a.count a.book.now c.requires.book_value c.requires.entry_wide_bound.0 a.order.now c.requires.entry_wide_bound.1 _ _ c.sort_keys-c.ensures.value c.sort_keys-c.ensures.order_after in
    let w = sorted in
    let plans = c.count_plans-n.ensures in
    let k = order-most w in
    record { plan_wide_in_bounds = (plans-fit w plans, lent-there w, w.long, omega arith); book_value = plans-rise w plans; each = order_below w }

pub overflow_mul-from : goal.overflow_mul-from
overflow_mul-from c =
    let sorted : let a = c.args in Sorted a.used a.at a.count a.book.now c.sort_keys-c.result c.sort_keys-c.new.order = let a = c.args in
    sorted-into a.used a.at a.count a.book.now c.requires.book_value c.requires.entry_wide_bound.0 a.order.now c.requires.entry_wide_bound.1 _ _ c.sort_keys-c.ensures.value c.sort_keys-c.ensures.order_after in
    let w = plans-within sorted c.count_plans-n.ensures in
    omega arith

pub overflow_sub-k : goal.overflow_sub-k
overflow_sub-k c =
    let sorted : let a = c.args in Sorted a.used a.at a.count a.book.now c.sort_keys-c.result c.sort_keys-c.new.order = let a = c.args in
    sorted-into a.used a.at a.count a.book.now c.requires.book_value c.requires.entry_wide_bound.0 a.order.now c.requires.entry_wide_bound.1 _ _ c.sort_keys-c.ensures.value c.sort_keys-c.ensures.order_after in
    plans-within sorted c.count_plans-n.ensures

pub replay-requires : goal.replay-requires
replay-requires c =
    let sorted : let a = c.args in Sorted a.used a.at a.count a.book.now c.sort_keys-c.result c.sort_keys-c.new.order = let a = c.args in
    sorted-into a.used a.at a.count a.book.now c.requires.book_value c.requires.entry_wide_bound.0 a.order.now c.requires.entry_wide_bound.1 _ _ c.sort_keys-c.ensures.value c.sort_keys-c.ensures.order_after in
    let w = sorted in
    let plans = c.count_plans-n.ensures in
    let k = order-most w in
    record { entry_wide_in_bounds = (updates-fit w plans, lent-there w, w.long, omega arith); each = order_below w; order_value = order-rises w; slots_value = keys-are w plans c.args.slots.now _ (omega arith) c.begin_slots.ensures }

pub returns : goal.returns
returns c =
    let sorted : let a = c.args in Sorted a.used a.at a.count a.book.now c.sort_keys-c.result c.sort_keys-c.new.order = let a = c.args in
    sorted-into a.used a.at a.count a.book.now c.requires.book_value c.requires.entry_wide_bound.0 a.order.now c.requires.entry_wide_bound.1 _ _ c.sort_keys-c.ensures.value c.sort_keys-c.ensures.order_after in
    let w = sorted in
    let a = c.args in
    let k = order-most w in
    record { value = order-count w; slots_after = worked w c.count_plans-n.ensures a.slots.now _ (omega arith) c.begin_slots.ensures a.number _ c.replay.ensures.taken }
