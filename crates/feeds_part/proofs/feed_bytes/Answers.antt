use mathlib.Core.Path.{sym, ◌∙◌}
use native.Mathlib.Omega.{arith}
use lib.ListN.{length}
use lib.Seq.{length-take-le}
use Rattle.feeds_part.specs.inner.Lines.{lent}
use Rattle.feeds_part.proofs.PartLaws.{opened, front-room, front_at, front-fed, stuck-within, stuck-leads, stuck_at, stuck-fed, fault-most}
use Rattle.feeds_part.proofs.feed_bytes.Goals as goal

pub slice_bounds-scan-end : goal.slice_bounds-scan-end
slice_bounds-scan-end c = let a = c.args in let o = c.open_for-open in let part = a.part.now in let q = opened (length part) a.feed o.result o.ensures in sym (length-take-le _ part q.most)

pub slice_bounds-feed_lines-end : goal.slice_bounds-feed_lines-end
slice_bounds-feed_lines-end c = let a = c.args in let o = c.open_for-open in let part = a.part.now in let q = opened (length part) a.feed o.result o.ensures in sym (length-take-le _ part q.most)

pub feed_lines-f-requires : goal.feed_lines-f-requires
feed_lines-f-requires c = let a = c.args in let o = c.open_for-open in let part = a.part.now in let q = opened (length part) a.feed o.result o.ensures in record { fits = (c.requires.0, c.requires.1); taken = (sym c.scan.ensures ∙ c.in-Ok.is, front-room part a.feed o.result q o.result (omega arith)) }

pub overflow_sub-part : goal.overflow_sub-part
overflow_sub-part c = let a = c.args in let o = c.open_for-open in let part = a.part.now in let q = opened (length part) a.feed o.result o.ensures in omega (arith, q.most)

pub count-requires : goal.count-requires
count-requires c = let a = c.args in let o = c.open_for-open in let part = a.part.now in let q = opened (length part) a.feed o.result o.ensures in let f = c.feed_lines-f in front_at part a.feed o.result q f.result f.ensures.counted.0 c.requires.1

pub slice_bounds-state_behind-end : goal.slice_bounds-state_behind-end
slice_bounds-state_behind-end c = let a = c.args in let o = c.open_for-open in let part = a.part.now in let q = opened (length part) a.feed o.result o.ensures in sym (length-take-le _ part (omega (arith, q.most, stuck-within part a.feed o.result q c.in-Err.j (sym c.scan.ensures ∙ c.in-Err.is))))

pub state_behind-m-requires : goal.state_behind-m-requires
state_behind-m-requires c = let a = c.args in let o = c.open_for-open in let part = a.part.now in let q = opened (length part) a.feed o.result o.ensures in stuck-leads part a.feed o.result q c.in-Err.j (sym c.scan.ensures ∙ c.in-Err.is)

pub slice_bounds-feed_lines-end-in-Err : goal.slice_bounds-feed_lines-end-in-Err
slice_bounds-feed_lines-end-in-Err c = let a = c.args in let o = c.open_for-open in let part = a.part.now in let q = opened (length part) a.feed o.result o.ensures in sym (length-take-le _ part (omega (arith, q.most, stuck-within part a.feed o.result q c.in-Err.j (sym c.scan.ensures ∙ c.in-Err.is))))

pub feed_lines-f-requires-in-Err : goal.feed_lines-f-requires-in-Err
feed_lines-f-requires-in-Err c = let a = c.args in let o = c.open_for-open in let part = a.part.now in let q = opened (length part) a.feed o.result o.ensures in record { fits = (c.requires.0, c.requires.1); taken = (c.state_behind-m.ensures, front-room part a.feed o.result q c.in-Err.j (omega (arith, stuck-within part a.feed o.result q c.in-Err.j (sym c.scan.ensures ∙ c.in-Err.is)))) }

pub at_fault-requires : goal.at_fault-requires
at_fault-requires c = let a = c.args in let o = c.open_for-open in let part = a.part.now in let q = opened (length part) a.feed o.result o.ensures in let f = c.feed_lines-f-in-Err in let m = c.state_behind-m in stuck_at part a.feed o.result q c.in-Err.j (sym c.scan.ensures ∙ c.in-Err.is) a.register.now (lent a.feed a.line.now a.staging.now) m.result m.ensures f.result f.new.line f.new.staging f.ensures.is f.ensures.counted.0 f.ensures.counted.1 f.ensures.counted.2

pub overflow_add-j : goal.overflow_add-j
overflow_add-j c = let a = c.args in let o = c.open_for-open in let part = a.part.now in let q = opened (length part) a.feed o.result o.ensures in omega (arith, stuck-within part a.feed o.result q c.in-Err.j (sym c.scan.ensures ∙ c.in-Err.is), q.most)

pub overflow_sub-part-in-Err : goal.overflow_sub-part-in-Err
overflow_sub-part-in-Err c = let a = c.args in let o = c.open_for-open in let part = a.part.now in let q = opened (length part) a.feed o.result o.ensures in omega (arith, stuck-within part a.feed o.result q c.in-Err.j (sym c.scan.ensures ∙ c.in-Err.is), q.most)

pub count-requires-in-Err : goal.count-requires-in-Err
count-requires-in-Err c = let a = c.args in let o = c.open_for-open in let part = a.part.now in let q = opened (length part) a.feed o.result o.ensures in let f = c.feed_lines-f-in-Err in let m = c.state_behind-m in
    let h = stuck_at part a.feed o.result q c.in-Err.j (sym c.scan.ensures ∙ c.in-Err.is) a.register.now (lent a.feed a.line.now a.staging.now) m.result m.ensures f.result f.new.line f.new.staging f.ensures.is f.ensures.counted.0 f.ensures.counted.1 f.ensures.counted.2 in
    fault-most f.result c.at_fault.result c.at_fault.ensures h

pub returns-in-Ok : goal.returns-in-Ok
returns-in-Ok c = let a = c.args in let o = c.open_for-open in let part = a.part.now in let q = opened (length part) a.feed o.result o.ensures in let f = c.feed_lines-f in front-fed part a.feed o.result q a.register.now (lent a.feed a.line.now a.staging.now) f.result f.new.line f.new.staging f.ensures.is f.ensures.counted.0 f.ensures.counted.1 c.requires.1 c.count.result c.count.ensures

pub returns-in-Err : goal.returns-in-Err
returns-in-Err c = let a = c.args in let o = c.open_for-open in let part = a.part.now in let q = opened (length part) a.feed o.result o.ensures in let f = c.feed_lines-f-in-Err in let m = c.state_behind-m in
    stuck-fed part a.feed o.result q c.in-Err.j (sym c.scan.ensures ∙ c.in-Err.is) a.register.now (lent a.feed a.line.now a.staging.now) m.result m.ensures f.result f.new.line f.new.staging f.ensures.is f.ensures.counted.0 f.ensures.counted.1 f.ensures.counted.2
    c.at_fault.result c.at_fault.ensures c.count-in-Err.result c.count-in-Err.ensures
