use mathlib.Core.Path.{◌≡◌, refl, sym, ap, ◌∙◌}
use native.Mathlib.Omega.{arith}
use Prim.Native.Nat.{◌+◌, ◌-◌}
use lib.ListN.{length, take, drop}
use lib.Seq.{length-take-le}
use Rattle.turbo.proofs.SplitLaws.{upto_is, rest-is}
use Rattle.feeds.specs.Feed.{fed}
use Rattle.feeds_part.specs.inner.Lines.{stands_at, longer, lent}
use Rattle.feeds_part.proofs.LineLaws.{left-start, left-room, left-few, left-turn, left-shorter, left-done, long-room}
use Rattle.feeds_part.proofs.feed_lines.Goals as goal

pub loop-n-init : goal.loop-n-init
loop-n-init c = let a = c.args in (left-start a.register.now a.machine a.feed a.line.now a.staging.now a.bytes.now c.requires.fits.0 c.requires.fits.1 c.requires.taken.0 c.requires.taken.1, c.line_feed-n.ensures.is, refl)

pub slice_bounds-line_ended-end : goal.slice_bounds-line_ended-end
slice_bounds-line_ended-end c = let k = c.loop-n in sym (length-take-le _ k.rest.now (omega (arith, c.loop-n-test.true)))

pub line_ended-f-requires : goal.line_ended-f-requires
line_ended-f-requires c = let a = c.args in let k = c.loop-n in let i = k.invariant in let l = length-take-le k.n k.rest.now (omega (arith, c.loop-n-test.true)) in (i.0.room, omega (arith, l, left-room a.register.now (fed a.register.now (lent a.feed a.line.now a.staging.now) a.bytes.now) a.machine (a.feed.at + length a.bytes.now) a.feed.fault k.f k.line k.staging k.rest.now i.0 k.n c.loop-n-test.true), i.0.fits)

pub overflow_add-rest : goal.overflow_add-rest
overflow_add-rest c = let a = c.args in let k = c.loop-n in let i = k.invariant in omega (arith, left-room a.register.now (fed a.register.now (lent a.feed a.line.now a.staging.now) a.bytes.now) a.machine (a.feed.at + length a.bytes.now) a.feed.fault k.f k.line k.staging k.rest.now i.0 k.n c.loop-n-test.true)

pub slice_bounds-rest-start : goal.slice_bounds-rest-start
slice_bounds-rest-start c = omega (arith, c.loop-n-test.true)

pub loop-n-smaller : goal.loop-n-smaller
loop-n-smaller c = let a = c.args in let k = c.loop-n in let i = k.invariant in left-shorter a.register.now (fed a.register.now (lent a.feed a.line.now a.staging.now) a.bytes.now) a.machine (a.feed.at + length a.bytes.now) a.feed.fault k.f k.line k.staging k.rest.now i.0 k.n _ i.1 c.loop-n-test.true (rest-is 10 k.n k.rest.now i.1)

pub loop-n-preserved : goal.loop-n-preserved
loop-n-preserved c = let a = c.args in let k = c.loop-n in let i = k.invariant in
    let g = c.line_ended-f in (
      left-turn a.register.now (fed a.register.now (lent a.feed a.line.now a.staging.now) a.bytes.now) a.machine (a.feed.at + length a.bytes.now) a.feed.fault k.f k.line k.staging k.rest.now i.0
          k.n (take k.n k.rest.now) (take (length k.rest.now - (k.n + 1)) (drop (k.n + 1) k.rest.now)) i.1 c.loop-n-test.true (upto_is 10 k.n k.rest.now i.1) (rest-is 10 k.n k.rest.now i.1)
          g.result g.new.line g.new.staging g.ensures (g.auto.line ∙ i.0.room),
      c.line_feed-n-in-loop-n.ensures.is,
      g.auto.staging ∙ i.2,
    )

pub hold_bytes-requires : goal.hold_bytes-requires
hold_bytes-requires c = c.loop-n.invariant.0.room

pub lengthen-requires : goal.lengthen-requires
lengthen-requires c = let a = c.args in let k = c.loop-n in let i = k.invariant in long-room k.f (length k.rest.now) (left-few a.register.now (fed a.register.now (lent a.feed a.line.now a.staging.now) a.bytes.now) a.machine (a.feed.at + length a.bytes.now) a.feed.fault k.f k.line k.staging k.rest.now i.0).0 i.0.fits

pub shape_of-staging : goal.shape_of-staging
shape_of-staging c = let a = c.args in let k = c.loop-n in let i = k.invariant in i.2

pub shape_of-line : goal.shape_of-line
shape_of-line c = let a = c.args in let k = c.loop-n in let i = k.invariant in c.hold_bytes.auto.line ∙ i.0.room ∙ sym c.requires.fits.0

pub returns : goal.returns
returns c = let a = c.args in let k = c.loop-n in let i = k.invariant in
    let h = c.hold_bytes in
    let e : c.stand.result ≡ stands_at a.machine (longer (length k.rest.now) k.f) = c.stand.ensures ∙ ap (stands_at a.machine) c.lengthen.ensures in
    let d = left-done a.register.now (fed a.register.now (lent a.feed a.line.now a.staging.now) a.bytes.now) a.machine (a.feed.at + length a.bytes.now) a.feed.fault k.f k.line k.staging k.rest.now i.0 (omega (arith, i.1, c.loop-n-test.false)) h.new.line h.ensures c.stand.result e in
    record { is = d.0; counted = (d.1, d.2, d.3) }
