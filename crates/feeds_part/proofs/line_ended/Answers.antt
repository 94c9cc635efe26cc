use mathlib.Core.Path.{sym, ap}
use native.Mathlib.Omega.{arith}
use Prim.Native.Nat.{◌-◌}
use lib.ListN.{length, take}
use lib.Seq.{length-take-le}
use Rattle.feeds.specs.declared.Feed.{Feed}
use Rattle.feeds_part.proofs.LineLaws.{long-room, skip-room, read-room, join-room, joined-room, text-short, skip-long, skip-over, read-ends, whole-text, joined-text}
use Rattle.feeds_part.proofs.line_ended.Goals as goal

pub lengthen-longer-requires : goal.lengthen-longer-requires
lengthen-longer-requires c = long-room c.args.feed (length c.args.text.now) (omega (arith, c.requires.1)) c.requires.2

pub skip-requires : goal.skip-requires
skip-requires c = let a = c.args in let g = c.lengthen-longer in skip-room a.feed g.result a.text.now g.ensures c.requires.1 c.requires.2

pub returns-then-long-ne0 : goal.returns-then-long-ne0
returns-then-long-ne0 c = let a = c.args in let g = c.lengthen-longer in skip-long a.register.now a.text.now a.feed a.line.now a.staging.now a.line.now g.result g.ensures c.skip.result c.if-long-ne0.true c.skip.ensures

pub skip-requires-then-size-ge4096 : goal.skip-requires-then-size-ge4096
skip-requires-then-size-ge4096 c = let a = c.args in let g = c.lengthen-longer in skip-room a.feed g.result a.text.now g.ensures c.requires.1 c.requires.2

pub returns-then-size-ge4096 : goal.returns-then-size-ge4096
returns-then-size-ge4096 c = let a = c.args in let g = c.lengthen-longer in skip-over a.register.now a.text.now a.feed a.line.now a.staging.now a.line.now g.result g.ensures c.skip-then-size-ge4096.result c.if-long-ne0.false c.if-size-ge4096.true c.skip-then-size-ge4096.ensures

pub read_line-requires : goal.read_line-requires
read_line-requires c = let a = c.args in let g = c.lengthen-longer in read-room a.feed g.result a.text.now g.ensures c.requires.1 c.requires.2

pub returns-then-start-eq0 : goal.returns-then-start-eq0
returns-then-start-eq0 c = let a = c.args in let g = c.lengthen-longer in let r = c.read_line in let few = c.if-size-ge4096.false in
    read-ends a.register.now a.text.now a.feed a.line.now a.staging.now a.line.now g.result g.ensures r.result few c.if-long-ne0.false r.new.staging (take (length a.text.now - 1) a.text.now) r.ensures.feed r.ensures.area
    (whole-text a.feed.size a.text.now a.line.now c.if-start-eq0.true (text-short a.feed g.result (length a.text.now) g.ensures few) c.requires.0)

pub copy_to-requires : goal.copy_to-requires
copy_to-requires c = let a = c.args in let g = c.lengthen-longer in omega (arith, join-room a.feed g.result (length a.text.now) (length a.line.now) g.ensures c.if-size-ge4096.false c.requires.0)

pub slice_bounds-read_line-end : goal.slice_bounds-read_line-end
slice_bounds-read_line-end c = let a = c.args in let g = c.lengthen-longer in let k = c.copy_to in joined-room a.feed g.result a.text.now a.line.now k.new.elements c.if-size-ge4096.false c.requires.0 k.ensures

pub slice_bounds-read_line-end-2 : goal.slice_bounds-read_line-end-2
slice_bounds-read_line-end-2 c = let a = c.args in let g = c.lengthen-longer in let k = c.copy_to in sym (length-take-le _ k.new.elements (joined-room a.feed g.result a.text.now a.line.now k.new.elements c.if-size-ge4096.false c.requires.0 k.ensures))

pub read_line-requires-2 : goal.read_line-requires-2
read_line-requires-2 c = let a = c.args in let g = c.lengthen-longer in read-room a.feed g.result a.text.now g.ensures c.requires.1 c.requires.2

pub returns : goal.returns
returns c = let a = c.args in let g = c.lengthen-longer in let r = c.read_line-2 in let k = c.copy_to in let few = c.if-size-ge4096.false in let size = g.result.size in
    read-ends a.register.now a.text.now a.feed a.line.now a.staging.now k.new.elements g.result g.ensures r.result few c.if-long-ne0.false r.new.staging (take (length (take size k.new.elements) - 1) (take size k.new.elements)) r.ensures.feed r.ensures.area
    (joined-text a.feed.size size a.text.now a.line.now k.new.elements (ap (λ (x : Feed). x.size) g.ensures) few c.requires.0 k.ensures)
