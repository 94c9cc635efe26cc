use mathlib.Core.Path.{sym, ap, ◌∙◌}
use native.Mathlib.Omega.{arith}
use Prim.Native.Nat.{ℕ, ◌+◌, ◌-◌}
use mathlib.Core.List.{List}
use lib.ListN.{length, replicate}
use lib.Seq.{length-take-le}
use Rattle.lists.specs.Part.{over}
use Rattle.feeds.specs.Feed.{no_bytes}
use Rattle.feeds_part.proofs.HeldLaws.{hold-none, hold-is, fit-most}
use Rattle.feeds_part.proofs.LineLaws.{no-bytes}
use Rattle.feeds_part.proofs.hold_bytes.Goals as goal

pub returns-then-size-ge4096 : goal.returns-then-size-ge4096
returns-then-size-ge4096 c = hold-none c.args.size c.args.rest.now c.args.line.now no_bytes (c.requires ∙ sym no-bytes) (omega (arith, c.requires, c.if-size-ge4096.true))

pub slice_bounds-copy_to-end : goal.slice_bounds-copy_to-end
slice_bounds-copy_to-end c = let k = c.smaller-fitting in sym (length-take-le _ c.args.rest.now (fit-most (4096 - c.args.size) (length c.args.rest.now) k.result k.ensures).0)

pub copy_to-requires : goal.copy_to-requires
copy_to-requires c = let k = c.smaller-fitting in let f = fit-most (4096 - c.args.size) (length c.args.rest.now) k.result k.ensures in omega (arith, length-take-le k.result c.args.rest.now f.0, f.1, c.requires, c.if-size-ge4096.false)

pub overflow_add-held : goal.overflow_add-held
overflow_add-held c = let k = c.smaller-fitting in omega (arith, (fit-most (4096 - c.args.size) (length c.args.rest.now) k.result k.ensures).1, c.if-size-ge4096.false)

pub overflow_sub-held : goal.overflow_sub-held
overflow_sub-held c = let k = c.smaller-fitting in omega (arith, (fit-most (4096 - c.args.size) (length c.args.rest.now) k.result k.ensures).1, c.if-size-ge4096.false)

pub clear-requires : goal.clear-requires
clear-requires c = let k = c.smaller-fitting in omega (arith, (fit-most (4096 - c.args.size) (length c.args.rest.now) k.result k.ensures).1, c.if-size-ge4096.false, c.requires, c.copy_to.auto.elements)

pub returns : goal.returns
returns c =
    let k = c.smaller-fitting in
    let n = c.args.size in
    c.clear.ensures
    ∙ ap (λ (l : List ℕ). over (n + k.result) (replicate (4096 - (n + k.result)) 0) l) c.copy_to.ensures
    ∙ hold-is n 4096 c.args.rest.now c.args.line.now c.requires (omega (arith, c.if-size-ge4096.false)) k.result k.ensures
