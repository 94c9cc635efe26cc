use mathlib.Core.Path.{◌≡◌, ap, ◌∙◌}
use mathlib.Core.List.{List}
use Prim.Native.Nat.{ℕ}
use lib.ListN.{replicate}
use Rattle.lists.specs.Part.{over}
use Rattle.texts.proofs.PlainLaws.{over_zeros}
use Rattle.texts.proofs.write_plain.Goals as goal

pub returns : goal.returns
returns c =
    let a = c.args in
    let first = c.copy_to in
    let laid : first.new.elements ≡ over a.at (replicate 10 0) a.row.now = first.ensures in
    c.copy_to-2.ensures
    ∙ ap (λ (d : List ℕ). over a.at a.field.now d) laid
    ∙ over_zeros a.at a.field.now a.row.now c.requires.1
