use mathlib.Core.Path.{◌≡◌, ap, ◌∙◌}
use mathlib.Core.List.{List}
use Prim.Native.Nat.{ℕ, ◌+◌}
use native.Mathlib.Omega.{arith}
use lib.ListN.{length, set}
use Rattle.lists.specs.Part.{part}
use Rattle.lists.proofs.PartLaws.{length_part}
use Rattle.passage.specs.Layout.{body_wide}
use Rattle.book.proofs.WriteLaws.{lent-part}
use Rattle.opening_write.proofs.WriteLaws.{row_written}
use Rattle.opening_write.proofs.write_row.Goals as goal

pub returns : goal.returns
returns c =
    let a = c.args in
    let l : length (part a.p body_wide a.bodies.now) ≡ body_wide = length_part a.p body_wide a.bodies.now (omega arith) in
    ap (λ (t : List ℕ). set t (a.at + body_wide) 0) c.copy_to.ensures ∙ rw (lent-part a.p body_wide a.bodies.now) (row_written a.at _ a.table.now l)
