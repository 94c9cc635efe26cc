use mathlib.Core.Path.{ap, ◌∙◌}
use native.Mathlib.Omega.{arith}
use lib.ListN.{take, drop, length-set, length-take, length-drop}
use mathlib.Core.List.{List}
use Prim.Native.Nat.{ℕ, ◌+◌, ◌-◌}
use Rattle.lists.specs.Part.{over}
use Rattle.passage.specs.Layout.{body_wide}
use Rattle.book.specs.Entries.{entry_of}
use Rattle.book.proofs.WriteLaws.{lent-part}
use Rattle.book_write.proofs.WriteLaws.{begun-length, done-length, entry-written}
use Rattle.book_write.proofs.write_entry.Goals as goal

-- the body, as `&s[p..p + passage::BODY_WIDE]` is written out
abbrev lent : ℕ → List ℕ → List ℕ
lent p s = take (p + body_wide - p) (drop p s)

pub put_number-requires : goal.put_number-requires
put_number-requires c = simp length-set (omega arith)

pub bounds-tail-at-2 : goal.bounds-tail-at-2
bounds-tail-at-2 c =
    let a = c.args in
    let l = begun-length a.at a.number a.sender a.tail.now c.put_number.new.bytes c.put_number.ensures in
    omega arith

pub copy_to-requires : goal.copy_to-requires
copy_to-requires c =
    let a = c.args in
    let l = begun-length a.at a.number a.sender a.tail.now c.put_number.new.bytes c.put_number.ensures in
    simp (length-set, length-take, length-drop) (omega arith)

pub shape_of-tail : goal.shape_of-tail
shape_of-tail c =
    let a = c.args in
    done-length a.at a.number a.sender a.tail.now c.put_number.new.bytes c.put_number.ensures (lent a.from a.bodies.now) c.copy_to.new.elements c.copy_to.ensures

pub returns : goal.returns
returns c =
    let a = c.args in
    entry-written a.at a.number a.sender a.tail.now c.put_number.new.bytes c.put_number.ensures (lent a.from a.bodies.now) c.copy_to.new.elements c.copy_to.ensures
    ∙ ap (λ (r : List ℕ). over a.at (entry_of a.number a.sender r) a.tail.now) (lent-part a.from body_wide a.bodies.now)
