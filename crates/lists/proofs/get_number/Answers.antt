use Rattle.std.proofs.Common.{ℕ, ◌-◌, ◌+◌, sym, ap, ◌∙◌, arith}
use lib.ListN.{take, drop, length-take, length-drop}
use lib.Seq.{take_all}
use Rattle.lists.specs.BigEndian.{number}
use Rattle.lists.proofs.EachLaws.{bytes-lent}
use Rattle.lists.proofs.PartLaws.{part-is}
use Rattle.lists.proofs.BigEndianLaws.{number-nil}
use Rattle.lists.proofs.NumberTurnLaws.{read-next, read-room}
use Rattle.lists.proofs.get_number.Goals as goal

pub loop-byte-init : goal.loop-byte-init
loop-byte-init c = (omega arith, sym number-nil)

pub overflow_mul-n : goal.overflow_mul-n
overflow_mul-n c =
    let l = c.loop-byte in
    let a = c.args in
    omega (arith, read-room l.byte-index l.n _ l.invariant.1 (bytes-lent a.at (a.at + a.width - a.at) a.bytes.now (λ i. omega (arith, c.type_inv.bytes i))) c.loop-byte-test.true (simp (length-take, length-drop) (omega arith)))

pub overflow_add-n : goal.overflow_add-n
overflow_add-n c =
    let l = c.loop-byte in
    let a = c.args in
    omega (arith, read-room l.byte-index l.n _ l.invariant.1 (bytes-lent a.at (a.at + a.width - a.at) a.bytes.now (λ i. omega (arith, c.type_inv.bytes i))) c.loop-byte-test.true (simp (length-take, length-drop) (omega arith)))

pub loop-byte-preserved : goal.loop-byte-preserved
loop-byte-preserved c = (omega arith, read-next c.loop-byte.byte-index c.loop-byte.n _ c.loop-byte.invariant.1 (omega arith))

pub returns : goal.returns
returns c =
    let a = c.args in
    c.loop-byte.invariant.1
    ∙ ap number (take_all _ _ c.loop-byte-test.false ∙ ap (λ (n : ℕ). take n (drop a.at a.bytes.now)) (omega arith) ∙ sym (part-is a.at a.width a.bytes.now))
