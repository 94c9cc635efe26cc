use Rattle.std.proofs.Common.{◌≡◌, ℕ, ◌-◌, ◌+◌, ap, ◌∙◌, arith, length, replicate}
use lib.ListN.{take, drop, length-take, length-drop, length-replicate}
use Rattle.lists.proofs.OverLaws.{over-put_mid}
use Rattle.lists.proofs.clear.Goals as goal

pub returns : goal.returns
returns c =
    let a = c.args in
    let n : length (take (a.at + a.count - a.at) (drop a.at a.bytes.now)) ≡ a.count = simp (length-take, length-drop) (omega arith) in
    let z : c.fill.new.self ≡ replicate a.count 0 = c.fill.ensures.after (λ y h. h) ∙ ap (λ (k : ℕ). replicate k 0) n in
    rw z (over-put_mid a.at _ a.bytes.now (replicate a.count 0) (simp length-replicate (omega arith)) (omega arith))
