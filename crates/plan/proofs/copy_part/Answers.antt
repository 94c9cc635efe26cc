use Prim.Native.Nat.{ℕ, ◌+◌, ◌-◌}
use native.Mathlib.Omega.{arith}
use mathlib.Core.Path.{◌≡◌, sym, ap, ◌∙◌}
use mathlib.Core.List.{List}
use lib.ListN.{take, drop}
use Rattle.lists.specs.Part.{over}
use Rattle.lists.proofs.PartLaws.{part-is}
use Rattle.plan.proofs.copy_part.Goals as goal

pub returns : goal.returns
returns c =
    let a = c.args in
    let e : a.from + a.count - a.from ≡ a.count = omega arith in
    c.copy_to.ensures ∙ ap (λ (l : List ℕ). over a.at l a.out.now) (ap (λ (k : ℕ). take k (drop a.from a.bytes.now)) e ∙ sym (part-is a.from a.count a.bytes.now))
