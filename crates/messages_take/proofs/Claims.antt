-- The claims on updates taken one after another, proved. Assumes nothing.
use mathlib.Core.Path.{◌≡◌}
use mathlib.Core.Bool.{true}
use mathlib.Core.List.{List}
use Prim.Native.Nat.{ℕ}
use Rattle.passage.specs.Layout.{key_of}
use Rattle.passage.specs.Ranges.{update_in_range, row_in_range}
use Rattle.keys.proofs.KeyLaws.{cmp-same}
use Rattle.keys.proofs.ReplayLaws.{each_both, sorted-taken_all, length-taken_all-least, length-taken_all-most, get-taken-here, get-taken-other, get-taken_all, each-taken_all}
use Rattle.update.specs.Rule.{row_rule}
use Rattle.update.proofs.InRangeLaws.{rule-in-range}
use Rattle.messages_take.specs.Claims.{ChangesNoOther, StayInRange, All}
use Rattle.messages_take.proofs.TakenLaws.{IsBody, keeps, all-wide}

changes-no-other : ChangesNoOther
changes-no-other u k rs wide n = get-taken-other row_rule IsBody keeps k u rs wide (λ e. n (cmp-same (key_of u) k e))

abbrev InRange : List ℕ → Type 0
InRange u = update_in_range u ≡ true

stay-in-range : StayInRange
stay-in-range us rs wide e h =
    each-taken_all row_rule (λ (u : List ℕ). IsBody u × InRange u) (λ (r : List ℕ). row_in_range r ≡ true) (λ held u p q. rule-in-range held u p.0 p.1 q) us rs
    (each_both IsBody InRange us wide e)
    h

pub claims : All
claims = (
  get-taken-here row_rule IsBody keeps,
  changes-no-other,
  λ us rs k. get-taken_all row_rule IsBody keeps k us rs,
  λ us rs. (sorted-taken_all row_rule us rs, all-wide us rs),
  stay-in-range,
  λ us rs. (length-taken_all-least row_rule us rs, length-taken_all-most row_rule us rs),
)
