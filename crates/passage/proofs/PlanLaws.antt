-- A plan entry's body with heard 0 behind it is a row in range. Assumes nothing.
use mathlib.Core.Path.{◌≡◌, ◌∙◌, sym, ap}
use mathlib.Core.Bool.{true}
use mathlib.Core.List.{List, [], ◌∷◌, ◌++◌}
use mathlib.Core.Logic.{inl}
use Prim.Native.Nat.{ℕ, ◌+◌, ◌≤◌, ◌<◌}
use native.Mathlib.Nat.{zero-add}
use native.Mathlib.Omega.{arith}
use lib.ListN.{length, get_or}
use lib.Seq.{take_at, get_or_at}
use Rattle.lists.specs.Part.{part}
use Rattle.lists.specs.BigEndian.{number}
use Rattle.lists.proofs.PartLaws.{part-part, part_at}
use Rattle.passage.specs.Layout.{stamp_at, stamp_wide, status_at, show_cancelled_at, flexible_at, monitored_at, body_wide, body_of}
use Rattle.passage.specs.Ranges.{common_in_range, plan_in_range, row_in_range}
use Rattle.passage.proofs.FieldLaws.{common-of}
use Rattle.passage.proofs.RangeLaws.{common-facts, facts-common, plan-facts, facts-row}

-- a row made of a body and one byte has the body's fields
module _ (b : List ℕ) (x : ℕ) (wide : length b ≡ body_wide) where
  pub body-made : body_of (b ++ x ∷ []) ≡ b
  unfolding part
  body-made = take_at b (x ∷ []) body_wide wide

  pub byte-made : (off : ℕ) → off < body_wide → get_or (b ++ x ∷ []) off 0 ≡ get_or b off 0
  byte-made off h =
      let e = part_at 0 body_wide (b ++ x ∷ []) off h in
      rw zero-add at (sym e) ∙ ap (λ (l : List ℕ). get_or l off 0) body-made

  pub number-made : (off w : ℕ) → off + w ≤ body_wide → number (part off w (b ++ x ∷ [])) ≡ number (part off w b)
  number-made off w h =
      let e = part-part off w 0 body_wide (b ++ x ∷ []) h in
      ap number (rw zero-add at (sym e) ∙ ap (part off w) body-made)

  pub common-made : common_in_range (b ++ x ∷ []) ≡ common_in_range b
  common-made = sym (common-of (b ++ x ∷ [])) ∙ ap common_in_range body-made

  pub heard-made : get_or (b ++ x ∷ []) body_wide 0 ≡ x
  heard-made = get_or_at b x [] 0 body_wide wide

pub plan-row : (b : List ℕ) → length b ≡ body_wide → plan_in_range b ≡ true → row_in_range (b ++ 0 ∷ []) ≡ true
plan-row b wide e =
    let f = plan-facts b e in
    let status = byte-made b 0 wide status_at (omega arith) ∙ f.status in
    let show = byte-made b 0 wide show_cancelled_at (omega arith) ∙ f.show-cancelled in
    let flexible = byte-made b 0 wide flexible_at (omega arith) in
    let monitored = byte-made b 0 wide monitored_at (omega arith) ∙ f.monitored in
    facts-row (b ++ 0 ∷ [])
    record {
      common = common-facts (b ++ 0 ∷ []) (common-made b 0 wide ∙ facts-common b f.common);
      heard = inl (heard-made b 0 wide, number-made b 0 wide stamp_at stamp_wide (omega arith) ∙ f.stamp);
      status = omega arith;
      show-cancelled = omega arith;
      flexible = rw flexible f.flexible;
      monitored = omega arith;
    }
