-- The fields of the row that an update makes. Assumes nothing.
use mathlib.Core.Path.{◌≡◌, sym, ap, ◌∙◌}
use mathlib.Core.List.{List, [], ◌∷◌, ◌++◌}
use mathlib.Core.Logic.{◌≢◌}
use Prim.Native.Nat.{ℕ, ◌+◌, ◌≤◌, ◌<◌}
use native.Mathlib.Nat.{zero-add}
use native.Mathlib.Omega.{arith}
use lib.ListN.{length, get_or, set, length-append, length-set}
use lib.Seq.{get_or-set_same, get_or-set_other}
use Rattle.lists.specs.Part.{part}
use Rattle.lists.specs.BigEndian.{number}
use Rattle.lists.proofs.PartLaws.{part-part}
use Rattle.passage.specs.Layout.{text_wide, key_wide, stamp_wide, time_wide, destination_at, stamp_at, status_at, arrival_at, departure_at, stop_type_at, show_cancelled_at, flexible_at, monitored_at, heard_at, body_wide, row_wide, key_of, destination_of, stamp_of, status_of, arrival_of, departure_of, stop_type_of, show_cancelled_of, flexible_of, monitored_of, heard_of}
use Rattle.passage.proofs.PlanLaws.{body-made, byte-made, heard-made}
use Rattle.update.specs.Moves.{status_after, keeps}
use Rattle.update.specs.Rule.{apply_row, begun, row_rule}
use Rattle.update.proofs.SetLaws.{part-behind-set, part-before-set}

-- ---- the four bytes that do not come from the update as they are, set in a row r

module _ (r : List ℕ) (a b c d : ℕ) where
  abbrev one : List ℕ
  one = set r status_at a

  abbrev two : List ℕ
  two = set one show_cancelled_at b

  abbrev three : List ℕ
  three = set two flexible_at c

  abbrev four : List ℕ
  four = set three monitored_at d

  four-wide : length four ≡ length r
  four-wide = simp length-set

  four-front : (off n : ℕ) → off + n ≤ status_at → part off n four ≡ part off n r
  four-front off n h =
      part-before-set off n monitored_at d three (omega arith)
      ∙ part-before-set off n flexible_at c two (omega arith)
      ∙ part-before-set off n show_cancelled_at b one (omega arith)
      ∙ part-before-set off n status_at a r h

  four-middle : (off n : ℕ) → status_at < off → off + n ≤ show_cancelled_at → part off n four ≡ part off n r
  four-middle off n h k =
      part-before-set off n monitored_at d three (omega arith)
      ∙ part-before-set off n flexible_at c two (omega arith)
      ∙ part-before-set off n show_cancelled_at b one k
      ∙ part-behind-set off n status_at a r h

  -- a byte at none of the four places
  four-other : (i : ℕ) → i ≢ status_at → i ≢ show_cancelled_at → i ≢ flexible_at → i ≢ monitored_at → get_or four i 0 ≡ get_or r i 0
  four-other i h k l m =
      get_or-set_other three monitored_at i d 0 m
      ∙ get_or-set_other two flexible_at i c 0 l
      ∙ get_or-set_other one show_cancelled_at i b 0 k
      ∙ get_or-set_other r status_at i a 0 h

  module _ (wide : length r ≡ row_wide) where
    four-status : status_of four ≡ a
    four-status =
        get_or-set_other three monitored_at status_at d 0 (λ e. omega arith)
        ∙ get_or-set_other two flexible_at status_at c 0 (λ e. omega arith)
        ∙ get_or-set_other one show_cancelled_at status_at b 0 (λ e. omega arith)
        ∙ get_or-set_same r status_at a 0 (omega arith)

    four-show : show_cancelled_of four ≡ b
    four-show =
        get_or-set_other three monitored_at show_cancelled_at d 0 (λ e. omega arith)
        ∙ get_or-set_other two flexible_at show_cancelled_at c 0 (λ e. omega arith)
        ∙ get_or-set_same one show_cancelled_at b 0 (simp length-set (omega arith))

    four-flexible : flexible_of four ≡ c
    four-flexible =
        get_or-set_other three monitored_at flexible_at d 0 (λ e. omega arith) ∙ get_or-set_same two flexible_at c 0 (simp length-set (omega arith))

    four-monitored : monitored_of four ≡ d
    four-monitored = get_or-set_same three monitored_at d 0 (simp length-set (omega arith))

-- ---- the row that the update u makes of the held row h, or of none

module _ (h u : List ℕ) (wide : length u ≡ body_wide) where
  -- all of the update, and heard
  abbrev made : List ℕ
  made = u ++ 1 ∷ []

  made_wide : length made ≡ row_wide
  made_wide = simp length-append (omega arith)

  made-part : (off n : ℕ) → off + n ≤ body_wide → part off n made ≡ part off n u
  made-part off n k =
      let e = part-part off n 0 body_wide made k in
      rw zero-add at (sym e) ∙ ap (part off n) (body-made u 1 wide)

  pub rule-wide : length (row_rule h u) ≡ row_wide
  unfolding row_rule apply_row
  rule-wide = four-wide made _ _ _ _ ∙ made_wide

  pub rule-not-empty : 0 < length (row_rule h u)
  rule-not-empty = omega (arith, rule-wide)

  -- what stands in front of the status, and from there to the optionals, is the update's
  rule-front : (off n : ℕ) → off + n ≤ status_at → part off n (row_rule h u) ≡ part off n u
  unfolding row_rule apply_row
  rule-front off n k = four-front made _ _ _ _ off n k ∙ made-part off n (omega arith)

  rule-middle : (off n : ℕ) → status_at < off → off + n ≤ show_cancelled_at → part off n (row_rule h u) ≡ part off n u
  unfolding row_rule apply_row
  rule-middle off n k l = four-middle made _ _ _ _ off n k l ∙ made-part off n (omega arith)

  pub rule-key : key_of (row_rule h u) ≡ key_of u
  rule-key = rule-front 0 key_wide (omega arith)

  pub rule-destination : destination_of (row_rule h u) ≡ destination_of u
  rule-destination = rule-front destination_at text_wide (omega arith)

  pub rule-stamp : stamp_of (row_rule h u) ≡ stamp_of u
  rule-stamp = ap number (rule-front stamp_at stamp_wide (omega arith))

  pub rule-arrival : arrival_of (row_rule h u) ≡ arrival_of u
  rule-arrival = ap number (rule-middle arrival_at time_wide (omega arith) (omega arith))

  pub rule-departure : departure_of (row_rule h u) ≡ departure_of u
  rule-departure = ap number (rule-middle departure_at time_wide (omega arith) (omega arith))

  pub rule-stop-type : stop_type_of (row_rule h u) ≡ stop_type_of u
  unfolding row_rule apply_row
  rule-stop-type =
      four-other made _ _ _ _ stop_type_at (λ e. omega arith) (λ e. omega arith) (λ e. omega arith) (λ e. omega arith)
      ∙ byte-made u 1 wide stop_type_at (omega arith)

  pub rule-heard : heard_of (row_rule h u) ≡ 1
  unfolding row_rule apply_row
  rule-heard =
      four-other made _ _ _ _ heard_at (λ e. omega arith) (λ e. omega arith) (λ e. omega arith) (λ e. omega arith)
      ∙ heard-made u 1 wide

  pub rule-status : status_of (row_rule h u) ≡ status_after (status_of (begun h)) (status_of u)
  unfolding row_rule apply_row
  rule-status = four-status made _ _ _ _ made_wide

  pub rule-show : show_cancelled_of (row_rule h u) ≡ keeps (show_cancelled_of (begun h)) (show_cancelled_of u)
  unfolding row_rule apply_row
  rule-show = four-show made _ _ _ _ made_wide

  pub rule-flexible : flexible_of (row_rule h u) ≡ keeps (flexible_of (begun h)) (flexible_of u)
  unfolding row_rule apply_row
  rule-flexible = four-flexible made _ _ _ _ made_wide

  pub rule-monitored : monitored_of (row_rule h u) ≡ keeps (monitored_of (begun h)) (monitored_of u)
  unfolding row_rule apply_row
  rule-monitored = four-monitored made _ _ _ _ made_wide
