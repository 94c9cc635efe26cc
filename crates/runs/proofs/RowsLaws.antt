-- The rows of a plan: sorted, whole, in range; and rows that are stored. Assumes nothing.
use mathlib.Core.Path.{◌≡◌, refl, sym, ap, ◌∙◌}
use mathlib.Core.Bool.{true}
use mathlib.Core.List.{List, [], ◌∷◌, ◌++◌}
use Prim.Native.Nat.{ℕ, ◌≤◌}
use native.Mathlib.Nat.{zero-add}
use native.Mathlib.Omega.{arith}
use lib.ListN.{length, length-append}
use Rattle.lists.specs.Each.{Each}
use Rattle.lists.specs.Rows.{rows_of, Wide, store}
use Rattle.lists.proofs.LogicLaws.{and-pass}
use Rattle.lists.proofs.PartLaws.{part-part}
use Rattle.lists.proofs.StoreLaws.{rows_of-store}
use Rattle.passage.specs.Layout.{key_wide, body_wide, row_wide, key_of}
use Rattle.passage.specs.Ranges.{plan_in_range, row_in_range}
use Rattle.passage.proofs.PlanLaws.{body-made, plan-row}
use Rattle.keys.specs.Keys.{cmp}
use Rattle.keys.specs.Sorted.{is_less, rises_from, sorted_rows}
use Rattle.keys.specs.Replay.{taken_all}
use Rattle.table.specs.Rules.{table_room, table_sound}
use Rattle.table.proofs.SoundLaws.{each-range, room-holds, sound-stored}
use Rattle.update.specs.Rule.{row_rule}
use Rattle.book.specs.Rules.{plan_row, plan_rows}
use Rattle.runs.proofs.LogLaws.{each-so}

-- a plan passage's body
abbrev pub Planned : List ℕ → Type 0
Planned b = (length b ≡ body_wide) × (plan_in_range b ≡ true)

-- a plan: passages by key
abbrev pub IsPlan : List (List ℕ) → Type 0
IsPlan plan = Each Planned plan × (sorted_rows plan ≡ true)

-- a row of the table
abbrev IsRow : List ℕ → Type 0
IsRow r = length r ≡ row_wide

abbrev InRange : List ℕ → Type 0
InRange r = row_in_range r ≡ true

abbrev pub Row : List ℕ → Type 0
Row r = IsRow r × InRange r

-- ---- the plan's rows

plan-key : (b : List ℕ) → length b ≡ body_wide → key_of (plan_row b) ≡ key_of b
unfolding plan_row
plan-key b h = let e = part-part 0 key_wide 0 body_wide (b ++ 0 ∷ []) (omega arith) in rw zero-add at (sym e) ∙ ap key_of (body-made b 0 h)

pub plan-rows : (plan : List (List ℕ)) → Each Planned plan → Each Row (plan_rows plan)
unfolding plan_rows plan_row
plan-rows [] h = tt
plan-rows (b ∷ plan) h = ((let e = length-append b (0 ∷ []) in let f : length b ≡ body_wide = h.0.0 in omega arith, plan-row b h.0.0 h.0.1), plan-rows plan h.1)

rises-plan : (b : List ℕ) (plan : List (List ℕ)) → Planned b → Each Planned plan → rises_from b plan ≡ true → rises_from (plan_row b) (plan_rows plan) ≡ true
unfolding plan_rows rises_from
rises-plan b [] p h e = refl
rises-plan b (c ∷ plan) p h e =
    let f = and-pass (is_less (cmp (key_of b) (key_of c))) (rises_from c plan) e in
    rw (plan-key b p.0, plan-key c h.0.0, f.0) (rises-plan c plan h.0 h.1 f.1)

pub sorted-plan : (plan : List (List ℕ)) → Each Planned plan → sorted_rows plan ≡ true → sorted_rows (plan_rows plan) ≡ true
unfolding plan_rows sorted_rows
sorted-plan [] h e = refl
sorted-plan (b ∷ plan) h e = rises-plan b plan h.0 h.1 e

-- ---- a plan, and updates upon it

abbrev pub replay : List (List ℕ) → List (List ℕ) → List (List ℕ)
replay plan us = taken_all row_rule us (plan_rows plan)

-- ---- rows that are stored where there is room for them

module _ (n : ℕ) (rs : List (List ℕ)) (t : List ℕ) (rows : Each Row rs) where
  all-wide : Wide row_wide rs
  all-wide = each-so (λ r q. q.0) rs rows

  pub rows-stored : sorted_rows rs ≡ true → length rs ≤ table_room t → table_sound (length rs) (store row_wide n rs t) ≡ true
  rows-stored s h = sound-stored n rs t all-wide h (each-range rs (each-so (λ r q. q.1) rs rows)) s

  pub stored-read : length rs ≤ table_room t → rows_of row_wide (length rs) (store row_wide n rs t) ≡ rs
  stored-read h = rows_of-store row_wide n rs t all-wide (room-holds (length rs) t h)
