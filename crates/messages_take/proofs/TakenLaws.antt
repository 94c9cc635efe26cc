-- The laws that the row rule owes to replays, and whole rows after many updates. Assumes nothing.
use mathlib.Core.Path.{◌≡◌}
use mathlib.Core.List.{List, []}
use mathlib.Core.Logic.{◌⊎◌}
use Prim.Native.Nat.{ℕ}
use lib.ListN.{length}
use Rattle.lists.specs.Rows.{Wide}
use Rattle.passage.specs.Layout.{body_wide, row_wide, key_of}
use Rattle.keys.specs.Replay.{taken_all}
use Rattle.keys.proofs.ReplayLaws.{RowOf, each-taken_all}
use Rattle.update.specs.Rule.{row_rule}
use Rattle.update.proofs.RuleLaws.{rule-key, rule-wide}

abbrev pub IsBody : List ℕ → Type 0
IsBody u = length u ≡ body_wide

abbrev pub IsRow : List ℕ → Type 0
IsRow r = length r ≡ row_wide

-- of none, or of a row with the update's key, a row with that key
pub keeps : (held u : List ℕ) → IsBody u → RowOf (key_of u) held → key_of (row_rule held u) ≡ key_of u
keeps held u w h = rule-key held u w

-- of none, or of a whole row, a whole row
pub whole : (held u : List ℕ) → IsBody u → (held ≡ []) ⊎ IsRow held → IsRow (row_rule held u)
whole held u w h = rule-wide held u w

pub all-wide : (us rs : List (List ℕ)) → Wide body_wide us → Wide row_wide rs → Wide row_wide (taken_all row_rule us rs)
all-wide = each-taken_all row_rule IsBody IsRow whole
