-- Demand 2: each row of an accepted message changes the passage with its key, and no other. Assumes nothing.
use Prim.Native.Nat.{ℕ, ◌*◌, ◌≤◌}
use mathlib.Core.Path.{◌≡◌, ap, subst, ◌∙◌}
use mathlib.Core.Bool.{true}
use mathlib.Core.List.{List, []}
use mathlib.Core.Logic.{◌⊎◌}
use lib.ListN.{length}
use Rattle.std.specs.Prelude.{Ok}
use Rattle.lists.specs.Each.{Each}
use Rattle.lists.specs.Rows.{rows_of, Wide}
use Rattle.lists.proofs.StoreLaws.{rows_of-store}
use Rattle.lists.proofs.WideLaws.{wide-rows_of}
use Rattle.passage.specs.Layout.{body_wide, row_wide, key_of}
use Rattle.columns.specs.Tables.{form_of}
use Rattle.columns.proofs.FormLaws as Forms
use Rattle.reader.specs.Rules.{items_of, reading_of}
use Rattle.reader.specs.Staging.{rows_up_to}
use Rattle.reader.proofs.AnswerLaws.{accepted-each}
use Rattle.reader.proofs.EachRowLaws.{rows-wide}
use Rattle.keys.specs.Sorted.{get}
use Rattle.keys.specs.Replay.{taken_all, replayed}
use Rattle.keys.proofs.ReplayLaws.{RowOf, each-taken_all, get-taken_all, replayed-skip}
use Rattle.update.specs.Rule.{row_rule}
use Rattle.update.proofs.RuleLaws.{rule-wide, rule-key}
use Rattle.table.specs.Rules.{table_room}
use Rattle.table.proofs.SoundLaws.{room-holds, sound-fits}
use Rattle.calls.specs.declared.Counts.{Counts}
use Rattle.calls.specs.Answers.{is_accepted}
use Rattle.calls.specs.Message.{message_table, message_rows, rows_taken, table_taking, message_answer, taken_by, message_leaves}
use Rattle.calls.specs.Claims.{RowsChangeTheirPassage}
use Rattle.calls.proofs.AcceptedLaws.{passed, sound-parts}

-- ---- the laws that the row rule owes to replays

abbrev pub IsBody : List ℕ → Type 0
IsBody u = length u ≡ body_wide

abbrev pub IsRow : List ℕ → Type 0
IsRow r = length r ≡ row_wide

-- of none, or of a row with the update's key, a row with that key
pub keeps : (held u : List ℕ) → IsBody u → RowOf (key_of u) held → key_of (row_rule held u) ≡ key_of u
keeps held u w h = rule-key held u w

-- of none, or of a whole row, a whole row
pub whole : (held u : List ℕ) → IsBody u → (held ≡ []) ⊎ IsRow held → IsRow (row_rule held u)
whole held u w h = rule-wide held u w

-- bodies taken into whole rows give whole rows
pub taken-wide : (bodies rs : List (List ℕ)) → Wide body_wide bodies → Wide row_wide rs → Wide row_wide (taken_all row_rule bodies rs)
taken-wide = each-taken_all row_rule IsBody IsRow whole

-- and each key's row is the replay of that key
pub taken-get : (k : List ℕ) (bodies rs : List (List ℕ)) → Wide body_wide bodies → get k (taken_all row_rule bodies rs) ≡ replayed row_rule k (get k rs) bodies
taken-get = get-taken_all row_rule IsBody keeps

-- ---- an accepted message

-- the rows of a message that is read are bodies
pub message-wide : (form : ℕ) (register : List ℕ) (sender : ℕ) (dossier : List ℕ) (n : ℕ) → reading_of (message_table form) register sender dossier ≡ Ok n → Wide body_wide (message_rows form dossier)
unfolding message_rows
message-wide form register sender dossier n e =
    accepted-each (message_table form) register sender dossier IsBody
    (subst (λ (w : ℕ). Each (λ (r : List ℕ). length r ≡ w) (rows_up_to (message_table form) register sender (items_of (message_table form) dossier))) (Forms.message-wide (form_of form))
    (rows-wide (message_table form) register sender (items_of (message_table form) dossier)))
    n e

-- the rows that are read back once they are stored
pub taken-rows : (bodies : List (List ℕ)) (table : List ℕ) (n : ℕ) → Wide body_wide bodies → n * row_wide ≤ length table → length (rows_taken bodies table n) ≤ table_room table
    → rows_of row_wide (length (rows_taken bodies table n)) (table_taking bodies table n) ≡ rows_taken bodies table n
unfolding table_taking
taken-rows bodies table n w fits h =
    rows_of-store row_wide n (rows_taken bodies table n) table (taken-wide bodies (rows_of row_wide n table) w (wide-rows_of row_wide n table fits)) (room-holds (length (rows_taken bodies table n)) table h)

module _ (d register book table : List ℕ) (sender form : ℕ) (c : Counts) (e : is_accepted (message_answer d sender form register book table c) ≡ true) where
  abbrev bodies : List (List ℕ)
  bodies = message_rows form d

  are-bodies : Wide body_wide bodies
  are-bodies = let p = passed d register book table sender form c e in message-wide form register sender d p.rows.0 p.rows.1

  -- what the table holds afterwards
  pub rows-after : rows_of row_wide (message_leaves d sender form register book table c).outcome.counts.rows (message_leaves d sender form register book table c).table ≡ rows_taken bodies table c.rows
  unfolding message_leaves taken_by
  rows-after =
      let p = passed d register book table sender form c e in
      let s = sound-parts d register book table sender form c p.sound in
      rw e (taken-rows bodies table c.rows are-bodies (sound-fits c.rows table s.2) p.in_table)

  changed : (k : List ℕ) → get k (rows_taken bodies table c.rows) ≡ replayed row_rule k (get k (rows_of row_wide c.rows table)) bodies
  changed k = taken-get k bodies (rows_of row_wide c.rows table) are-bodies

pub rows-change : RowsChangeTheirPassage
rows-change d register book table sender form c e = (
  λ k. ap (get k) (rows-after d register book table sender form c e) ∙ changed d register book table sender form c e k,
  λ k h.
      ap (get k) (rows-after d register book table sender form c e)
      ∙ changed d register book table sender form c e k
      ∙ replayed-skip row_rule k (get k (rows_of row_wide c.rows table)) (message_rows form d) h,
)
