-- A dossier in parts, from its beginning to its end. Feeding is lent neither book nor table, so before the end neither changes. Assumes nothing.
use Rattle.std.specs.Prelude.{ℕ, List, [], ◌∷◌, take}
use Rattle.lists.specs.Logic.{on}
use Rattle.syntax.specs.Machine.{fault}
use Rattle.turbo_lines.specs.Lines.{short_front}
use Rattle.reader.specs.Items.{outside, items}
use Rattle.reader.specs.Rules.{largest, faults, fault_place}
use Rattle.reader.specs.Staging.{rows_up_to}
use Rattle.feeds.specs.Kept.{begun_by}
use Rattle.feeds.specs.Feeding.{Feeding, feed_leaves}
use Rattle.turbo_lines.specs.Ended.{ended_lines}
use Rattle.calls.specs.Message.{message_table}

-- what is lent while parts come: the numbers, the unfinished line, the staging area
pub record Lent : Type 0 where
  pub kept : List ℕ
  pub line : List ℕ
  pub staging : List ℕ

abbrev pub lent : List ℕ → List ℕ → List ℕ → Lent
lent kept line staging = record { kept = kept; line = line; staging = staging }

-- as a part leaves it
abbrev pub lent_after : Feeding → Lent
lent_after f = lent f.kept f.line f.staging

-- the parts are fed one after the other, and nobody else writes
unfoldable pub fed_parts : List ℕ → Lent → List (List ℕ) → Lent
fed_parts register m [] = m
fed_parts register m (p ∷ ps) = fed_parts register (lent_after (feed_leaves p register m.staging m.line m.kept)) ps

-- from the beginning, whatever stood in the line
abbrev pub fed_from : List ℕ → ℕ → ℕ → List ℕ → List ℕ → List (List ℕ) → Lent
fed_from register sender form line staging parts = fed_parts register (lent (begun_by sender form) line staging) parts

-- ---- what is staged

-- of the first 65,536 bytes those before the first at fault; all of them where only the end is wanting
unfoldable pub valid_front : List ℕ → List ℕ
valid_front d = let w = take largest d in on (faults (fault w)) (take (fault_place (fault w)) w) w

-- the rows that the lines that end in them give in this form, an unknown one being read as the old, before the first line at fault and before the first that is too long
unfoldable pub rows_before : List ℕ → ℕ → ℕ → List ℕ → List (List ℕ)
rows_before register sender form d = rows_up_to (message_table form) register sender (items (message_table form) outside 1 (short_front (ended_lines [] (valid_front d))))
