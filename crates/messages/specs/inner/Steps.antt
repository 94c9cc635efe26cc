-- Message in stages: room for its rows, and what its rows leave once its dossier is read. Assumes nothing.
use Rattle.std.specs.Prelude.{ℕ, ◌+◌, ◌*◌, ◌≤◌, List, length}
use Rattle.passage.specs.Layout.{body_wide}
use Rattle.calls.specs.declared.Counts.{Counts}
use Rattle.calls.specs.Leaves.{Leaves}
use Rattle.calls.specs.Message.{room_for, taken_by}
use Rattle.messages_take.specs.inner.Fitting.{most_updates}

-- the most rows of a short dossier
abbrev pub few_updates : ℕ
few_updates = 303

-- k bytes hold the rows of this dossier, by how many it can have
abbrev pub HoldsRows : List ℕ → ℕ → Type 0
HoldsRows dossier k = (n : ℕ) → n ≤ most_updates → n * 27 ≤ length dossier + 2 → n * body_wide ≤ k

-- 7, 8 or acceptance of these bodies, and what it leaves
unfoldable pub taken_leaves : List (List ℕ) → ℕ → List ℕ → List ℕ → Counts → Leaves
taken_leaves bodies sender book table c = taken_by (room_for bodies book table c) bodies sender book table c
