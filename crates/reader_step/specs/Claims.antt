-- What is claimed of lines that come one by one. Assumes nothing.
use Rattle.std.specs.Prelude.{ℕ, ◌≡◌, List}
use Rattle.columns.specs.declared.Table.{Table}
use Rattle.reader_step.specs.declared.State.{State}
use Rattle.reader_step.specs.Step.{line_step, line_staged}

-- behind a line at fault in its form, whatever comes, that line is kept, no row is counted, and nothing is staged
abbrev pub FirstFaultKept : Type 0
FirstFaultKept =
    (t : Table) (register : List ℕ) (sender : ℕ) (s : State) (l staging : List ℕ) → (s.form ≡ 0 → ⊥)
    → let n = line_step t register sender s l in
    (n.form ≡ s.form) × (n.rows ≡ s.rows) × (line_staged t register sender s l staging ≡ staging)

abbrev pub All : Type 0
All = FirstFaultKept
