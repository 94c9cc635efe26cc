-- Open in stages: what a calendar gives with the pass times. Assumes nothing.
use Rattle.std.specs.Prelude.{ℕ, ◌*◌, ◌≤◌, ◌≡◌, List, [], Ok}
use Rattle.columns.specs.declared.Table.TheVariants as Tables
use Rattle.reader.specs.Rules.{reading_of, items_of, data_rows}
use Rattle.reader.specs.Passes.{pass_wide, validity_wide}
use Rattle.plan.specs.Rules.{joined}
use Rattle.calls.specs.declared.Counts.{Counts}
use Rattle.calls.specs.Answers.{Answer, unless_refused}
use Rattle.calls.specs.Leaves.{Leaves}
use Rattle.calls.specs.Open.{room_to_open}
use Rattle.opening_write.specs.inner.Steps.{joined_by}

-- ---- areas, by their length

-- the most pass times of any planning, and the most validities of any calendar
abbrev pub most_passes : ℕ
most_passes = 6553

abbrev pub most_validities : ℕ
most_validities = 5461

-- of a small one
abbrev pub few_passes : ℕ
few_passes = 819

abbrev pub few_validities : ℕ
few_validities = 341

-- k bytes hold the rows of this planning, and of this calendar
abbrev pub HoldsPasses : List ℕ → ℕ → Type 0
HoldsPasses planning k = (n : ℕ) → reading_of Tables.Planning [] 0 planning ≡ Ok n → n * pass_wide ≤ k

abbrev pub HoldsValidities : List ℕ → ℕ → Type 0
HoldsValidities calendar k = (n : ℕ) → reading_of Tables.Calendar [] 0 calendar ≡ Ok n → n * validity_wide ≤ k

-- ---- of a calendar and the pass times ps: the calendar's refusals first

unfoldable pub joined_to : List ℕ → List (List ℕ) → List (List ℕ)
joined_to calendar ps = joined ps (data_rows Tables.Calendar (items_of Tables.Calendar calendar))

unfoldable pub calendar_answer : List ℕ → List (List ℕ) → List ℕ → List ℕ → Answer
calendar_answer calendar ps book table = unless_refused 2 (reading_of Tables.Calendar [] 0 calendar) (room_to_open (joined_to calendar ps) book table)

abbrev pub calendar_leaves : List ℕ → List (List ℕ) → List ℕ → List ℕ → Counts → Leaves
calendar_leaves calendar ps book table c = joined_by (calendar_answer calendar ps book table) (joined_to calendar ps) book table c
