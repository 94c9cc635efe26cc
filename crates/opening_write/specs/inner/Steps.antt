-- The last steps of open: the bodies in their order, and what is left of them. Assumes nothing.
use Rattle.std.specs.Prelude.{ℕ, ◌*◌, ◌/◌, List, [], map}
use Rattle.lists.specs.Part.{part}
use Rattle.passage.specs.Layout.{body_wide}
use Rattle.keys.specs.Sorted.{put_all}
use Rattle.book.specs.Entries.{plan_wide}
use Rattle.book.specs.Rules.{most_bytes}
use Rattle.calls.specs.Answers.{Answer}
use Rattle.calls.specs.declared.Counts.{Counts}
use Rattle.calls.specs.Leaves.{Leaves}
use Rattle.calls.specs.Open.{room_to_open, opened_by}

-- as many plan entries as a book has room for
abbrev pub most_plans : ℕ
most_plans = most_bytes / plan_wide

-- the bodies at these places of s
unfoldable pub bodies_at : List ℕ → List ℕ → List (List ℕ)
bodies_at s js = map (λ (j : ℕ). part (j * body_wide) body_wide s) js

-- what an answer leaves of bodies that joined: by key they are the plan
abbrev pub joined_by : Answer → List (List ℕ) → List ℕ → List ℕ → Counts → Leaves
joined_by answer bodies book table c = opened_by answer (put_all bodies []) book table c

-- 7, 9, 8 or acceptance of them, and what it leaves
abbrev pub opened_leaves : List (List ℕ) → List ℕ → List ℕ → Counts → Leaves
opened_leaves bodies book table c = joined_by (room_to_open bodies book table) bodies book table c
