-- A part of a dossier, read from any state of the machine on: where its bytes lead, or the first that may not stand there. Assumes nothing.
use Rattle.std.specs.Prelude.{ℕ, ◌+◌, List, [], ◌∷◌, Result, Ok, Err, ⊤}
use Rattle.lists.specs.Logic.{on}
use Rattle.syntax.specs.declared.State.{State}
use Rattle.syntax.specs.Machine.{step, follow, accepting}

-- the bytes from offset i on, read in state s
unfoldable pub scanned : State → List ℕ → ℕ → Result State ℕ
scanned s [] i = Ok s
scanned s (b ∷ bs) i = follow (step s b) (λ t. scanned t bs (i + 1)) (Err i)

-- what comes after a part
abbrev pub and_then : Result State ℕ → (State → Result State ℕ) → Result State ℕ
and_then (Ok t) f = f t
and_then (Err j) f = Err j

-- the same with offsets that begin i later
abbrev pub later : ℕ → Result State ℕ → Result State ℕ
later i (Ok t) = Ok t
later i (Err j) = Err (i + j)

-- the verdict once the bytes end at n
abbrev pub verdict_at : Result State ℕ → ℕ → Result ⊤ ℕ
verdict_at (Ok t) n = on (accepting t) (Ok tt) (Err n)
verdict_at (Err j) n = Err j
