-- What the loop of a scan goes by: where a turn leads. Assumes nothing.
use Rattle.std.specs.Prelude.{ℕ, ◌+◌, ◌≤◌, ◌<◌, ◌≡◌, List, length, get_or, drop, Result, Ok, Err}
use Rattle.syntax.specs.declared.State.{State}
use Rattle.syntax_scan.specs.Scanned.{scanned}

-- a turn goes on behind i, within the length n
abbrev pub Passed : ℕ → ℕ → Result (State × ℕ) ℕ → Type 0
Passed i n (Ok (t, p)) = (i < p) × (p ≤ n)
Passed i n (Err p) = p < n

-- the scan of d from where a turn leads
abbrev pub from_turn : List ℕ → Result (State × ℕ) ℕ → Result State ℕ
from_turn d (Ok (t, p)) = scanned t (drop p d) p
from_turn d (Err p) = Err p

-- `\0` and a bar stand at i
abbrev pub NullField : List ℕ → ℕ → Type 0
NullField d i = (i + 2 < length d) × (get_or d i 0 ≡ 92) × (get_or d (i + 1) 0 ≡ 48) × (get_or d (i + 2) 0 ≡ 124)
