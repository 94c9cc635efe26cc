-- What the loops over a dossier's bytes go by, in terms of the machine: how a line begins, and the verdict from a place on.
-- Assumes nothing.
use Rattle.std.specs.Prelude.{ℕ, ◌+◌, ◌≤◌, ◌<◌, Bool, true, false, List, eqb, drop, Result, Ok, Err, ⊤}
use Rattle.lists.specs.Logic.{on}
use Rattle.syntax.specs.declared.Kind.{Kind}
use Rattle.syntax.specs.declared.Kind.TheVariants.{Nothing, Group, Table, Rows}
use Rattle.syntax.specs.declared.State.{State}
use Rattle.syntax.specs.declared.State.TheVariants.{Open, First, Inside}
use Rattle.syntax.specs.Machine.{run}

-- in a field's text: at its first byte, or behind it
abbrev pub in_text : Bool → Kind → State
in_text true k = First k
in_text false k = Inside k

-- what a line behind one of kind k is, that begins with a backslash and b at i
unfoldable pub marked_start : Kind → ℕ → ℕ → Result (Kind × ℕ) ℕ
marked_start Nothing b i = on (eqb b 71) (Ok (Group, i + 2)) (Err (i + 1))
marked_start Group b i = on (eqb b 84) (Ok (Table, i + 2)) (Err (i + 1))
marked_start Table b i = on (eqb b 76) (Ok (Rows, i + 2)) (Err (i + 1))
marked_start Rows b i = on (eqb b 84) (Ok (Table, i + 2)) (Ok (Rows, i))

-- and one that begins with another byte
unfoldable pub plain_start : Kind → ℕ → Result (Kind × ℕ) ℕ
plain_start Nothing i = Err i
plain_start Group i = Err i
plain_start Table i = Err i
plain_start Rows i = Ok (Rows, i)

-- a place behind j, within the length n
abbrev pub Ahead : ℕ → ℕ → Result ℕ ℕ → Type 0
Ahead j n (Ok p) = (j < p) × (p ≤ n)
Ahead j n (Err p) = p ≤ n

abbrev pub Begun : ℕ → ℕ → Result (Kind × ℕ) ℕ → Type 0
Begun j n (Ok (k, p)) = (j ≤ p) × (p ≤ n)
Begun j n (Err p) = p ≤ n

abbrev pub Passed : ℕ → ℕ → Result (Kind × ℕ) ℕ → Type 0
Passed j n (Ok (k, p)) = (j < p) × (p ≤ n)
Passed j n (Err p) = p ≤ n

-- the verdict on d from where the rest of a line of kind k leads
abbrev pub from_line : Kind → List ℕ → Result ℕ ℕ → Result ⊤ ℕ
from_line k d (Ok n) = run (Open k) (drop n d) n
from_line k d (Err x) = Err x

-- the verdict on d from where an escape leads: behind a field's first byte
abbrev pub from_escape : Kind → List ℕ → Result ℕ ℕ → Result ⊤ ℕ
from_escape k d (Ok n) = run (Inside k) (drop n d) n
from_escape k d (Err x) = Err x

-- the verdict on d from the first field of a line, or from the next line's start
abbrev pub from_start : List ℕ → Result (Kind × ℕ) ℕ → Result ⊤ ℕ
from_start d (Ok (k, n)) = run (First k) (drop n d) n
from_start d (Err x) = Err x

abbrev pub from_next : List ℕ → Result (Kind × ℕ) ℕ → Result ⊤ ℕ
from_next d (Ok (k, n)) = run (Open k) (drop n d) n
from_next d (Err x) = Err x
