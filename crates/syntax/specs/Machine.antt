-- The dossier's form (000, chapter 3) as a machine that reads a byte at a time.
-- A `Kind` is the kind of line that is being read, or at a line's start the kind of the line before. Labels and data are `Rows`.
-- Assumes nothing.
use Rattle.std.specs.Prelude.{ℕ, ◌+◌, Bool, true, false, List, [], ◌∷◌, eqb, ltb, Option, Some, None, Result, Ok, Err, ⊤}
use Rattle.lists.specs.Logic.{on}
use Rattle.syntax.specs.declared.Kind.{Kind}
use Rattle.syntax.specs.declared.Kind.TheVariants.{Nothing, Group, Table, Rows}
use Rattle.syntax.specs.declared.State.{State}
use Rattle.syntax.specs.declared.State.TheVariants.{Open, Mark, First, Inside, FirstEsc, InsideEsc, Null, Ret}

-- a byte of a field's text: a backslash leads to e, a bar to the next field, CR to the line's end; no other byte below 32
unfoldable pub field_step : State → Kind → ℕ → Option State
field_step e k b = on (eqb b 92) (Some e) (on (eqb b 124) (Some (First k)) (on (eqb b 13) (Some (Ret k)) (on (ltb b 32) None (Some (Inside k)))))

-- after a backslash in a field: i, n, p, r
unfoldable pub escape_step : Kind → ℕ → Option State
escape_step k b = on (eqb b 105) (Some (Inside k)) (on (eqb b 110) (Some (Inside k)) (on (eqb b 112) (Some (Inside k)) (on (eqb b 114) (Some (Inside k)) None)))

-- after a backslash that begins a field: 0 too
unfoldable pub first_escape_step : Kind → ℕ → Option State
first_escape_step k b = on (eqb b 48) (Some (Null k)) (escape_step k b)

-- after a `\0`: the field ends
unfoldable pub null_step : Kind → ℕ → Option State
null_step k b = on (eqb b 124) (Some (First k)) (on (eqb b 13) (Some (Ret k)) None)

-- after CR: LF
unfoldable pub return_step : Kind → ℕ → Option State
return_step k b = on (eqb b 10) (Some (Open k)) None

-- a mark's backslash
abbrev pub slash_step : Kind → ℕ → Option State
slash_step k b = on (eqb b 92) (Some (Mark k)) None

-- at a line's start, k the kind of the line before
unfoldable pub start_step : Kind → ℕ → Option State
start_step Nothing b = slash_step Nothing b
start_step Group b = slash_step Group b
start_step Table b = slash_step Table b
start_step Rows b = field_step (Mark Rows) Rows b

-- after a backslash at a line's start: G first, T after it, L after T, and T or a field's escape after L
unfoldable pub mark_step : Kind → ℕ → Option State
mark_step Nothing b = on (eqb b 71) (Some (First Group)) None
mark_step Group b = on (eqb b 84) (Some (First Table)) None
mark_step Table b = on (eqb b 76) (Some (First Rows)) None
mark_step Rows b = on (eqb b 84) (Some (First Table)) (first_escape_step Rows b)

unfoldable pub step : State → ℕ → Option State
step (Open k) b = start_step k b
step (Mark k) b = mark_step k b
step (First k) b = field_step (FirstEsc k) k b
step (Inside k) b = field_step (InsideEsc k) k b
step (FirstEsc k) b = first_escape_step k b
step (InsideEsc k) b = escape_step k b
step (Null k) b = null_step k b
step (Ret k) b = return_step k b

-- the bytes may end after the group line, a label line or a data line
abbrev pub may_end : Kind → Bool
may_end Nothing = false
may_end Group = true
may_end Table = false
may_end Rows = true

unfoldable pub accepting : State → Bool
accepting (Open k) = may_end k
accepting (Mark k) = false
accepting (First k) = false
accepting (Inside k) = false
accepting (FirstEsc k) = false
accepting (InsideEsc k) = false
accepting (Null k) = false
accepting (Ret k) = false

-- what a step leads to: z where it is bad
abbrev pub follow : {A : Type 0} → Option State → (State → A) → A → A
follow None f z = z
follow (Some t) f z = f t

-- the verdict on the bytes from offset i on, read in state s
unfoldable pub run : State → List ℕ → ℕ → Result ⊤ ℕ
run s [] i = on (accepting s) (Ok tt) (Err i)
run s (b ∷ bs) i = follow (step s b) (λ t. run t bs (i + 1)) (Err i)

-- the verdict on a dossier
unfoldable pub fault : List ℕ → Result ⊤ ℕ
fault d = run (Open Nothing) d 0
