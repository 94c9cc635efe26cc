-- Small dossiers and their verdicts, by computation. Assumes nothing.
use Rattle.std.specs.Prelude.{ℕ, ◌≡◌, refl, List, [], ◌∷◌, ◌++◌, Ok, Err}
use Rattle.lists.specs.Text.{bytes}
use Rattle.syntax.specs.Machine.{field_step, escape_step, first_escape_step, null_step, return_step, start_step, mark_step, step, accepting, run, fault}

-- the lines, each with its line end
abbrev crlf : List ℕ
crlf = 13 ∷ 10 ∷ []

-- P4's second half: `\x` faults, at the x
pub P4 : fault (bytes "\\G\\x" ++ crlf) ≡ Err 3
unfolding field_step escape_step first_escape_step null_step return_step start_step mark_step step accepting run fault
P4 = refl

-- P10: no bytes at all
pub P10 : fault [] ≡ Err 0
unfolding accepting run fault
P10 = refl

-- P11: a group line alone
pub P11 : fault (bytes "\\G" ++ crlf) ≡ Ok tt
unfolding field_step escape_step first_escape_step null_step return_step start_step mark_step step accepting run fault
P11 = refl

abbrev Others : Type 0
Others =
    -- the bytes end early: behind CR, behind a table line
    (fault (bytes "\\G" ++ 13 ∷ []) ≡ Err 3)
    × (fault (bytes "\\G" ++ crlf ++ bytes "\\T" ++ crlf) ≡ Err 8)
    -- each escape
    × (fault (bytes "\\Ga\\pb\\i\\r\\n" ++ crlf) ≡ Ok tt)
    -- `\0` inside a field, at its start with more behind it, and as a whole field
    × (fault (bytes "\\Ga\\0" ++ crlf) ≡ Err 4)
    × (fault (bytes "\\G\\0a" ++ crlf) ≡ Err 4)
    × (fault (bytes "\\G\\0|\\0" ++ crlf) ≡ Ok tt)
    -- a lone LF, CR with another byte behind it, byte 31
    × (fault (bytes "\\G" ++ 10 ∷ []) ≡ Err 2)
    × (fault (bytes "\\G" ++ 13 ∷ 13 ∷ []) ≡ Err 3)
    × (fault (bytes "\\G" ++ 31 ∷ []) ≡ Err 2)
    -- an empty line before any table; a second group line; data without labels; labels twice
    × (fault (bytes "\\G" ++ crlf ++ crlf) ≡ Err 4)
    × (fault (bytes "\\G" ++ crlf ++ bytes "\\G" ++ crlf) ≡ Err 5)
    × (fault (bytes "\\G" ++ crlf ++ bytes "\\T" ++ crlf ++ bytes "a" ++ crlf) ≡ Err 8)
    × (fault (bytes "\\G" ++ crlf ++ bytes "\\T" ++ crlf ++ bytes "\\L" ++ crlf ++ bytes "\\L" ++ crlf) ≡ Err 13)
    -- an empty data line, a data line with byte 255, another table
    × (fault (bytes "\\G" ++ crlf ++ bytes "\\T" ++ crlf ++ bytes "\\L" ++ crlf ++ crlf ++ bytes "\\0|" ++ 255 ∷ crlf ++ bytes "\\T" ++ crlf ++ bytes "\\L" ++ crlf) ≡ Ok tt)

pub others : Others
unfolding field_step escape_step first_escape_step null_step return_step start_step mark_step step accepting run fault
others = (refl, refl, refl, refl, refl, refl, refl, refl, refl, refl, refl, refl, refl, refl)
