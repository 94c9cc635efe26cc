-- Small lines and dossiers, by computation. Assumes nothing.
use Rattle.std.specs.Prelude.{◌≡◌, refl, [], ◌∷◌, ◌++◌, replicate}
use Rattle.lists.specs.Text.{bytes}
use Rattle.turbo_lines.specs.declared.Mark.TheVariants.{Group, Table, Labels, Data}
use Rattle.turbo_lines.specs.Lines.{lines_from, lines, first_long, short_front, mark_of, after_mark}
use Rattle.turbo_lines.specs.Ended.{ended_lines, held_bytes}

pub lines_case : lines (bytes "\\G" ++ 13 ∷ 10 ∷ bytes "\\Ta" ++ 13 ∷ 10 ∷ []) ≡ bytes "\\G" ∷ bytes "\\Ta" ∷ []
unfolding lines_from
lines_case = refl

-- 4,096 bytes with the CR LF, then 4,097
abbrev Long : Type 0
Long =
    (first_long 1 (bytes "\\G" ∷ replicate 4094 65 ∷ replicate 4095 65 ∷ []) ≡ 3)
    × (first_long 1 (replicate 4094 65 ∷ []) ≡ 0)
    × (short_front (bytes "\\G" ∷ replicate 4095 65 ∷ bytes "\\Ta" ∷ []) ≡ bytes "\\G" ∷ [])

pub long : Long
unfolding first_long short_front
long = (refl, refl, refl)

-- the same dossier cut between the second line's CR and LF, behind a line that has begun
pub parts_case :
    (ended_lines [] (bytes "\\G" ++ 13 ∷ 10 ∷ bytes "\\Ta" ++ 13 ∷ []) ≡ bytes "\\G" ∷ [])
    × (held_bytes [] (bytes "\\G" ++ 13 ∷ 10 ∷ bytes "\\Ta" ++ 13 ∷ []) ≡ bytes "\\Ta" ++ 13 ∷ [])
    × (ended_lines (bytes "\\Ta" ++ 13 ∷ []) (10 ∷ bytes "\\L") ≡ bytes "\\Ta" ∷ [])
    × (held_bytes (bytes "\\Ta" ++ 13 ∷ []) (10 ∷ bytes "\\L") ≡ bytes "\\L")
unfolding ended_lines held_bytes
parts_case = (refl, refl, refl, refl)

abbrev Marks : Type 0
Marks =
    (mark_of (bytes "\\GX") ≡ Group)
    × (mark_of (bytes "\\T") ≡ Table)
    × (mark_of (bytes "\\La|b") ≡ Labels)
    × (mark_of (bytes "\\0|b") ≡ Data)
    × (mark_of (bytes "\\i") ≡ Data)
    × (mark_of [] ≡ Data)
    × (after_mark (bytes "\\La|b") ≡ bytes "a|b")
    × (after_mark (bytes "\\0|b") ≡ bytes "\\0|b")

pub marks : Marks
unfolding mark_of after_mark
marks = (refl, refl, refl, refl, refl, refl, refl, refl)
