-- Small texts and lines, by computation. Assumes nothing.
use Rattle.std.specs.Prelude.{◌≡◌, refl, [], ◌∷◌}
use Rattle.lists.specs.Text.{bytes}
use Rattle.turbo.specs.Escape.{escaped, decode}
use Rattle.turbo.specs.Split.{fields, field_at, tail_at, past}

-- P4's first half: `a\pb\i` is `a|b\`
pub P4 : decode (bytes "a\\pb\\i") ≡ bytes "a|b\\"
unfolding decode escaped
P4 = refl

abbrev Fields : Type 0
Fields =
    (fields [] ≡ [] ∷ [])
    × (fields (bytes "a||b|") ≡ bytes "a" ∷ [] ∷ bytes "b" ∷ [] ∷ [])
    × (field_at 2 (bytes "a||b|") ≡ bytes "b")
    × (field_at 9 (bytes "a||b|") ≡ [])
    × (tail_at 2 (bytes "a||b|") ≡ bytes "b|")

pub fields_cases : Fields
unfolding fields field_at tail_at past
fields_cases = (refl, refl, refl, refl, refl)
