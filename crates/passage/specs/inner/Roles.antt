-- The four texts of a body, and what a byte may be in its text. Assumes nothing.
use Rattle.std.specs.Prelude.{ℕ, ◌+◌, ◌-◌, Bool, true, not, ◌&&◌, ◌||◌, List, [], ◌∷◌, ◌++◌, eqb, leb, ltb, replicate}
use mir.Val.{bool_byte}
use Rattle.lists.specs.Logic.{within}
use Rattle.passage.specs.Layout.{text_wide, date_wide, journey_wide, order_wide, destination_at, owner_of, line_of, stop_of, destination_of}
use Rattle.passage.specs.Ranges.{padded_text, common_in_range}

-- the roles of a text's n + 2 bytes: 1 the first, 2 one between, 3 the last
abbrev pub text_roles : ℕ → List ℕ
text_roles n = 1 ∷ replicate n 2 ++ 3 ∷ []

-- the texts are tested over so many bytes of a body
abbrev pub roles_wide : ℕ
roles_wide = 64

-- the roles of these bytes: 0 is in no text
abbrev pub roles : List ℕ
roles =
    text_roles 8
    ++ replicate date_wide 0
    ++ text_roles 8
    ++ replicate (journey_wide + 1) 0
    ++ text_roles 8
    ++ replicate order_wide 0
    ++ text_roles 8
    ++ replicate (roles_wide - (destination_at + text_wide)) 0

-- the role of byte i in a text from `from` on
unfoldable pub role_in : ℕ → ℕ → ℕ
role_in from i =
    let inside = leb from i && ltb i (from + text_wide) in
    bool_byte inside + bool_byte (inside && not (eqb i from)) + bool_byte (eqb (i + 1) (from + text_wide))

-- the byte x of this role, with y behind it, breaks its text: it is not of 32 to 126, and first, or not zero, or without zero behind it
unfoldable pub breaks_text : ℕ → ℕ → ℕ → Bool
breaks_text role x y =
    not (within 32 126 x) && (eqb role 1 || not (eqb role 0) && not (eqb x 0) || eqb role 2 && not (eqb y 0))

-- each text of a body is a padded text
unfoldable pub texts_padded : List ℕ → Bool
texts_padded b = padded_text (owner_of b) && padded_text (line_of b) && padded_text (stop_of b) && padded_text (destination_of b)

-- what update, plan entry and row have in common is in range in each of these
unfoldable pub all_common : List (List ℕ) → Bool
all_common [] = true
all_common (b ∷ bs) = common_in_range b && all_common bs
