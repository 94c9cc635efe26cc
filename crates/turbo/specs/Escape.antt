-- Escapes in a field, and the bytes that a field stands for. Assumes nothing.
use Rattle.std.specs.Prelude.{ℕ, Bool, true, false, List, [], ◌∷◌, Option, Some, None, eqb}
use Rattle.std.specs.Option.{unwrap_or}
use Rattle.lists.specs.Logic.{on}

-- the byte that a backslash and c stand for: r CR, n LF, i backslash, p bar; none for any other c
unfoldable pub escaped : ℕ → Option ℕ
escaped c = on (eqb c 114) (Some 13) (on (eqb c 110) (Some 10) (on (eqb c 105) (Some 92) (on (eqb c 112) (Some 124) None)))

-- the bytes that f stands for; the Bool says that a backslash stood before f, and one with no escape's letter behind it stands for 0, which no text holds
abbrev pub decode_after : Bool → List ℕ → List ℕ
decode_after false [] = []
decode_after true [] = 0 ∷ []
decode_after true (c ∷ f) = unwrap_or (escaped c) 0 ∷ decode_after false f
decode_after false (c ∷ f) = on (eqb c 92) (decode_after true f) (c ∷ decode_after false f)

unfoldable pub decode : List ℕ → List ℕ
decode f = decode_after false f
