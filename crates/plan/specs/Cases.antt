-- Small plans by computation. Assumes nothing.
use Rattle.std.specs.Prelude.{ℕ, ◌≡◌, refl, List, [], ◌∷◌, ◌++◌, length, replicate}
use Rattle.lists.specs.Text.{bytes, same}
use Rattle.lists.specs.Part.{part}
use Rattle.plan.specs.Passes.{plan_body}
use Rattle.plan.specs.Rules.{matches, joined_with, joined}

-- CXX, line A031, journey 1, fortify 0, stop S1, order number 2, level L or M, destination CIOS, 24:10:00, INTERMEDIATE, flexible 0
abbrev pass : ℕ → List ℕ
pass level =
    bytes "CXX" ++ replicate 7 0 ++ bytes "A031" ++ replicate 6 0 ++ 0 ∷ 0 ∷ 0 ∷ 1 ∷ 0 ∷ bytes "S1" ++ replicate 8 0 ++ 0 ∷ 2 ∷ level ∷ replicate 9 0 ++ bytes "CIOS" ++ replicate 6 0
    ++ 1 ∷ 83 ∷ 208 ∷ 1 ∷ 83 ∷ 208 ∷ 1 ∷ 0 ∷ []

-- CXX, level L or M, 2016-03-01
abbrev validity : ℕ → List ℕ
validity level = bytes "CXX" ++ replicate 7 0 ++ level ∷ replicate 9 0 ++ 1 ∷ 51 ∷ 158 ∷ 45 ∷ []

abbrev passage : List ℕ
passage =
    bytes "CXX" ++ replicate 7 0 ++ 1 ∷ 51 ∷ 158 ∷ 45 ∷ bytes "A031" ++ replicate 6 0 ++ 0 ∷ 0 ∷ 0 ∷ 1 ∷ 0 ∷ bytes "S1" ++ replicate 8 0 ++ 0 ∷ 2 ∷ bytes "CIOS" ++ replicate 6 0
    ++ 0 ∷ 0 ∷ 0 ∷ 0 ∷ 0 ∷ 1 ∷ 83 ∷ 208 ∷ 1 ∷ 83 ∷ 208 ∷ 1 ∷ 1 ∷ 0 ∷ 0 ∷ []

pub cases :
    (length (pass 76) ≡ 65)
    × (length (validity 76) ≡ 24)
    × (plan_body (pass 76) (validity 76) ≡ passage)
    × (length passage ≡ 66)
    × (joined (pass 76 ∷ pass 77 ∷ []) (validity 77 ∷ validity 76 ∷ validity 77 ∷ []) ≡ passage ∷ passage ∷ passage ∷ [])
    × (joined (pass 76 ∷ []) (validity 77 ∷ []) ≡ [])
unfolding plan_body part joined joined_with matches same
cases = (refl, refl, refl, refl, refl, refl)
