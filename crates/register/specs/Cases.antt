-- The register's rules run on a small example. Assumes nothing.
use Rattle.std.specs.Prelude.{◌≡◌, refl, true, false, List, [], ◌∷◌, ◌++◌, ℕ}
use Rattle.lists.specs.Text.{bytes, same}
use Rattle.lists.specs.Rows.{rows_of}
use Rattle.texts.specs.Texts.{padded}
use Rattle.register.specs.Register.{has_pair, grants, register_sound}

-- a register of sender 3 for CXX and the desk for CXX, and a byte that is no pair
register : List ℕ
register = 3 ∷ padded (bytes "CXX") ++ 0 ∷ padded (bytes "CXX") ++ 4 ∷ []

register-case :
    (grants register 3 (padded (bytes "CXX")) ≡ true)
    × (grants register 3 (padded (bytes "CXY")) ≡ false)
    × (grants register 4 (padded (bytes "CXX")) ≡ false)
    × (grants register 0 (padded (bytes "CXX")) ≡ false)
    × (register_sound register ≡ false)
    × (register_sound [] ≡ true)
unfolding register grants has_pair rows_of same register_sound
register-case = (refl, refl, refl, refl, refl, refl)
