-- Small label lines, by computation. Assumes nothing.
use Rattle.std.specs.Prelude.{ℕ, ◌≡◌, refl, List, [], ◌∷◌, Ok, Err, take, replicate}
use Rattle.std.specs.Result.{result_unwrap_or}
use Rattle.lists.specs.Text.{bytes, same}
use Rattle.turbo_labels.specs.Columns.{count, column_of, repeated, any_twice, places_from, columns_of}

-- the names a, b and c among the columns b, x, a: b is column 0, a column 2, and c is missing
unfoldable pub found : List ℕ
unfolding columns_of any_twice places_from column_of count same
found = take 3 (result_unwrap_or (columns_of (bytes "a" ∷ bytes "b" ∷ bytes "c" ∷ []) (bytes "b" ∷ bytes "x" ∷ bytes "a" ∷ [])) [])

pub columns_found : found ≡ 2 ∷ 0 ∷ 3 ∷ []
unfolding found columns_of any_twice places_from column_of count same
columns_found = refl

-- an unwanted name may stand twice, a wanted one may not
pub columns_twice :
    (columns_of (bytes "a" ∷ []) (bytes "x" ∷ bytes "a" ∷ bytes "x" ∷ []) ≡ Ok (1 ∷ replicate 19 0))
    × (columns_of (bytes "a" ∷ []) (bytes "a" ∷ bytes "x" ∷ bytes "a" ∷ []) ≡ Err repeated)
unfolding columns_of any_twice places_from column_of count same
columns_twice = (refl, refl)
