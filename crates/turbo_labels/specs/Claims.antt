-- What is certain of the search for column names. `proofs/Claims.antt` proves `All`. Assumes nothing.
use Rattle.std.specs.Prelude.{ℕ, ◌≤◌, ◌<◌, ◌≡◌, List, [], ◌↔◌, Ok, Err, length, get_or}
use Rattle.turbo.specs.Split.{field_at}
use Rattle.turbo_labels.specs.Columns.{column_of, field_under, repeated, columns_of, most}

-- a place among the columns is the first column with the name
abbrev pub PlaceIsFirst : Type 0
PlaceIsFirst =
    (w : List ℕ) (fs : List (List ℕ)) → column_of w fs < length fs →
    (get_or fs (column_of w fs) [] ≡ w) × ((j : ℕ) → j < column_of w fs → get_or fs j [] ≡ w → ⊥)

-- and the number of columns where none has the name
abbrev pub PlaceIsMissing : Type 0
PlaceIsMissing =
    (w : List ℕ) (fs : List (List ℕ)) →
    (column_of w fs ≤ length fs) × ((column_of w fs ≡ length fs) ↔ ((j : ℕ) → j < length fs → get_or fs j [] ≡ w → ⊥))

-- two columns have the name w
abbrev pub Twice : List ℕ → List (List ℕ) → Type 0
Twice w fs = (j : ℕ) × (k : ℕ) × (j < k) × (k < length fs) × (get_or fs j [] ≡ w) × (get_or fs k [] ≡ w)

-- the search ends at a second find exactly where some wanted name stands twice
abbrev pub SecondFind : Type 0
SecondFind =
    (ws fs : List (List ℕ)) → (columns_of ws fs ≡ Err repeated) ↔ ((i : ℕ) × (i < length ws) × Twice (get_or ws i []) fs)

-- else it answers the place of each wanted name
abbrev pub EachPlace : Type 0
EachPlace =
    (ws fs : List (List ℕ)) (places : List ℕ) → length ws ≤ most → columns_of ws fs ≡ Ok places →
    (i : ℕ) → i < length ws → get_or places i 0 ≡ column_of (get_or ws i []) fs

-- a field that is looked up by its column's name, where that stands once, is the field in that column and no neighbour's; where the name is missing it has no bytes
abbrev pub LookupIsByName : Type 0
LookupIsByName =
    (line w : List ℕ) (fs : List (List ℕ)) →
    ((j : ℕ) → j < length fs → get_or fs j [] ≡ w → (Twice w fs → ⊥) → field_under (column_of w fs) (length fs) line ≡ field_at j line)
    × (((j : ℕ) → j < length fs → get_or fs j [] ≡ w → ⊥) → field_under (column_of w fs) (length fs) line ≡ [])

abbrev pub All : Type 0
All = PlaceIsFirst × PlaceIsMissing × SecondFind × EachPlace × LookupIsByName
