-- N#: numbers written in digits, and three of them with marks between. Assumes nothing.
use Rattle.std.specs.Prelude.{ℕ, ◌+◌, ◌-◌, ◌*◌, List, [], ◌∷◌, Bool, true, ◌&&◌, length, get_or, take, drop, eqb, Option, Some, None}
use Rattle.lists.specs.Logic.{on, within}

-- n where the test passes, else None
abbrev pub only_if : Bool → Option ℕ → Option ℕ
only_if t n = on t n None

-- what follows from the number, where there is one
abbrev pub and_then : Option ℕ → (ℕ → Option ℕ) → Option ℕ
and_then (Some n) k = k n
and_then None k = None

-- every byte is a digit, 48 to 57
abbrev pub all_digits : List ℕ → Bool
all_digits [] = true
all_digits (x ∷ xs) = within 48 57 x && all_digits xs

-- the number that the digits write after those that wrote n
abbrev pub value_from : ℕ → List ℕ → ℕ
value_from n [] = n
value_from n (x ∷ xs) = value_from (n * 10 + (x - 48)) xs

-- the number that the digits write
abbrev pub value : List ℕ → ℕ
value f = value_from 0 f

-- N#: 1 to most digits, leading zeros allowed
unfoldable pub numeral : ℕ → List ℕ → Option ℕ
numeral most f = only_if (within 1 most (length f) && all_digits f) (Some (value f))

-- three numbers, where each is one
abbrev pub triple_of : Option ℕ → Option ℕ → Option ℕ → Option (ℕ × ℕ × ℕ)
triple_of None b c = None
triple_of (Some x) None c = None
triple_of (Some x) (Some y) None = None
triple_of (Some x) (Some y) (Some z) = Some (x, y, z)

-- w + 6 bytes, with the mark at w and w + 3
abbrev pub has_marks : ℕ → ℕ → List ℕ → Bool
has_marks w mark f = eqb (length f) (w + 6) && eqb (get_or f w 0) mark && eqb (get_or f (w + 3) 0) mark

-- w digits, a mark, two digits, a mark, two digits: YYYY-MM-DD and HH:MM:SS
unfoldable pub triple : ℕ → ℕ → List ℕ → Option (ℕ × ℕ × ℕ)
triple w mark f =
    on (has_marks w mark f)
    (triple_of (numeral w (take w f)) (numeral 2 (take 2 (drop (w + 1) f))) (numeral 2 (take 2 (drop (w + 4) f))))
    None
