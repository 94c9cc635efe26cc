-- Numbers as bytes, the most significant first. Assumes nothing.
use Rattle.std.specs.Prelude.{ℕ, zero, suc, ◌+◌, ◌*◌, ◌/◌, ◌%◌, ◌^◌, Bool, true, false, List, [], ◌∷◌, ltb, length}
use Rattle.lists.specs.Logic.{on}

-- the number that the bytes of l spell
unfoldable pub number : List ℕ → ℕ
number [] = 0
number (b ∷ l) = b * 256 ^ length l + number l

-- the last w bytes of the number v
unfoldable pub spelled : ℕ → ℕ → List ℕ
spelled zero v = []
spelled (suc w) v = v / 256 ^ w % 256 ∷ spelled w v

-- whether l stands before m in byte order: the first byte that differs decides, and where one ends first, it stands before
unfoldable pub precedes : List ℕ → List ℕ → Bool
precedes [] [] = false
precedes [] (y ∷ m) = true
precedes (x ∷ l) [] = false
precedes (x ∷ l) (y ∷ m) = on (ltb x y) true (on (ltb y x) false (precedes l m))
