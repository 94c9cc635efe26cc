-- The rules run on small examples. Assumes nothing.
use Rattle.std.specs.Prelude.{◌≡◌, refl, true, List, [], ◌∷◌, ℕ}
use Rattle.lists.specs.Text.{bytes, same}
use Rattle.lists.specs.Part.{part, onto, over}
use Rattle.lists.specs.Rows.{rows_of, flat, insert_at, remove_at, store}
use Rattle.lists.specs.BigEndian.{number, spelled, precedes}

same_case : same (bytes "ab") (97 ∷ 98 ∷ []) ≡ true
unfolding same
same_case = refl

part-case : part 1 2 (bytes "abcd") ≡ bytes "bc"
unfolding part
part-case = refl

over-case : over 1 (bytes "xy") (bytes "abcd") ≡ bytes "axyd"
unfolding over onto
over-case = refl

-- a write that reaches past the end is cut off there
clipped-case : over 3 (bytes "xy") (bytes "abcd") ≡ bytes "abcx"
unfolding over onto
clipped-case = refl

number-case : number (1 ∷ 2 ∷ 3 ∷ []) ≡ 66051
unfolding number
number-case = refl

spelled-case : spelled 4 66051 ≡ 0 ∷ 1 ∷ 2 ∷ 3 ∷ []
unfolding spelled
spelled-case = refl

-- of a number too large for the width, the last bytes
low-case : spelled 2 66051 ≡ 2 ∷ 3 ∷ []
unfolding spelled
low-case = refl

precedes-case : precedes (1 ∷ 255 ∷ []) (2 ∷ 0 ∷ []) ≡ true
unfolding precedes
precedes-case = refl

-- two rows of two bytes, and a byte behind them
table : List ℕ
table = bytes "aabb-"

insert-case : store 2 1 (insert_at 0 (bytes "xx") (rows_of 2 1 table)) table ≡ bytes "xxaa-"
unfolding store onto flat rows_of table
insert-case = refl

remove-case : store 2 2 (remove_at 0 (rows_of 2 2 table)) table ≡ 98 ∷ 98 ∷ 0 ∷ 0 ∷ 45 ∷ []
unfolding store onto flat rows_of table
remove-case = refl
