-- Words, numbers that a text begins with, hexadecimal digits, and bytes put behind others. Parts go by `take` and `drop`, lines by turbo's `until` and `past`. Assumes nothing.
use Rattle.std.specs.Prelude.{ℕ, zero, suc, ◌+◌, ◌-◌, ◌*◌, ◌/◌, ◌%◌, Bool, true, false, not, ◌||◌, List, [], ◌∷◌, eqb, leb, length, take, drop}
use Rattle.lists.specs.Logic.{on, within}
use Rattle.lists.specs.Part.{over}

-- tab, CR, space
unfoldable pub is_blank : ℕ → Bool
is_blank b = eqb b 9 || (eqb b 13 || eqb b 32)

-- b is a blank; or, with false, it is none
abbrev pub is_kind : Bool → ℕ → Bool
is_kind true b = is_blank b
is_kind false b = not (is_blank b)

-- how many bytes l begins with that are blanks; or, with false, that are none
unfoldable pub run_in : Bool → List ℕ → ℕ
run_in t [] = 0
run_in t (b ∷ l) = on (is_kind t b) (suc (run_in t l)) 0

-- l from its first word on
unfoldable pub from_word : List ℕ → List ℕ
from_word l = drop (run_in true l) l

-- word k of t, which begins with word 0
unfoldable pub word_from : ℕ → List ℕ → List ℕ
word_from zero t = take (run_in false t) t
word_from (suc k) t = word_from k (from_word (drop (run_in false t) t))

-- word k of a line, from 0; nothing where it has fewer
unfoldable pub word_at : ℕ → List ℕ → List ℕ
word_at k line = word_from k (from_word line)

-- the number that the digits write which l begins with, after those that wrote n; of twelve digits or more the last eleven stay
unfoldable pub leading_from : ℕ → List ℕ → ℕ
leading_from n [] = n
leading_from n (b ∷ l) = on (within 48 57 b) (leading_from (n % 100000000000 * 10 + (b - 48)) l) n

-- what a hexadecimal digit stands for, in either case
abbrev pub hex_digit : ℕ → ℕ
hex_digit b = (b % 16 + b / 64 * 9) % 16

-- b fits into s from n on
abbrev pub fits : ℕ → List ℕ → List ℕ → Bool
fits n b s = leb (n + length b) (length s)

-- the place behind b, where it fits
unfoldable pub place_behind : ℕ → List ℕ → List ℕ → ℕ
place_behind n b s = on (fits n b s) (n + length b) n

-- s with b from n on, where it fits
unfoldable pub appended : ℕ → List ℕ → List ℕ → List ℕ
appended n b s = on (fits n b s) (over n b s) s
