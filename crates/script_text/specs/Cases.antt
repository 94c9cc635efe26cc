-- Small lines, by computation. Assumes nothing.
use Rattle.std.specs.Prelude.{◌≡◌, refl, [], ◌∷◌, ◌++◌, ◌+◌, ◌*◌}
use Rattle.lists.specs.Text.{bytes}
use Rattle.lists.specs.Part.{over, onto}
use Rattle.script_text.specs.Rules.{is_blank, run_in, from_word, word_from, word_at, leading_from, hex_digit, place_behind, appended}

-- blanks in front, between and behind, a CR at the end
abbrev Words : Type 0
Words =
    (word_at 0 (bytes "  OPEN  a b") ≡ bytes "OPEN")
    × (word_at 2 (bytes "  OPEN  a b" ++ 13 ∷ []) ≡ bytes "b")
    × (word_at 3 (bytes "  OPEN  a b" ++ 13 ∷ []) ≡ [])

words-case : Words
unfolding is_blank run_in from_word word_from word_at
words-case = (refl, refl, refl)

abbrev Numbers : Type 0
Numbers = (leading_from 0 (bytes "120 7") ≡ 120) × (leading_from 0 (bytes "x7") ≡ 0) × (leading_from 0 (bytes "123456789012") ≡ 123456789012)

numbers-case : Numbers
unfolding leading_from
numbers-case = (refl, refl, refl)

hex-case : (hex_digit 51 * 16 + hex_digit 102 ≡ 63) × (hex_digit 70 ≡ 15)
hex-case = (refl, refl)

-- bytes that fit, and bytes that do not
append-case : (appended 1 (bytes "xy") (bytes "abc") ≡ bytes "axy") × (appended 2 (bytes "xy") (bytes "abc") ≡ bytes "abc") × (place_behind 2 (bytes "xy") (bytes "abc") ≡ 2)
unfolding appended place_behind over onto
append-case = (refl, refl, refl)
