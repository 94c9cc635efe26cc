-- What is claimed of the rules of this crate, for any lists, widths and numbers. Assumes nothing.
use Rattle.std.specs.Prelude.{◌≡◌, true, List, ℕ, ◌+◌, ◌-◌, ◌*◌, ◌^◌, ◌≤◌, ◌<◌, ltb, length, drop, replicate}
use Rattle.lists.specs.Each.{Bytes}
use Rattle.lists.specs.Text.{same}
use Rattle.lists.specs.Part.{part, over}
use Rattle.lists.specs.Rows.{rows_of, store, Wide}
use Rattle.lists.specs.BigEndian.{number, spelled, precedes}

-- `same` says true of two lists exactly where they are equal
abbrev pub SameIsEqual : Type 0
SameIsEqual = (a b : List ℕ) → (same a b ≡ true → a ≡ b) × (a ≡ b → same a b ≡ true)

-- what is written where it fits is read back
abbrev pub WrittenIsRead : Type 0
WrittenIsRead = (at : ℕ) (vs d : List ℕ) → at + length vs ≤ length d → part at (length vs) (over at vs d) ≡ vs

-- a write keeps the length, and each part in front of it and behind it
abbrev pub WriteKeepsRest : Type 0
WriteKeepsRest =
    (at : ℕ) (vs d : List ℕ) →
    (length (over at vs d) ≡ length d)
    × ((p n : ℕ) → p + n ≤ at → part p n (over at vs d) ≡ part p n d)
    × ((p n : ℕ) → at + length vs ≤ p → part p n (over at vs d) ≡ part p n d)

-- a number in w bytes is w bytes
abbrev pub SpelledIsBytes : Type 0
SpelledIsBytes = (w v : ℕ) → (length (spelled w v) ≡ w) × Bytes (spelled w v)

-- a number that fits into w bytes, spelled in w bytes, is spelled right
abbrev pub NumberOfSpelled : Type 0
NumberOfSpelled = (w v : ℕ) → v < 256 ^ w → number (spelled w v) ≡ v

-- bytes are the spelling of their number, which fits into as many bytes
abbrev pub SpelledOfNumber : Type 0
SpelledOfNumber = (l : List ℕ) → Bytes l → (spelled (length l) (number l) ≡ l) × (number l < 256 ^ length l)

-- between as many bytes, byte order is the order of the numbers
abbrev pub ByteOrder : Type 0
ByteOrder = (l m : List ℕ) → length l ≡ length m → Bytes l → Bytes m → precedes l m ≡ ltb (number l) (number m)

-- between as many bytes, equal numbers have equal bytes
abbrev pub NumberTellsBytes : Type 0
NumberTellsBytes = (l m : List ℕ) → length l ≡ length m → Bytes l → Bytes m → number l ≡ number m → l ≡ m

-- rows that fit are read back from where they are stored
abbrev pub StoredRowsAreRead : Type 0
StoredRowsAreRead = (w n : ℕ) (rs : List (List ℕ)) (t : List ℕ) → Wide w rs → length rs * w ≤ length t → rows_of w (length rs) (store w n rs t) ≡ rs

-- rows that are stored as they were change nothing
abbrev pub StoredAgainIsSame : Type 0
StoredAgainIsSame = (w n : ℕ) (t : List ℕ) → store w n (rows_of w n t) t ≡ t

-- where rows have gone, the bytes are zero
abbrev pub GoneRowsAreZero : Type 0
GoneRowsAreZero =
    (w n : ℕ) (rs : List (List ℕ)) (t : List ℕ) →
    Wide w rs →
    length rs ≤ n →
    n * w ≤ length t →
    part (length rs * w) ((n - length rs) * w) (store w n rs t) ≡ replicate ((n - length rs) * w) 0

-- storing rows keeps the length, and what stands behind the old rows and the new
abbrev pub StoreKeepsRest : Type 0
StoreKeepsRest =
    (w n : ℕ) (rs : List (List ℕ)) (t : List ℕ) →
    (length (store w n rs t) ≡ length t)
    × (Wide w rs → (m : ℕ) → n ≤ m → length rs ≤ m → drop (m * w) (store w n rs t) ≡ drop (m * w) t)

-- all of these
abbrev pub All : Type 0
All =
    SameIsEqual
    × WrittenIsRead
    × WriteKeepsRest
    × SpelledIsBytes
    × NumberOfSpelled
    × SpelledOfNumber
    × ByteOrder
    × NumberTellsBytes
    × StoredRowsAreRead
    × StoredAgainIsSame
    × GoneRowsAreZero
    × StoreKeepsRest
