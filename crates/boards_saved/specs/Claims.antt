-- What is certain of a day's file. `proofs/Claims.antt` proves `All`. Assumes nothing.
use Rattle.std.specs.Prelude.{ℕ, ◌*◌, ◌<◌, ◌≡◌, true, List, length}
use Rattle.boards_saved.specs.declared.Saved.TheVariants.{Day}
use Rattle.boards_saved.specs.Saved.{file_of, parts_sound, day_in, register_in, book_in, table_in}

-- what was saved of a sound day is loaded as it was
abbrev pub LoadedAsSaved : Type 0
LoadedAsSaved =
    (register book table : List ℕ) (rows : ℕ)
    → length register < 4294967296
    → length book < 4294967296
    → rows < 4294967296
    → length table ≡ rows * 67
    → parts_sound register book (length book) table rows ≡ true
    → (day_in (file_of register book table rows) ≡ Day (length register) (length book) rows)
    × (register_in (file_of register book table rows) ≡ register)
    × (book_in (file_of register book table rows) ≡ book)
    × (table_in (file_of register book table rows) ≡ table)

-- all of these
abbrev pub All : Type 0
All = LoadedAsSaved
