-- Whether a board is shown. Assumes nothing.
use Rattle.std.specs.Prelude.{ℕ, Bool, ◌&&◌, List, is_ok}
use Rattle.script_text.specs.Rules.{word_at}
use Rattle.table.specs.Rules.{table_sound}
use Rattle.board_show.specs.Ask.{asked, asks_in_range}
use Rattle.board.specs.Rules.{Listing}

-- an answer that lists departures
abbrev pub is_listed : Listing → Bool
is_listed l = is_ok l

-- a board is shown of a sound table, for what is in its range; owner and stop are the first two words behind the line's command
abbrev pub is_shown : List ℕ → ℕ → ℕ → ℕ → ℕ → List ℕ → Bool
is_shown line date second horizon rows table = table_sound rows table && asks_in_range (asked (word_at 1 line) (word_at 2 line) date second horizon)
