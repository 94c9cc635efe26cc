-- What is certain of words, and of bytes put behind others. `proofs/Claims.antt` proves `All`. Assumes nothing.
use Rattle.std.specs.Prelude.{ℕ, ◌≡◌, false, List, length}
use Rattle.lists.specs.Each.{Each}
use Rattle.script_text.specs.Rules.{is_blank, word_at, appended}

-- no word has a blank in it
abbrev pub NoBlankInWord : Type 0
NoBlankInWord = (k : ℕ) (line : List ℕ) → Each (λ (b : ℕ). is_blank b ≡ false) (word_at k line)

-- what is put behind others keeps the length, and where it does not fit nothing is changed
abbrev pub AppendKeepsLength : Type 0
AppendKeepsLength = (n : ℕ) (b s : List ℕ) → length (appended n b s) ≡ length s

-- all of these
abbrev pub All : Type 0
All = NoBlankInWord × AppendKeepsLength
