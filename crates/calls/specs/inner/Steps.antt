-- What the calls' code has in common: an answer's numbers as a struct, and a dossier's reading as a call goes on from it. Assumes nothing.
use Rattle.std.specs.Prelude.{ℕ, Result, Ok, Err}
use Rattle.reader.specs.Rules.{Reading}
use Rattle.calls.specs.declared.Refusal.{Refusal}
use Rattle.calls.specs.declared.Four.{Four}
use Rattle.calls.specs.Answers.{refusal_of}

-- four numbers as the code has them
abbrev pub four_of : ℕ × ℕ × ℕ × ℕ → Four
four_of n = record { number = n.0; value = n.1; second = n.2; dossier = n.3 }

-- a refusal 2 to 6 or 15 of dossier w, or its rows
abbrev pub passed_of : ℕ → Reading → Result ℕ Refusal
passed_of w (Err f) = Err (refusal_of w f)
passed_of w (Ok n) = Ok n
