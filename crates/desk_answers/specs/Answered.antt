-- The numbers of an answer of a call on the day, 0 where there is none: number, value, second value, which dossier, used, rows. Assumes nothing.
use Rattle.std.specs.Prelude.{ℕ, List, [], ◌∷◌, ◌++◌}
use Rattle.calls.specs.declared.Outcome.{Outcome}
use Rattle.calls.specs.Answers.{numbers}
use Rattle.calls.specs.Leaves.{Leaves}
use Rattle.calls.specs.End.{EndLeaves}

-- document 01's number of an outcome
unfoldable pub outcome_number : Outcome → ℕ
outcome_number o = (numbers o.answer).0

-- number, value, second value, which dossier
abbrev pub four : ℕ × ℕ × ℕ × ℕ → List ℕ
four n = n.0 ∷ n.1 ∷ n.2 ∷ n.3 ∷ []

-- the answer's numbers, then the counts to pass on
unfoldable pub answered : Outcome → List ℕ
answered o = four (numbers o.answer) ++ o.counts.used ∷ o.counts.rows ∷ []

-- all that the face gives back of a call: the number returned, the six numbers, and book and table afterwards
pub record Told : Type 0 where
  pub number : ℕ
  pub answer : List ℕ
  pub book : List ℕ
  pub table : List ℕ

abbrev pub told : ℕ → List ℕ → List ℕ → List ℕ → Told
told number answer book table = record { number = number; answer = answer; book = book; table = table }

-- of what the call leaves
abbrev pub told_of : Leaves → Told
told_of left = told (outcome_number left.outcome) (answered left.outcome) left.book left.table

-- all that it gives back of the end of a dossier in parts: the feed's numbers too
pub record EndTold : Type 0 where
  pub number : ℕ
  pub answer : List ℕ
  pub book : List ℕ
  pub table : List ℕ
  pub feed : List ℕ

abbrev pub end_told : ℕ → List ℕ → List ℕ → List ℕ → List ℕ → EndTold
end_told number answer book table feed = record { number = number; answer = answer; book = book; table = table; feed = feed }

abbrev pub end_told_of : EndLeaves → EndTold
end_told_of left = end_told (outcome_number left.outcome) (answered left.outcome) left.book left.table left.kept
