-- Worked examples of an answer's numbers. Assumes nothing.
use Rattle.std.specs.Prelude.{◌≡◌, refl, [], ◌∷◌, Ok, Err}
use Rattle.calls.specs.declared.Refusal.TheVariants.{Field, Owner}
use Rattle.calls.specs.Leaves.{counts_of, outcome_of}
use Rattle.desk_answers.specs.Answered.{outcome_number, answered}

-- message 7 is taken: 402 bytes of the book are used now, and 5 rows of the table
message-taken : answered (outcome_of (Ok 7) (counts_of 402 5)) ≡ 0 ∷ 7 ∷ 0 ∷ 0 ∷ 402 ∷ 5 ∷ []
unfolding outcome_number answered
message-taken = refl

-- line 4, column 9 of the calendar is outside its type
calendar-refused : answered (outcome_of (Err (Field 4 9 2)) (counts_of 0 0)) ≡ 5 ∷ 4 ∷ 9 ∷ 2 ∷ 0 ∷ 0 ∷ []
unfolding outcome_number answered
calendar-refused = refl

-- line 4 of a message has an owner that the sender does not send for; the counts are those given
owner-refused : answered (outcome_of (Err (Owner 4)) (counts_of 402 5)) ≡ 6 ∷ 4 ∷ 0 ∷ 0 ∷ 402 ∷ 5 ∷ []
unfolding outcome_number answered
owner-refused = refl
