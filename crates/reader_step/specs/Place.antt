-- Where in the line order, and the number that stands for it. Assumes nothing.
use Rattle.std.specs.Prelude.{ℕ, Bool, true, false, eqb, leb, Result, Ok, Err}
use Rattle.lists.specs.Logic.{on}
use Rattle.reader_step.specs.declared.Place.{Place}
use Rattle.reader_step.specs.declared.Place.TheVariants.{Outside, Awaiting, Under, Other}

abbrev pub is_awaiting : Place → Bool
is_awaiting Outside = false
is_awaiting Awaiting = true
is_awaiting Under = false
is_awaiting (Other n) = false

abbrev pub is_under : Place → Bool
is_under Outside = false
is_under Awaiting = false
is_under Under = true
is_under (Other n) = false

-- one of the three that lines lead to
abbrev pub is_known : Place → Bool
is_known Outside = true
is_known Awaiting = true
is_known Under = true
is_known (Other n) = false

abbrev pub place_number : Place → ℕ
place_number Outside = 0
place_number Awaiting = 1
place_number Under = 2
place_number (Other n) = n

-- the place with this number
abbrev pub place_at : ℕ → Place
place_at n = on (eqb n 0) Outside (on (eqb n 1) Awaiting (on (eqb n 2) Under (Other n)))

-- the same, where it is one of the three: another number is told
abbrev pub place_read : ℕ → Result Place ℕ
place_read n = on (leb n 2) (Ok (place_at n)) (Err n)
