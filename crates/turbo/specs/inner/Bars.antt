-- What the count of a line's bars goes by. Assumes nothing.
use Rattle.std.specs.Prelude.{ℕ, Bool, eqb}

abbrev pub is_bar : ℕ → Bool
is_bar b = eqb b 124
