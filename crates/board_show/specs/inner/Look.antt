-- A row, as the code looks at it. Assumes nothing.
use Rattle.std.specs.Prelude.{ℕ, Bool, not, ◌&&◌, ◌||◌, List, eqb, Option, Some, None}
use Rattle.lists.specs.Logic.{on, within}
use Rattle.lists.specs.Text.{same}
use Rattle.clock.specs.declared.ClockSeconds.{ClockSeconds}
use Rattle.passage.specs.Layout.{owner_of, stop_of}
use Rattle.board_show.specs.Show.{departs, may_show}

-- the row is of this owner and this stop, both padded
unfoldable pub is_of : List ℕ → List ℕ → List ℕ → Bool
is_of owner stop r = same (owner_of r) owner && same (stop_of r) stop

-- the show rule of owner and stop as padded texts
unfoldable pub showing : List ℕ → List ℕ → ClockSeconds → ClockSeconds → List ℕ → Bool
showing owner stop from till r = is_of owner stop r && may_show from till r

-- the departure moment of a row that is shown
unfoldable pub shown_at : List ℕ → List ℕ → ClockSeconds → ClockSeconds → List ℕ → Option ClockSeconds
shown_at owner stop from till r = on (showing owner stop from till r) (Some (departs r)) None

-- the show rule but for stop and stop type, over the numbers that it looks at
unfoldable pub may_be : ClockSeconds → ClockSeconds → ClockSeconds → ℕ → ℕ → ℕ → ℕ → ℕ → ℕ → Bool
may_be from till moment status show_cancelled flexible monitored fortify heard =
    not (eqb status 5)
    && within from.0 till.0 moment.0
    && (not (eqb status 1) || eqb show_cancelled 1)
    && (within 0 1 flexible || (eqb flexible 3 && eqb monitored 1))
    && (eqb fortify 0 || eqb heard 1)
