-- Which passages a board shows. Assumes nothing.
use Rattle.std.specs.Prelude.{ℕ, Bool, not, ◌&&◌, ◌||◌, List, eqb}
use Rattle.lists.specs.Logic.{within}
use Rattle.lists.specs.Text.{same}
use Rattle.clock.specs.declared.ClockSeconds.{ClockSeconds}
use Rattle.clock.specs.Moment.{moment_of}
use Rattle.texts.specs.Texts.{padded}
use Rattle.passage.specs.Layout.{owner_of, stop_of, date_of, fortify_of, departure_of, status_of, stop_type_of, show_cancelled_of, flexible_of, monitored_of, heard_of}
use Rattle.board_show.specs.Ask.{Question, now_of, end_of}

-- the moment at which a passage departs: its operating-day time, joined with the clock through its date
abbrev pub departs : List ℕ → ClockSeconds
departs r = moment_of (date_of r) (record { 0 = departure_of r })

-- the stop test: owner and stop are equal
unfoldable pub at_stop : Question → List ℕ → Bool
at_stop q r = same (owner_of r) (padded q.owner) && same (stop_of r) (padded q.stop)

-- if CANCEL, 1, show cancelled is 1
abbrev pub cancel_shown : List ℕ → Bool
cancel_shown r = not (eqb (status_of r) 1) || eqb (show_cancelled_of r) 1

-- flexible is 0 or 1, or is 3 with monitored 1
abbrev pub flexible_shown : List ℕ → Bool
flexible_shown r = within 0 1 (flexible_of r) || (eqb (flexible_of r) 3 && eqb (monitored_of r) 1)

-- a relief journey, whose fortify number is above 0, runs only once a message has told of it: heard is 1
abbrev pub relief_shown : List ℕ → Bool
relief_shown r = eqb (fortify_of r) 0 || eqb (heard_of r) 1

-- the show rule but for the stop: not LAST, 2; not PASSED, 5; departure from `from` to `till`, both ends included; and the three above
unfoldable pub may_show : ClockSeconds → ClockSeconds → List ℕ → Bool
may_show from till r =
    not (eqb (stop_type_of r) 2) && not (eqb (status_of r) 5) && within from.0 till.0 (departs r).0 && cancel_shown r && flexible_shown r && relief_shown r

-- the show rule
unfoldable pub shows : Question → List ℕ → Bool
shows q r = at_stop q r && may_show (now_of q) (end_of q) r
