-- Boards of document 01, worked out. Assumes nothing.
use Rattle.std.specs.Prelude.{◌≡◌, refl, Bool, true, false, List, [], ◌∷◌, ◌++◌, ℕ}
use Rattle.lists.specs.BigEndian.{number, spelled}
use Rattle.lists.specs.Part.{part}
use Rattle.lists.specs.Text.{bytes, same}
use Rattle.clock.specs.Date.{days_in}
use Rattle.clock.specs.Moment.{month_start, day_count, moment_of}
use Rattle.texts.specs.Texts.{padded}
use Rattle.board_show.specs.Ask.{asked}
use Rattle.board_show.specs.Show.{departs, at_stop, may_show, shows}
use Rattle.board.specs.Rules.{place_in, list_from, listed}

-- a passage of CXX at S1: fortify number and heard; date and departure; stop type, status, show cancelled, flexible, monitored
abbrev pub passing : ℕ → ℕ → ℕ → ℕ → ℕ → ℕ → ℕ → ℕ → ℕ → List ℕ
passing fortify heard date departure stop_type status show_cancelled flexible monitored =
    padded (bytes "CXX")
    ++ spelled 4 date
    ++ padded (bytes "A031")
    ++ spelled 4 1
    ++ fortify
    ∷ padded (bytes "S1")
    ++ spelled 2 1
    ++ padded (bytes "CIOS")
    ++ spelled 4 0
    ++ status
    ∷ spelled 3 departure
    ++ spelled 3 departure
    ++ stop_type
    ∷ show_cancelled
    ∷ flexible
    ∷ monitored
    ∷ heard
    ∷ []

-- one that the plan alone has told of
abbrev pub passage : ℕ → ℕ → ℕ → ℕ → ℕ → ℕ → ℕ → List ℕ
passage = passing 0 0

-- 24:10:00 on 2016-03-01, 00:05:00 on 2016-03-02, 23:55:00 on 2016-03-01
abbrev pub late : List ℕ
late = passage 20160301 87000 1 0 1 0 0

abbrev pub early : List ℕ
early = passage 20160302 300 1 0 1 0 0

abbrev pub before : List ℕ
before = passage 20160301 86100 1 0 1 0 0

-- shown at S1 of CXX at 23:50:00 on 2016-03-01, for a number of seconds
abbrev pub shown_for : ℕ → List ℕ → Bool
shown_for horizon = shows (asked (bytes "CXX") (bytes "S1") 20160301 85800 horizon)

-- P8: a departure at now + horizon is shown, a second later not
pub at_the_end : shown_for 1200 late ≡ true
unfolding shows at_stop may_show same part number spelled day_count month_start days_in
at_the_end = refl

pub past_the_end : shown_for 1199 late ≡ false
unfolding shows at_stop may_show same part number spelled day_count month_start days_in
past_the_end = refl

-- 25:20:00 on 2017-01-01 is 01:20:00 on 2017-01-02
pub past_midnight : departs (passage 20170101 91200 1 0 1 0 0) ≡ moment_of 20170102 (record { 0 = 4800 })
unfolding part number spelled day_count month_start days_in
past_midnight = refl

-- 23:55 of 2016-03-01, then 00:05 of 2016-03-02, then 24:10 of 2016-03-01, though that is not how they stand
pub by_moment : listed (shown_for 1800) (late ∷ before ∷ early ∷ []) ≡ 1 ∷ 2 ∷ 0 ∷ []
unfolding listed list_from place_in shows at_stop may_show same part number spelled day_count month_start days_in
by_moment = refl

-- of one moment, the earlier place
pub by_place : listed (shown_for 1800) (late ∷ late ∷ []) ≡ 0 ∷ 1 ∷ []
unfolding listed list_from place_in shows at_stop may_show same part number spelled day_count month_start days_in
by_place = refl

-- LAST, PASSED, CANCEL without show cancelled and REALTIME without monitored are not shown; CANCEL and REALTIME with them are
pub the_others :
    listed (shown_for 1800)
    (passage 20160301 87000 2 0 1 0 0
    ∷ passage 20160301 87000 1 5 1 0 0
    ∷ passage 20160301 87000 1 1 0 0 0
    ∷ passage 20160301 87000 1 0 1 3 0
    ∷ passage 20160301 87000 1 0 1 2 1
    ∷ passage 20160301 87000 1 1 1 0 0
    ∷ passage 20160301 87000 1 0 1 3 1
    ∷ [])
    ≡ 5
    ∷ 6
    ∷ []
unfolding listed list_from place_in shows at_stop may_show same part number spelled day_count month_start days_in
the_others = refl

-- a passage with a fortify number above 0 is shown only where it has been heard of
abbrev pub relief : ℕ → ℕ → List ℕ
relief fortify heard = passing fortify heard 20160301 87000 1 0 1 0 0

pub reliefs : listed (shown_for 1800) (relief 0 0 ∷ relief 0 1 ∷ relief 1 0 ∷ relief 1 1 ∷ relief 99 0 ∷ relief 99 1 ∷ []) ≡ 0 ∷ 1 ∷ 3 ∷ 5 ∷ []
unfolding listed list_from place_in shows at_stop may_show same part number spelled day_count month_start days_in
reliefs = refl
