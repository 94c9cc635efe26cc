-- Types whose values are words. Assumes nothing.
use Rattle.std.specs.Prelude.{ℕ, suc, List, [], ◌∷◌, Option, Some, None}
use Prim.Native.String.{String}
use Rattle.lists.specs.Logic.{on}
use Rattle.lists.specs.Text.{bytes, same}

-- the place of f among the words, counted from n
abbrev pub name_from : ℕ → List String → List ℕ → Option ℕ
name_from n [] f = None
name_from n (w ∷ ws) f = on (same f (bytes w)) (Some n) (name_from (suc n) ws f)

-- the words of B, from 0
abbrev pub bits : List String
bits = "0" ∷ "1" ∷ []

-- the words of a status, from 0
abbrev pub statuses : List String
statuses = "PLANNED" ∷ "CANCEL" ∷ "UNKNOWN" ∷ "DRIVING" ∷ "ARRIVED" ∷ "PASSED" ∷ []

-- the words of a JourneyStopType, from 0
abbrev pub stop_types : List String
stop_types = "FIRST" ∷ "INTERMEDIATE" ∷ "LAST" ∷ []

-- the words of a ShowFlexibleTrip, from 1
abbrev pub flexibles : List String
flexibles = "TRUE" ∷ "FALSE" ∷ "REALTIME" ∷ []

-- the words of a yes or no in the 8.5 form, from 0
abbrev pub truths : List String
truths = "false" ∷ "true" ∷ []

-- the words of a ShowCancelledJourney, from 0
abbrev pub showns : List String
showns = "false" ∷ "true" ∷ "message" ∷ []

-- B: 0 or 1
unfoldable pub bit : List ℕ → Option ℕ
bit f = name_from 0 bits f

-- a status, coded 0 to 5
unfoldable pub status : List ℕ → Option ℕ
status f = name_from 0 statuses f

-- a JourneyStopType, coded 0 to 2
unfoldable pub stop_type : List ℕ → Option ℕ
stop_type f = name_from 0 stop_types f

-- a ShowFlexibleTrip, coded 1 to 3
unfoldable pub flexible : List ℕ → Option ℕ
flexible f = name_from 1 flexibles f

-- a yes or no in the 8.5 form, coded as B is
unfoldable pub truth : List ℕ → Option ℕ
truth f = name_from 0 truths f

-- a ShowCancelledJourney, coded 0 to 2
unfoldable pub shown : List ℕ → Option ℕ
shown f = name_from 0 showns f
