-- The worked day of the cases: its dossiers line by line, its register, and the calls on it. Assumes nothing.
use Rattle.std.specs.Prelude.{ℕ, ◌+◌, ◌*◌, List, [], ◌∷◌, ◌++◌, map, replicate}
use Prim.Native.String.{String}
use Rattle.lists.specs.Text.{bytes}
use Rattle.passage.specs.Layout.{row_wide, order_of, status_of, show_cancelled_of, flexible_of, monitored_of}
use Rattle.book.specs.Entries.{plan_wide, entry_wide}
use Rattle.board_show.specs.Ask.{asked}
use Rattle.calls.specs.Leaves.{Day, counts_of}
use Rattle.runs.specs.Runs.{Call, Reply, reply_to, opened, day_after}
use Rattle.runs.specs.Claims.{rows_in}

-- ---- dossiers

-- lines, each with its line end
abbrev pub dossier : List (List ℕ) → List ℕ
dossier [] = []
dossier (line ∷ lines) = line ++ 13 ∷ 10 ∷ dossier lines

-- line A031 of CXX, journey 1 with a fortify number, calls at S1 at 24:10:00, as its first call there, on days of level L
abbrev pub planned : String → List ℕ
planned fortify = bytes "CXX|L|A031|1|" ++ bytes fortify ++ bytes "|S1|1|CIOS|24:10:00|24:10:00|INTERMEDIATE"

abbrev pub planning_of : List (List ℕ) → List ℕ
planning_of lines =
    dossier
    (bytes "\\GKV7planning" ∷ bytes "\\TLOCALSERVICEGROUPPASSTIME"
    ∷ bytes "\\LDataOwnerCode|LocalServiceLevelCode|LinePlanningNumber|VehicleJourneyNumber|FortifyOrderNumber|UserStopCode|UserStopOrderNumber|DestinationCode|TargetArrivalTime|TargetDepartureTime|JourneyStopType"
    ∷ lines)

-- the journey itself, with no relief
abbrev pub planning : List ℕ
planning = planning_of (planned "0" ∷ [])

-- 2016-03-01 is such a day
abbrev pub calendar : List ℕ
calendar = dossier (bytes "\\GKV7calendar" ∷ bytes "\\TLOCALSERVICEGROUPVALIDITY" ∷ bytes "\\LDataOwnerCode|LocalServiceLevelCode|OperationDate" ∷ bytes "CXX|L|2016-03-01" ∷ [])

-- what a line of a message says of that journey's call at S1, by its fortify number and its order number
abbrev pub says_of : String → String → String → List ℕ
says_of fortify order status =
    bytes "CXX|2016-03-01|A031|1|" ++ bytes fortify ++ bytes "|S1|" ++ bytes order ++ bytes "|CIOS|2016-03-01T15:15:30+01:00|" ++ bytes status ++ bytes "|24:10:00|24:10:00|INTERMEDIATE"

abbrev pub says : String → String → List ℕ
says = says_of "0"

abbrev pub message_under : List ℕ → List (List ℕ) → List ℕ
message_under more lines =
    dossier
    (bytes "\\GKV8turbo" ∷ bytes "\\TDATEDPASSTIME"
    ∷ (bytes "\\LDataOwnerCode|OperationDate|LinePlanningNumber|VehicleJourneyNumber|FortifyOrderNumber|UserStopCode|UserStopOrderNumber|DestinationCode|LastUpdateTimeStamp|TripStopStatus|ExpectedArrivalTime|ExpectedDepartureTime|JourneyStopType" ++ more)
    ∷ lines)

abbrev pub message : List (List ℕ) → List ℕ
message lines = message_under [] lines

-- ---- the day

-- sender 1 may send CXX
abbrev pub register : List ℕ
register = 1 ∷ bytes "CXX" ++ replicate 7 0

-- room for a plan entry and three updates, and for three rows
abbrev pub day : Day
day = opened planning calendar (replicate (plan_wide + 3 * entry_wide) 0) (replicate (3 * row_wide) 0) (counts_of 0 0)

-- the same with a relief journey in the plan
abbrev pub relief_day : Day
relief_day = opened (planning_of (planned "0" ∷ planned "1" ∷ [])) calendar (replicate (2 * plan_wide + entry_wide) 0) (replicate (2 * row_wide) 0) (counts_of 0 0)

-- a message of sender 1 with these lines
abbrev pub sent : List (List ℕ) → Call
sent lines = Call.message (message lines) 1 0 register

-- a message of sender 1 in the 8.5 form: the journey is cancelled, is shown so, and is monitored
abbrev pub cancelled : String → Call
cancelled shown =
    Call.message (message_under (bytes "|ShowCancelledJourney|Monitored") ((says "1" "CANCEL" ++ bytes "|" ++ bytes shown ++ bytes "|true") ∷ [])) 1 1 register

-- withdrawn by its sender
abbrev pub withdrawn : ℕ → Call
withdrawn n = Call.withdraw n 1

-- at S1 of CXX at 23:50:00 on 2016-03-01, for a number of seconds, with room for three
abbrev pub board : ℕ → Call
board horizon = Call.look (asked (bytes "CXX") (bytes "S1") 20160301 85800 horizon) (9 ∷ 9 ∷ 9 ∷ [])

-- the board of the day with the relief journey, after these calls
abbrev pub relief_board : List Call → Reply
relief_board calls = reply_to (board 1200) (day_after calls relief_day)

-- the board of the day after that message
abbrev pub cancelled_board : String → Reply
cancelled_board shown = reply_to (board 1200) (day_after (cancelled shown ∷ []) day)

-- the status of each passage after these calls, and its order number
abbrev pub statuses : List Call → List ℕ
statuses calls = map status_of (rows_in (day_after calls day))

abbrev pub orders : List Call → List ℕ
orders calls = map order_of (rows_in (day_after calls day))

-- what stands there of columns that these dossiers do not have: show cancelled, flexible, monitored
abbrev pub optionals : List Call → List (List ℕ)
optionals calls = map (λ (r : List ℕ). show_cancelled_of r ∷ flexible_of r ∷ monitored_of r ∷ []) (rows_in (day_after calls day))

-- what the last of these calls gets
abbrev pub reply_after : List Call → Call → Reply
reply_after calls call = reply_to call (day_after calls day)
