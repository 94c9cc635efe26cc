-- Document 01's cases P1 to P11, one statement each. `proofs/Paper.antt` proves them together. Assumes nothing.
use Rattle.std.specs.Prelude.{ℕ, ◌≤◌, ◌≡◌, true, List, [], ◌∷◌, ◌++◌, Some, None, Err, Ok}
use Rattle.lists.specs.Text.{bytes}
use Rattle.syntax.specs.Machine.{fault}
use Rattle.turbo.specs.Escape.{decode}
use Rattle.field_types.specs.Times.{time}
use Rattle.field_types.specs.Dates.{date}
use Rattle.field_types.specs.Stamps.{stamp}
use Rattle.update.specs.Moves.{status_after}
use Rattle.calls.specs.declared.Refusal.TheVariants.{Field}
use Rattle.calls.specs.declared.Counts.{Counts}
use Rattle.calls.specs.Answers.{numbers}
use Rattle.calls.specs.Message.{message_sound, message_answer}
use Rattle.board.specs.Rules.{listing, board_with}
use Rattle.runs.specs.Runs.{Reply}
use Rattle.cases.specs.Day.{says, says_of, sent, cancelled, withdrawn, board, relief_board, cancelled_board, statuses, orders, optionals, reply_after}

-- P1: 31:59:59 is 115,199; 32:00:00 is refused
abbrev pub P1 : Type 0
P1 = (time (bytes "31:59:59") ≡ Some (record { 0 = 115199 })) × (time (bytes "32:00:00") ≡ None)

-- P2: 2000-02-29 is a date, 2023-02-29 not
abbrev pub P2 : Type 0
P2 = (date (bytes "2000-02-29") ≡ Some 20000229) × (date (bytes "2023-02-29") ≡ None)

-- P3: 2016-03-01T15:15:30+01:00 is 1,456,841,730
abbrev pub P3 : Type 0
P3 = stamp (bytes "2016-03-01T15:15:30+01:00") ≡ Some 1456841730

-- P4: `a\pb\i` is `a|b\`; `\x` faults
abbrev pub P4 : Type 0
P4 = (decode (bytes "a\\pb\\i") ≡ bytes "a|b\\") × (fault (bytes "\\G\\x" ++ 13 ∷ 10 ∷ []) ≡ Err 3)

-- P5: ARRIVED, 4, then DRIVING, 3, stays ARRIVED; PASSED, 5, then ARRIVED is ARRIVED
abbrev pub P5 : Type 0
P5 = (status_after 4 3 ≡ 4) × (status_after 5 4 ≡ 4)

-- P6: plan, message 1 CANCEL, 1, message 2 UNKNOWN, 2: CANCEL; with 1 withdrawn: UNKNOWN
abbrev pub P6 : Type 0
P6 =
    (statuses (sent (says "1" "CANCEL" ∷ []) ∷ sent (says "1" "UNKNOWN" ∷ []) ∷ []) ≡ 1 ∷ [])
    × (statuses (sent (says "1" "CANCEL" ∷ []) ∷ sent (says "1" "UNKNOWN" ∷ []) ∷ withdrawn 1 ∷ []) ≡ 2 ∷ [])

-- P7: PASSED, 5, then CANCEL: PASSED; first withdrawn: CANCEL
abbrev pub P7 : Type 0
P7 =
    (statuses (sent (says "1" "PASSED" ∷ []) ∷ sent (says "1" "CANCEL" ∷ []) ∷ []) ≡ 5 ∷ [])
    × (statuses (sent (says "1" "PASSED" ∷ []) ∷ sent (says "1" "CANCEL" ∷ []) ∷ withdrawn 1 ∷ []) ≡ 1 ∷ [])

-- P8: a departure at now + horizon is shown, a second later not: 24:10:00 at 23:50:00, for 1,200 seconds and for 1,199; the other places stay
abbrev pub P8 : Type 0
P8 =
    (reply_after [] (board 1200) ≡ Reply.showed (board_with (listing 1 1) (0 ∷ 9 ∷ 9 ∷ [])))
    × (reply_after [] (board 1199) ≡ Reply.showed (board_with (listing 0 0) (9 ∷ 9 ∷ 9 ∷ [])))

-- P9: two order numbers at one stop are two passages: what is said of the second changes the first in nothing
abbrev pub P9 : Type 0
P9 = (orders (sent (says "2" "PASSED" ∷ []) ∷ []) ≡ 1 ∷ 2 ∷ []) × (statuses (sent (says "2" "PASSED" ∷ []) ∷ []) ≡ 0 ∷ 5 ∷ [])

-- a dossier of two rows is one message: both are taken under one number, and both leave with it; columns that it does not have keep what is held
abbrev pub TwoRows : Type 0
TwoRows =
    (reply_after [] (sent (says "1" "CANCEL" ∷ says "2" "DRIVING" ∷ [])) ≡ Reply.answered (Ok 1))
    × (statuses (sent (says "1" "CANCEL" ∷ says "2" "DRIVING" ∷ []) ∷ []) ≡ 1 ∷ 3 ∷ [])
    × (optionals (sent (says "1" "CANCEL" ∷ says "2" "DRIVING" ∷ []) ∷ []) ≡ (1 ∷ 0 ∷ 0 ∷ []) ∷ (1 ∷ 0 ∷ 0 ∷ []) ∷ [])
    × (reply_after (sent (says "1" "CANCEL" ∷ says "2" "DRIVING" ∷ []) ∷ []) (withdrawn 1) ≡ Reply.answered (Ok 0))
    × (statuses (sent (says "1" "CANCEL" ∷ says "2" "DRIVING" ∷ []) ∷ withdrawn 1 ∷ []) ≡ 0 ∷ [])
    × (optionals [] ≡ (1 ∷ 0 ∷ 0 ∷ []) ∷ [])

-- a relief journey in the plan is shown once a message has told of it, and no more when that is withdrawn
abbrev pub Relief : Type 0
Relief =
    (relief_board [] ≡ Reply.showed (board_with (listing 1 1) (0 ∷ 9 ∷ 9 ∷ [])))
    × (relief_board (sent (says_of "1" "1" "DRIVING" ∷ []) ∷ []) ≡ Reply.showed (board_with (listing 2 2) (0 ∷ 1 ∷ 9 ∷ [])))
    × (relief_board (sent (says_of "1" "1" "DRIVING" ∷ []) ∷ withdrawn 1 ∷ []) ≡ Reply.showed (board_with (listing 1 1) (0 ∷ 9 ∷ 9 ∷ [])))

-- a cancelled passage is shown with `true`; with `false` and with `message` it is not. All three are kept, as 1, 0 and 2
abbrev pub Cancelled : Type 0
Cancelled =
    (cancelled_board "true" ≡ Reply.showed (board_with (listing 1 1) (0 ∷ 9 ∷ 9 ∷ [])))
    × (cancelled_board "message" ≡ Reply.showed (board_with (listing 0 0) (9 ∷ 9 ∷ 9 ∷ [])))
    × (cancelled_board "false" ≡ Reply.showed (board_with (listing 0 0) (9 ∷ 9 ∷ 9 ∷ [])))
    × (optionals (cancelled "message" ∷ []) ≡ (2 ∷ 0 ∷ 1 ∷ []) ∷ [])
    × (reply_after [] (cancelled "1") ≡ Reply.answered (Err (Field 4 14 0)))

-- what a message of these bytes gets, whoever sends it and in either form, where all that it is lent is sound
abbrev pub Gets : List ℕ → ℕ × ℕ × ℕ × ℕ → Type 0
Gets d n =
    (register book table : List ℕ) (sender form : ℕ) (c : Counts) → message_sound register book table c ≡ true → form ≤ 1
    → numbers (message_answer d sender form register book table c) ≡ n

-- P10: zero bytes: refusal 3 at 0
abbrev pub P10 : Type 0
P10 = Gets [] (3, 0, 0, 0)

-- P11: a group line alone: accepted, number 0
abbrev pub P11 : Type 0
P11 = Gets (bytes "\\G" ++ 13 ∷ 10 ∷ []) (0, 0, 0, 0)

abbrev pub All : Type 0
All = P1 × P2 × P3 × P4 × P5 × P6 × P7 × P8 × P9 × TwoRows × Relief × Cancelled × P10 × P11
