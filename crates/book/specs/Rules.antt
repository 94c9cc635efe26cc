-- A sound book, its next message number, a message's entries, withdrawal, and what the book says of a key. Assumes nothing.
use Rattle.std.specs.Prelude.{ℕ, ◌+◌, ◌%◌, Bool, true, ◌&&◌, ◌||◌, List, [], ◌∷◌, ◌++◌, map, eqb, leb, length, set, replicate}
use Rattle.lists.specs.Logic.{on, within}
use Rattle.passage.specs.Layout.{key_of}
use Rattle.passage.specs.Ranges.{plan_in_range, update_in_range}
use Rattle.keys.specs.Sorted.{sorted_rows, get}
use Rattle.keys.specs.Replay.{Rule, replayed}
use Rattle.book.specs.Entries.{entry_wide, kind_of, number_of, sender_of, entry_body, behind_plans, plan_bodies, updates_in}

-- of a lent book at most these bytes are used
abbrev pub most_bytes : ℕ
most_bytes = 294912

-- what is lent or the size, whichever is less
unfoldable pub book_room : List ℕ → ℕ
book_room b = on (leb (length b) most_bytes) (length b) most_bytes

-- ---- soundness

unfoldable pub all_plans : List (List ℕ) → Bool
all_plans [] = true
all_plans (body ∷ bodies) = plan_in_range body && all_plans bodies

-- an update's kind, sender and body
unfoldable pub entry_in_range : List ℕ → Bool
entry_in_range e = within 2 3 (kind_of e) && leb 1 (sender_of e) && update_in_range (entry_body e)

-- the entry e may stand behind the entry `before`: it begins the next message, or goes on with the same number, sender and kind
unfoldable pub may_follow : List ℕ → List ℕ → Bool
may_follow before e =
    eqb (number_of e) (number_of before + 1)
    || (eqb (number_of e) (number_of before) && eqb (sender_of e) (sender_of before) && eqb (kind_of e) (kind_of before))

-- each entry in range, and each may follow the one before it
unfoldable pub chained : List ℕ → List (List ℕ) → Bool
chained before [] = true
chained before (e ∷ es) = entry_in_range e && may_follow before e && chained e es

-- before the first update: number 0, and a kind that no update has
unfoldable pub no_entry : List ℕ
no_entry = replicate entry_wide 0

-- used bytes that split into plan entries by key strictly rising and updates in order, every field in its range
unfoldable pub book_sound : ℕ → List ℕ → Bool
book_sound used b =
    leb used (book_room b)
    && eqb (behind_plans used b % entry_wide) 0
    && all_plans (plan_bodies used b)
    && sorted_rows (plan_bodies used b)
    && chained no_entry (updates_in used b)

-- ---- messages

-- the last of these, or `e` where there is none
unfoldable pub last_from : List ℕ → List (List ℕ) → List ℕ
last_from e [] = e
last_from e (x ∷ xs) = last_from x xs

-- numbers begin at 1 and rise by one per message
unfoldable pub next_number : List (List ℕ) → ℕ
next_number us = number_of (last_from no_entry us) + 1

-- the entries of message n
unfoldable pub message_entries : ℕ → List (List ℕ) → List (List ℕ)
message_entries n [] = []
message_entries n (e ∷ es) = on (eqb (number_of e) n) (e ∷ message_entries n es) (message_entries n es)

-- the keys that these entries name
unfoldable pub keys_named : List (List ℕ) → List (List ℕ)
keys_named es = map (λ (e : List ℕ). key_of (entry_body e)) es

-- the updates of all messages but n
unfoldable pub others : ℕ → List (List ℕ) → List (List ℕ)
others n [] = []
others n (e ∷ es) = on (eqb (number_of e) n) (others n es) (e ∷ others n es)

-- an entry becomes kind 3
unfoldable pub marked_withdrawn : List ℕ → List ℕ
marked_withdrawn e = set e 0 3

-- the entries of message n become kind 3
unfoldable pub withdrawn : ℕ → List (List ℕ) → List (List ℕ)
withdrawn n [] = []
withdrawn n (e ∷ es) = on (eqb (number_of e) n) (marked_withdrawn e) e ∷ withdrawn n es

-- ---- what the book says of a key

-- the bodies of the standing updates, in the order accepted
unfoldable pub standing : List (List ℕ) → List (List ℕ)
standing [] = []
standing (e ∷ es) = on (eqb (kind_of e) 2) (entry_body e ∷ standing es) (standing es)

-- a plan passage as a row: heard 0
unfoldable pub plan_row : List ℕ → List ℕ
plan_row body = body ++ 0 ∷ []

unfoldable pub plan_rows : List (List ℕ) → List (List ℕ)
plan_rows bodies = map plan_row bodies

-- the row of key k: that of the plan, changed by the standing updates of that key in their order; [], no row, where there is neither
unfoldable pub row_for : Rule → List (List ℕ) → List (List ℕ) → List ℕ → List ℕ
row_for rule bodies us k = replayed rule k (get k (plan_rows bodies)) (standing us)
