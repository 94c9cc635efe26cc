-- The ranges of fields: what a sound key, update, plan entry and row hold. Assumes nothing.
use Rattle.std.specs.Prelude.{ℕ, Bool, true, ◌&&◌, ◌||◌, List, [], ◌∷◌, eqb, leb, ltb, length, get_or}
use Rattle.lists.specs.Logic.{on, within}
use Rattle.clock.specs.Date.{is_date}
use Rattle.field_types.specs.Stamps.{in_stamp_range}
use Rattle.passage.specs.Layout.{text_wide, missing, kept, key_of, owner_of, date_of, line_of, journey_of, fortify_of, stop_of, order_of, destination_of, stamp_of, status_of, arrival_of, departure_of, stop_type_of, show_cancelled_of, flexible_of, monitored_of, heard_of}

-- every byte is zero
abbrev pub all_zero : List ℕ → Bool
all_zero [] = true
all_zero (x ∷ l) = eqb x 0 && all_zero l

-- bytes of 32 to 126, then only zero bytes
abbrev pub text_then_zeros : List ℕ → Bool
text_then_zeros [] = true
text_then_zeros (x ∷ l) = on (within 32 126 x) (text_then_zeros l) (all_zero (x ∷ l))

-- a padded text: ten bytes, the first of 32 to 126, more such bytes, then only zero bytes
unfoldable pub padded_text : List ℕ → Bool
padded_text l = eqb (length l) text_wide && within 32 126 (get_or l 0 0) && text_then_zeros l

-- a key's fields, each in its range
unfoldable pub key_in_range : List ℕ → Bool
key_in_range k =
    padded_text (owner_of k)
    && is_date (date_of k)
    && padded_text (line_of k)
    && ltb (journey_of k) 1000000
    && ltb (fortify_of k) 100
    && padded_text (stop_of k)
    && ltb (order_of k) 1000

-- a time up to 31:59:59, or a missing one where it may be missing
abbrev pub time_in_range : Bool → ℕ → Bool
time_in_range may_miss t = ltb t 115200 || may_miss && eqb t missing

-- the stop type, and the times: an arrival may be missing at FIRST, 0, and a departure at LAST, 2
unfoldable pub times_in_range : ℕ → ℕ → ℕ → Bool
times_in_range stop_type arrival departure =
    leb stop_type 2 && time_in_range (eqb stop_type 0) arrival && time_in_range (eqb stop_type 2) departure

-- what update, plan entry and row have in common: key, destination, stop type and times
unfoldable pub common_in_range : List ℕ → Bool
common_in_range b =
    key_in_range (key_of b)
    && padded_text (destination_of b)
    && times_in_range (stop_type_of b) (arrival_of b) (departure_of b)

-- 0 or 1
abbrev pub is_bit : ℕ → Bool
is_bit n = leb n 1

-- how a cancelled journey is shown: not, or so, or with a message
abbrev pub is_shown : ℕ → Bool
is_shown n = leb n 2

-- an update's body: a timestamp that a U field can give, and optionals that may say that the held content stays
unfoldable pub update_in_range : List ℕ → Bool
update_in_range b =
    common_in_range b
    && in_stamp_range (stamp_of b)
    && leb (status_of b) 5
    && (is_shown (show_cancelled_of b) || eqb (show_cancelled_of b) kept)
    && (within 1 3 (flexible_of b) || eqb (flexible_of b) kept)
    && (is_bit (monitored_of b) || eqb (monitored_of b) kept)

-- a plan entry's body: what open writes
unfoldable pub plan_in_range : List ℕ → Bool
plan_in_range b =
    common_in_range b
    && eqb (stamp_of b) 0
    && eqb (status_of b) 0
    && eqb (show_cancelled_of b) 1
    && leb (flexible_of b) 3
    && eqb (monitored_of b) 0

-- heard 0 with timestamp 0, or heard 1 with a timestamp that a U field can give
unfoldable pub heard_in_range : ℕ → ℕ → Bool
heard_in_range heard stamp = eqb heard 0 && eqb stamp 0 || eqb heard 1 && in_stamp_range stamp

-- a row of the table
unfoldable pub row_in_range : List ℕ → Bool
row_in_range r =
    common_in_range r
    && heard_in_range (heard_of r) (stamp_of r)
    && leb (status_of r) 5
    && is_shown (show_cancelled_of r)
    && leb (flexible_of r) 3
    && is_bit (monitored_of r)
