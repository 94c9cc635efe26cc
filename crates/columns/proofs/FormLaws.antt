-- The forms of a message: what they share, and what is read the same in both. Assumes nothing.
use mathlib.Core.Path.{◌≡◌, refl, sym, ap, ◌∙◌}
use mathlib.Core.Bool.{Bool, true, false}
use mathlib.Core.List.{List, [], ◌∷◌, ◌++◌, map}
use Prim.Native.Nat.{ℕ, zero, suc, ◌+◌}
use native.Mathlib.Omega.{arith}
use borrow.Author.Tests.{le-ltb}
use lib.ListN.{length, take, get_or, get_or-map}
use Rattle.lists.specs.Part.{some}
use Rattle.lists.specs.Logic.{on}
use Rattle.lists.specs.Text.{bytes, same}
use Rattle.lists.specs.Rows.{flat}
use Rattle.turbo_labels.specs.Columns.{count, column_of, any_twice}
use Rattle.columns.specs.declared.Form.{Form}
use Rattle.columns.specs.declared.Form.TheVariants.{Old, New}
use Rattle.columns.specs.declared.Table.{Table}
use Rattle.columns.specs.declared.Table.TheVariants.{Message}
use Rattle.columns.specs.declared.Kind.TheVariants.{Text, Date, Journey, Fortify, Order, Stamp, Status, Arrival, Departure, StopType, Flexible}
use Rattle.columns.specs.Cell.{width}
use Rattle.columns.specs.Tables.{Column, must, may, stays, cancelled_name, cancelled_kind, yes_no_kind, message_columns, columns_in, table_name, name_of, names, row_width, cell_under, cells_of, row_of, lesser, wrong_in, wrong_column, misses, label_fault}
use Rattle.columns.specs.Layout.{column_at, kind_at, width_in, widths, total, offset}
use Rattle.columns.specs.Claims.{OldFormStays, FormsShareLayout, FormsDifferInTwo, Unlabelled, FormsAgree}

pub old-stays : OldFormStays
unfolding columns_in message_columns
old-stays = refl

-- ---- the layout

pub message-wide : (f : Form) → row_width (Message f) ≡ 66
unfolding row_width width columns_in message_columns
message-wide Old = refl
message-wide New = refl

widths-old : (f : Form) → widths (Message f) ≡ widths (Message Old)
unfolding widths width columns_in message_columns
widths-old Old = refl
widths-old New = refl

absents-same : (f g : Form) → map (λ (c : Column). c.absent) (columns_in (Message f)) ≡ map (λ (c : Column). c.absent) (columns_in (Message g))
unfolding columns_in message_columns
absents-same f g = refl

width-listed : (t : Table) (j : ℕ) → get_or (widths t) j 10 ≡ width (kind_at t j)
unfolding widths width kind_at column_at
width-listed t j = get_or-map width_in (columns_in t) j (must "" Text)

absent-listed : (t : Table) (j : ℕ) → get_or (map (λ (c : Column). c.absent) (columns_in t)) j [] ≡ (column_at t j).absent
unfolding column_at
absent-listed t j = get_or-map (λ (c : Column). c.absent) (columns_in t) j (must "" Text)

tables-named : (f g : Form) → table_name (Message f) ≡ table_name (Message g)
unfolding table_name
tables-named f g = refl

counts_same : (f g : Form) → length (columns_in (Message f)) ≡ length (columns_in (Message g))
unfolding columns_in message_columns
counts_same f g = refl

offsets-same : (f g : Form) (j : ℕ) → offset (Message f) j ≡ offset (Message g) j
unfolding offset
offsets-same f g j = ap (λ (ws : List ℕ). total (take j ws)) (widths-old f ∙ sym (widths-old g))

pub forms-share : FormsShareLayout
forms-share f g = (
  tables-named f g,
  counts_same f g,
  message-wide f ∙ sym (message-wide g),
  λ j. (
    offsets-same f g j,
    sym (width-listed (Message f) j) ∙ ap (λ (ws : List ℕ). get_or ws j 10) (widths-old f ∙ sym (widths-old g)) ∙ width-listed (Message g) j,
    sym (absent-listed (Message f) j) ∙ ap (λ (ls : List (List ℕ)). get_or ls j []) (absents-same f g) ∙ absent-listed (Message g) j,
  ),
)

pub forms-differ : FormsDifferInTwo
unfolding column_at columns_in message_columns
forms-differ f g zero p q = refl
forms-differ f g (suc zero) p q = refl
forms-differ f g (suc (suc zero)) p q = refl
forms-differ f g (suc (suc (suc zero))) p q = refl
forms-differ f g (suc (suc (suc (suc zero)))) p q = refl
forms-differ f g (suc (suc (suc (suc (suc zero))))) p q = refl
forms-differ f g (suc (suc (suc (suc (suc (suc zero)))))) p q = refl
forms-differ f g (suc (suc (suc (suc (suc (suc (suc zero))))))) p q = refl
forms-differ f g (suc (suc (suc (suc (suc (suc (suc (suc zero)))))))) p q = refl
forms-differ f g (suc (suc (suc (suc (suc (suc (suc (suc (suc zero))))))))) p q = refl
forms-differ f g (suc (suc (suc (suc (suc (suc (suc (suc (suc (suc zero)))))))))) p q = refl
forms-differ f g (suc (suc (suc (suc (suc (suc (suc (suc (suc (suc (suc zero))))))))))) p q = refl
forms-differ f g (suc (suc (suc (suc (suc (suc (suc (suc (suc (suc (suc (suc zero)))))))))))) p q = refl
forms-differ f g (suc (suc (suc (suc (suc (suc (suc (suc (suc (suc (suc (suc (suc zero))))))))))))) p q = absurd (p refl)
forms-differ f g (suc (suc (suc (suc (suc (suc (suc (suc (suc (suc (suc (suc (suc (suc zero)))))))))))))) p q = refl
forms-differ f g (suc (suc (suc (suc (suc (suc (suc (suc (suc (suc (suc (suc (suc (suc (suc zero))))))))))))))) p q = absurd (q refl)
forms-differ f g (suc (suc (suc (suc (suc (suc (suc (suc (suc (suc (suc (suc (suc (suc (suc (suc j)))))))))))))))) p q = refl

-- ---- labels without the names that differ

-- a name that is no label is found behind the last
behind : (w : List ℕ) (fs : List (List ℕ)) → count w fs ≡ 0 → column_of w fs ≡ length fs
unfolding count column_of
behind w [] e = refl
behind w (f ∷ fs) e = go (same f w) e (behind w fs)
  where
    go :
        (b : Bool) → on b (suc (count w fs)) (count w fs) ≡ 0 → (count w fs ≡ 0 → column_of w fs ≡ length fs)
        → on b 0 (suc (column_of w fs)) ≡ suc (length fs)
    go true p h = absurd (omega (arith, p))
    go false p h = ap suc (h p)

-- the columns before those that differ, and from there on
abbrev front : List Column
front =
    must "DataOwnerCode" Text
    ∷ must "OperationDate" Date
    ∷ must "LinePlanningNumber" Text
    ∷ must "VehicleJourneyNumber" Journey
    ∷ must "FortifyOrderNumber" Fortify
    ∷ must "UserStopCode" Text
    ∷ must "UserStopOrderNumber" Order
    ∷ must "DestinationCode" Text
    ∷ must "LastUpdateTimeStamp" Stamp
    ∷ must "TripStopStatus" Status
    ∷ must "ExpectedArrivalTime" Arrival
    ∷ must "ExpectedDepartureTime" Departure
    ∷ must "JourneyStopType" StopType
    ∷ []

abbrev cancelled : Form → Column
cancelled f = may (cancelled_name f) (cancelled_kind f) stays

abbrev flexible : Column
flexible = may "ShowFlexibleTrip" Flexible stays

abbrev monitored : Form → Column
monitored f = may "Monitored" (yes_no_kind f) stays

abbrev behind_them : Form → List Column
behind_them f = cancelled f ∷ flexible ∷ monitored f ∷ []

in_parts : (f : Form) → columns_in (Message f) ≡ front ++ behind_them f
unfolding columns_in message_columns
in_parts f = refl

module _ (labels : List (List ℕ)) (trip : Unlabelled "ShowCancelledTrip" labels) (journey : Unlabelled "ShowCancelledJourney" labels) (watched : Unlabelled "Monitored" labels) where
  not-shown : (f : Form) → count (bytes (cancelled_name f)) labels ≡ 0
  not-shown Old = trip
  not-shown New = journey

  module _ (line : List ℕ) where
    absent-kept : (c : Column) → count (name_of c) labels ≡ 0 → cell_under labels line c ≡ c.absent
    absent-kept c e = rw (behind (name_of c) labels e, le-ltb (length labels) (length labels) (omega arith))

    cells-behind : (f : Form) → cells_of (behind_them f) labels line ≡ stays ∷ cell_under labels line flexible ∷ stays ∷ []
    cells-behind f =
        ap (λ (c : List ℕ). c ∷ cell_under labels line flexible ∷ cell_under labels line (monitored f) ∷ []) (absent-kept (cancelled f) (not-shown f))
        ∙ ap (λ (c : List ℕ). stays ∷ cell_under labels line flexible ∷ c ∷ []) (absent-kept (monitored f) watched)

    cells-front : (cs ds es : List Column) → cells_of ds labels line ≡ cells_of es labels line → cells_of (cs ++ ds) labels line ≡ cells_of (cs ++ es) labels line
    cells-front [] ds es e = e
    cells-front (c ∷ cs) ds es e = ap (λ (l : List (List ℕ)). cell_under labels line c ∷ l) (cells-front cs ds es e)

    rows_same : (f g : Form) → row_of (Message f) labels line ≡ row_of (Message g) labels line
    unfolding row_of
    rows_same f g =
        ap (λ (cs : List Column). flat (cells_of cs labels line)) (in_parts f)
        ∙ ap flat (cells-front front (behind_them f) (behind_them g) (cells-behind f ∙ sym (cells-behind g)))
        ∙ ap (λ (cs : List Column). flat (cells_of cs labels line)) (sym (in_parts g))

    wrong-front : (cs ds es : List Column) → wrong_in ds labels line ≡ wrong_in es labels line → wrong_in (cs ++ ds) labels line ≡ wrong_in (cs ++ es) labels line
    wrong-front [] ds es e = e
    wrong-front (c ∷ cs) ds es e =
        ap (λ (n : ℕ). on (some (cell_under labels line c)) n (lesser (column_of (name_of c) labels + 1) n)) (wrong-front cs ds es e)

    passed : (c : Column) (cs : List Column) → cell_under labels line c ≡ stays → wrong_in (c ∷ cs) labels line ≡ wrong_in cs labels line
    passed c cs e = ap (λ (l : List ℕ). on (some l) (wrong_in cs labels line) (lesser (column_of (name_of c) labels + 1) (wrong_in cs labels line))) e

    wrong-behind : (f : Form) → wrong_in (behind_them f) labels line ≡ wrong_in (flexible ∷ []) labels line
    wrong-behind f =
        passed (cancelled f) (flexible ∷ monitored f ∷ []) (absent-kept (cancelled f) (not-shown f))
        ∙ wrong-front (flexible ∷ []) (monitored f ∷ []) [] (passed (monitored f) [] (absent-kept (monitored f) watched))

    wrong-same : (f g : Form) → wrong_column (Message f) labels line ≡ wrong_column (Message g) labels line
    unfolding wrong_column
    wrong-same f g =
        ap (λ (cs : List Column). wrong_in cs labels line) (in_parts f)
        ∙ wrong-front front (behind_them f) (behind_them g) (wrong-behind f ∙ sym (wrong-behind g))
        ∙ ap (λ (cs : List Column). wrong_in cs labels line) (sym (in_parts g))

  twice-front : (ws vs us : List (List ℕ)) → any_twice vs labels ≡ any_twice us labels → any_twice (ws ++ vs) labels ≡ any_twice (ws ++ us) labels
  unfolding any_twice
  twice-front [] vs us e = e
  twice-front (w ∷ ws) vs us e = rw (twice-front ws vs us e)

  once : (w : List ℕ) (ws : List (List ℕ)) → count w labels ≡ 0 → any_twice (w ∷ ws) labels ≡ any_twice ws labels
  unfolding any_twice
  once w ws e = rw e

  twice-behind : (f : Form) → any_twice (map name_of (behind_them f)) labels ≡ any_twice (name_of flexible ∷ []) labels
  twice-behind f =
      once (bytes (cancelled_name f)) (name_of flexible ∷ name_of (monitored f) ∷ []) (not-shown f)
      ∙ twice-front (name_of flexible ∷ []) (name_of (monitored f) ∷ []) [] (once (name_of (monitored f)) [] watched)

  names-parted : (f : Form) → names (Message f) ≡ map name_of front ++ map name_of (behind_them f)
  unfolding names columns_in message_columns
  names-parted f = refl

  twice_same : (f g : Form) → any_twice (names (Message f)) labels ≡ any_twice (names (Message g)) labels
  twice_same f g =
      ap (λ (ws : List (List ℕ)). any_twice ws labels) (names-parted f)
      ∙ twice-front (map name_of front) (map name_of (behind_them f)) (map name_of (behind_them g)) (twice-behind f ∙ sym (twice-behind g))
      ∙ ap (λ (ws : List (List ℕ)). any_twice ws labels) (sym (names-parted g))

  misses-same : (f g : Form) → misses (Message f) labels ≡ misses (Message g) labels
  unfolding misses columns_in message_columns
  misses-same f g = refl

  faults-same : (f g : Form) → label_fault (Message f) labels ≡ label_fault (Message g) labels
  unfolding label_fault
  faults-same f g = rw (twice_same f g, misses-same f g)

pub forms-agree : FormsAgree
forms-agree labels trip journey watched f g =
    (faults-same labels trip journey watched f g, λ line. (rows_same labels trip journey watched line f g, wrong-same labels trip journey watched line f g))
