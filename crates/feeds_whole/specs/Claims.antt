-- What is certain of a dossier that comes in parts. `proofs/Claims.antt` proves `All`. Assumes nothing.
use Rattle.std.specs.Prelude.{ℕ, ◌+◌, ◌*◌, ◌/◌, ◌≤◌, ◌<◌, ◌≡◌, true, false, List, ◌++◌, ◌↔◌, length, Ok, Err}
use Rattle.lists.specs.Part.{part}
use Rattle.lists.specs.Rows.{flat}
use Rattle.passage.specs.Layout.{body_wide, owner_of}
use Rattle.passage.specs.Ranges.{update_in_range}
use Rattle.register.specs.Register.{grants}
use Rattle.reader.specs.Rules.{reading_of}
use Rattle.reader.specs.Staging.{laid}
use Rattle.feeds.specs.Kept.{feed_of, is_begun}
use Rattle.feeds.specs.Feeding.{feeding, feed_leaves}
use Rattle.calls.specs.declared.Refusal.TheVariants.{Unsound, Owner}
use Rattle.calls.specs.declared.Counts.{Counts}
use Rattle.calls.specs.Answers.{numbers, is_accepted}
use Rattle.calls.specs.Leaves.{outcome_of}
use Rattle.calls.specs.Message.{message_sound, message_table, message_leaves}
use Rattle.calls.specs.End.{reading_kept, end_sound, end_answer, end_leaves, cleared}
use Rattle.feeds_whole.specs.Parts.{fed_from, rows_before}

-- ---- feeding

-- a part cut in two leaves all that is lent as the whole part does, whatever the numbers are
abbrev pub CuttingIsFree : Type 0
CuttingIsFree =
    (register staging line kept a b : List ℕ) → length kept ≡ 48
    → let first = feed_leaves a register staging line kept in
    feed_leaves b register first.staging first.line first.kept ≡ feed_leaves (a ++ b) register staging line kept

-- **however a dossier is cut, the end leaves what the one call on the whole dossier leaves**: answer with its places, counts, book and table; unless it is 14,
-- which it is exactly where what is lent is sound, the form is known, the one call finds nothing to refuse in the dossier, and its rows are more than the staging area has room for
abbrev pub PartsAreWhole : Type 0
PartsAreWhole =
    (parts : List (List ℕ)) (register line staging book table : List ℕ) (sender form : ℕ) (c : Counts) → sender < 256 → form < 4294967296
    → let m = fed_from register sender form line staging parts in
    let left = end_leaves register m.staging book table c m.kept in
    let whole = message_leaves (flat parts) sender form register book table c in
    let number = (numbers left.outcome.answer).0 in
    ((number ≡ 14 → ⊥) → (left.outcome ≡ whole.outcome) × (left.book ≡ whole.book) × (left.table ≡ whole.table))
    × ((number ≡ 14)
    ↔ ((message_sound register book table c ≡ true)
    × (form ≤ 1)
    × ((n : ℕ) × (reading_of (message_table form) register sender (flat parts) ≡ Ok n) × (length staging / body_wide < n))))

-- the staging area holds the rows before the first line at fault, as many as fit, and behind them what it held; the end is not lent it to write, so on a refusal too
abbrev pub StagingHolds : Type 0
StagingHolds =
    (parts : List (List ℕ)) (register line staging : List ℕ) (sender form : ℕ) → sender < 256 → form < 4294967296
    → (fed_from register sender form line staging parts).staging ≡ laid (message_table form) (rows_before register sender form (flat parts)) staging

-- ---- the end, of any bytes and numbers whatever; that a refusal gives everything back, and which numbers there are, is claimed in `calls`

-- numbers of no begun feed get 1, at the end and in feeding, and nothing changes
abbrev pub NeverBegun : Type 0
NeverBegun =
    (register staging book table line kept part : List ℕ) (c : Counts) → is_begun kept ≡ false
    → let left = end_leaves register staging book table c kept in
    (left.outcome ≡ outcome_of (Err Unsound) c) × (left.book ≡ book) × (left.table ≡ table) × (left.kept ≡ kept)
    × (feed_leaves part register staging line kept ≡ feeding 1 kept line staging)

-- an acceptance clears the numbers, and those are of no begun feed: what is ended cannot be ended again, nor fed
abbrev pub AcceptedEndClears : Type 0
AcceptedEndClears =
    ((register staging book table kept : List ℕ) (c : Counts) → is_accepted (end_answer register staging book table c kept) ≡ true
    → (end_leaves register staging book table c kept).kept ≡ cleared)
    × (is_begun cleared ≡ false)

-- row i of the staging area is a staged row of these numbers
pub record Staged (staging kept : List ℕ) (i : ℕ) : Type 0 where
  pub counted : i < (feed_of kept).staged
  pub lies : (i + 1) * body_wide ≤ length staging

-- a staged row that is no update in range gets 1
abbrev pub RowsOutOfRange : Type 0
RowsOutOfRange =
    (register staging book table kept : List ℕ) (c : Counts) (i : ℕ) → Staged staging kept i
    → update_in_range (part (i * body_wide) body_wide staging) ≡ false
    → end_answer register staging book table c kept ≡ Err Unsound

-- where what is lent is sound, the form is known and reading found nothing, a staged row whose owner the register does not grant now gets 6, with line 0
abbrev pub Unregistered : Type 0
Unregistered =
    (register staging book table kept : List ℕ) (c : Counts) (n i : ℕ) → end_sound register staging book table c kept ≡ true → (feed_of kept).form ≤ 1 → reading_kept (feed_of kept) ≡ Ok n
    → Staged staging kept i → grants register (feed_of kept).sender (owner_of (part (i * body_wide) body_wide staging)) ≡ false
    → end_answer register staging book table c kept ≡ Err (Owner 0)

-- all of these
abbrev pub All : Type 0
All = CuttingIsFree × PartsAreWhole × StagingHolds × NeverBegun × AcceptedEndClears × RowsOutOfRange × Unregistered
