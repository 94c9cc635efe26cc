-- What is certain of a dossier that comes in parts: its numbers tell what was kept, and whatever bytes come, what is kept stays a begun feed. `proofs/Claims.antt` proves `All`. Assumes nothing.
use Rattle.std.specs.Prelude.{ℕ, ◌<◌, ◌≡◌, true, List, length}
use Rattle.turbo_lines.specs.Lines.{longest_line}
use Rattle.turbo_labels.specs.Columns.{most}
use Rattle.columns.specs.declared.Table.{Table}
use Rattle.rows.specs.declared.Shape.{Shape}
use Rattle.rows.specs.Shape.{shape_at}
use Rattle.feeds.specs.declared.Feed.{Feed}
use Rattle.feeds.specs.Feed.{Fed, message_of, fed}
use Rattle.feeds.specs.Kept.{kept_of, feed_of, feed_may, is_begun, new_feed}

-- the shape is the one that its own numbers give for the table
abbrev pub IsKept : Table → Shape → Type 0
IsKept t h = (length h.places ≡ most) × (h ≡ shape_at t h.count h.stop h.places)

-- what numbers can tell of a feed
pub record FeedFits (f : Feed) : Type 0 where
  pub may : feed_may f ≡ true
  pub shape : IsKept (message_of f) f.lines.shape

-- what is kept is read back
abbrev pub KeptIsRead : Type 0
KeptIsRead = (f : Feed) → FeedFits f → (is_begun (kept_of f) ≡ true) × (feed_of (kept_of f) ≡ f)

-- whoever wrote them: the numbers of a begun feed are those of a feed that fits
abbrev pub BegunFits : Type 0
BegunFits = (k : List ℕ) → length k ≡ 48 → is_begun k ≡ true → FeedFits (feed_of k)

-- a feed that begins is begun
abbrev pub NewFits : Type 0
NewFits = (sender form : ℕ) → sender < 256 → form < 4294967296 → FeedFits (new_feed sender form)

-- whatever bytes come, what is kept fits, and the line and the staging area keep their lengths
abbrev pub FedFits : Type 0
FedFits =
    (register : List ℕ) (x : Fed) (bs : List ℕ) → FeedFits x.feed → length x.line ≡ longest_line
    → let y = fed register x bs in
    FeedFits y.feed × (length y.line ≡ longest_line) × (length y.staging ≡ length x.staging)

abbrev pub All : Type 0
All = KeptIsRead × BegunFits × NewFits × FedFits
