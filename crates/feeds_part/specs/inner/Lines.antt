-- What feeding by lines goes by. Assumes nothing.
use Rattle.std.specs.Prelude.{ℕ, ◌+◌, ◌-◌, ◌*◌, Bool, ◌&&◌, List, eqb, leb, ltb, length, take}
use Rattle.lists.specs.Logic.{on}
use Rattle.lists.specs.Part.{over}
use Rattle.syntax.specs.declared.State as Machine
use Rattle.columns.specs.declared.Table.{Table}
use Rattle.columns.specs.Tables.{row_width}
use Rattle.reader_step.specs.Step.{line_step}
use Rattle.reader.specs.Rules.{largest}
use Rattle.feeds.specs.declared.Feed.{Feed}
use Rattle.feeds.specs.Feed.{Fed, no_bytes, message_of, line_ended, row_stays, is_open}

-- with the machine at m
abbrev pub stands_at : Machine.State → Feed → Feed
stands_at m f =
    record { sender = f.sender; form = f.form; at = f.at; machine = m; fault = f.fault; size = f.size; long = f.long; staged = f.staged; lines = f.lines }

-- n bytes more of a line that goes on
abbrev pub longer : ℕ → Feed → Feed
longer n f =
    record { sender = f.sender; form = f.form; at = f.at + n; machine = f.machine; fault = f.fault; size = f.size + n; long = f.long; staged = f.staged; lines = f.lines }

-- behind so many bytes
abbrev pub moved_to : ℕ → Feed → Feed
moved_to n f =
    record { sender = f.sender; form = f.form; at = n; machine = f.machine; fault = f.fault; size = f.size; long = f.long; staged = f.staged; lines = f.lines }

-- n bytes that are only counted
abbrev pub counted_by : ℕ → Feed → Feed
counted_by n f = moved_to (on (ltb (largest + 1 - f.at) n) (largest + 1) (f.at + n)) f

-- how many of n bytes are looked at
abbrev pub open_for : ℕ → Feed → ℕ
open_for n f = on (is_open f) (on (ltb (largest - f.at) n) (largest - f.at) n) 0

-- a feed with its line and its staging area
abbrev pub fed_as : Feed → List ℕ → List ℕ → Fed
fed_as f line staging = record { feed = f; line = line; staging = staging }

-- as it is lent: of the line only the bytes of the unfinished one count
abbrev pub lent : Feed → List ℕ → List ℕ → Fed
lent f line staging = fed_as f (over 0 (take f.size line) no_bytes) staging

-- with the bytes l more, none of which ends a line
abbrev pub held_all : List ℕ → Fed → Fed
held_all l x = fed_as (longer (length l) x.feed) (over x.feed.size l x.line) x.staging

-- a row of the table came that lies in the staging area of so many bytes, as all before it do
abbrev pub rows_stay : Table → ℕ → ℕ → ℕ → ℕ → Bool
rows_stay t before after staged room = ltb before after && (eqb staged before && leb (after * row_width t) room)

-- the line l is read
abbrev pub line_on : List ℕ → List ℕ → Feed → List ℕ → Feed
line_on register l f staging =
    let after = line_step (message_of f) register f.sender f.lines l in
    line_ended f.machine f.long (on (row_stays (message_of f) f.lines after f.staged staging) (f.staged + 1) f.staged) after f
