-- A dossier that comes in parts, byte by byte: what each byte changes in what is kept, in the unfinished line and in the staging area. Assumes nothing.
use Rattle.std.specs.Prelude.{ℕ, ◌+◌, ◌-◌, ◌*◌, Bool, not, ◌&&◌, List, [], ◌∷◌, eqb, leb, ltb, length, take, replicate, Option, Some, None}
use Rattle.lists.specs.Logic.{on}
use Rattle.lists.specs.Part.{over}
use Rattle.syntax.specs.declared.State as Machine
use Rattle.syntax.specs.Machine.{step}
use Rattle.turbo_lines.specs.Lines.{longest_line}
use Rattle.columns.specs.declared.Table.{Table}
use Rattle.columns.specs.declared.Table.TheVariants as Tables
use Rattle.columns.specs.Tables.{form_of, row_width}
use Rattle.reader_step.specs.declared.State as Lines
use Rattle.reader_step.specs.Step.{moved, line_step, line_staged}
use Rattle.reader.specs.Rules.{largest}
use Rattle.feeds.specs.declared.Feed.{Feed}

-- what is kept, with the bytes of the unfinished line, as many as fit and zeros behind them, and the staging area
pub record Fed : Type 0 where
  pub feed : Feed
  pub line : List ℕ
  pub staging : List ℕ

-- an unfinished line of no bytes; it has room for the longest line
abbrev pub no_bytes : List ℕ
no_bytes = replicate longest_line 0

-- the wanted table of a message in the feed's form; an unknown form is read as the old, and refused at the end
abbrev pub message_of : Feed → Table
message_of f = Tables.Message (form_of f.form)

-- ---- small changes of what is kept

-- one byte more
abbrev pub counted : Feed → Feed
counted f =
    record {
      sender = f.sender;
      form = f.form;
      at = on (leb f.at largest) (f.at + 1) f.at;
      machine = f.machine;
      fault = f.fault;
      size = f.size;
      long = f.long;
      staged = f.staged;
      lines = f.lines;
    }

-- a byte that no well-formed dossier could have here
abbrev pub faulted : Feed → Feed
faulted f =
    record {
      sender = f.sender;
      form = f.form;
      at = f.at + 1;
      machine = f.machine;
      fault = f.at + 1;
      size = f.size;
      long = f.long;
      staged = f.staged;
      lines = f.lines;
    }

-- a byte of a line that goes on, behind which the machine stands at m
abbrev pub lengthened : Machine.State → Feed → Feed
lengthened m f =
    record {
      sender = f.sender;
      form = f.form;
      at = f.at + 1;
      machine = m;
      fault = f.fault;
      size = f.size + 1;
      long = f.long;
      staged = f.staged;
      lines = f.lines;
    }

-- the LF of a line, behind which the machine stands at m: the first line too long, the rows staged and the lines are those given
abbrev pub line_ended : Machine.State → ℕ → ℕ → Lines.State → Feed → Feed
line_ended m long staged lines f =
    record {
      sender = f.sender;
      form = f.form;
      at = f.at + 1;
      machine = m;
      fault = f.fault;
      size = 0;
      long = long;
      staged = staged;
      lines = lines;
    }

-- ---- a line's end

-- the line is too long: with its CR it has so many bytes, and its LF is one more
abbrev pub runs_over : ℕ → Bool
runs_over size = leb longest_line size

-- a row of the table came, all rows before it lie in the staging area, and it does too
abbrev pub row_stays : Table → Lines.State → Lines.State → ℕ → List ℕ → Bool
row_stays t before after staged staging =
    ltb before.rows after.rows && (eqb staged before.rows && leb (after.rows * row_width t) (length staging))

-- a line that is only counted: behind a line too long, or too long itself
abbrev pub skipped : Machine.State → ℕ → Fed → Fed
skipped m long x =
    record { feed = line_ended m long x.feed.staged (moved x.feed.lines x.feed.lines.place) x.feed; line = no_bytes; staging = x.staging }

-- a line that is read; its CR is no part of it
abbrev pub line_read : List ℕ → Machine.State → List ℕ → Fed → Fed
line_read register m l x =
    let f = x.feed in
    let after = line_step (message_of f) register f.sender f.lines l in
    record {
      feed = line_ended m f.long (on (row_stays (message_of f) f.lines after f.staged x.staging) (f.staged + 1) f.staged) after f;
      line = no_bytes;
      staging = line_staged (message_of f) register f.sender f.lines l x.staging;
    }

-- the LF of a line
unfoldable pub ended : List ℕ → Machine.State → Fed → Fed
ended register m x =
    on (eqb x.feed.long 0)
    (on (runs_over x.feed.size) (skipped m x.feed.lines.line x) (line_read register m (take (x.feed.size - 1) x.line) x))
    (skipped m x.feed.long x)

-- ---- a byte, a part

-- a byte of a line that goes on
abbrev pub held_on : Machine.State → ℕ → Fed → Fed
held_on m b x = record { feed = lengthened m x.feed; line = over x.feed.size (b ∷ []) x.line; staging = x.staging }

-- the byte b, behind which the machine stands at m, or which it does not take
abbrev pub taken : List ℕ → ℕ → Option Machine.State → Fed → Fed
taken register b (Some m) x = on (eqb b 10) (ended register m x) (held_on m b x)
taken register b None x = record { feed = faulted x.feed; line = x.line; staging = x.staging }

-- behind a fault, and behind the largest dossier, bytes are only counted
abbrev pub is_open : Feed → Bool
is_open f = ltb f.at largest && eqb f.fault 0

unfoldable pub fed_byte : List ℕ → Fed → ℕ → Fed
fed_byte register x b =
    on (is_open x.feed)
    (taken register b (step x.feed.machine b) x)
    (record { feed = counted x.feed; line = x.line; staging = x.staging })

-- a part: its bytes one after the other
unfoldable pub fed : List ℕ → Fed → List ℕ → Fed
fed register x [] = x
fed register x (b ∷ bs) = fed register (fed_byte register x b) bs
