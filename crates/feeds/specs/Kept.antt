-- What is kept between two parts as 48 numbers, which the caller lends. Assumes nothing.
use Rattle.std.specs.Prelude.{ℕ, ◌+◌, ◌/◌, ◌%◌, Bool, true, not, ◌&&◌, ◌||◌, List, [], ◌∷◌, ◌++◌, eqb, leb, ltb, drop, get_or, replicate, Option, Some, None}
use Rattle.lists.specs.Logic.{on}
use Rattle.lists.specs.Part.{part}
use Rattle.syntax.specs.declared.Kind.{Kind}
use Rattle.syntax.specs.declared.Kind.TheVariants.{Nothing, Group, Table, Rows}
use Rattle.syntax.specs.declared.State as Machine
use Rattle.syntax.specs.declared.State.TheVariants.{Open, Mark, First, Inside, FirstEsc, InsideEsc, Null, Ret}
use Rattle.columns.specs.declared.Table.TheVariants as Tables
use Rattle.columns.specs.Tables.{form_of}
use Rattle.turbo_labels.specs.Columns.{most}
use Rattle.rows.specs.Shape.{no_shape, shape_at}
use Rattle.reader_step.specs.declared.State as Lines
use Rattle.reader_step.specs.declared.Place.TheVariants.{Outside}
use Rattle.reader_step.specs.Place.{is_under, is_known, place_number, place_at}
use Rattle.reader.specs.Rules.{largest}
use Rattle.feeds.specs.declared.Feed.{Feed}

-- ---- the machine as a number below 32: where in the line, times four, and the kind of line

abbrev pub kind_number : Kind → ℕ
kind_number Nothing = 0
kind_number Group = 1
kind_number Table = 2
kind_number Rows = 3

abbrev pub machine_number : Machine.State → ℕ
machine_number (Open k) = kind_number k
machine_number (Mark k) = 4 + kind_number k
machine_number (First k) = 8 + kind_number k
machine_number (Inside k) = 12 + kind_number k
machine_number (FirstEsc k) = 16 + kind_number k
machine_number (InsideEsc k) = 20 + kind_number k
machine_number (Null k) = 24 + kind_number k
machine_number (Ret k) = 28 + kind_number k

abbrev pub kind_at : ℕ → Kind
kind_at n = on (eqb n 0) Nothing (on (eqb n 1) Group (on (eqb n 2) Table Rows))

abbrev pub state_at : ℕ → Kind → Machine.State
state_at n k =
    on (eqb n 0) (Open k)
    (on (eqb n 1) (Mark k)
    (on (eqb n 2) (First k)
    (on (eqb n 3) (Inside k) (on (eqb n 4) (FirstEsc k) (on (eqb n 5) (InsideEsc k) (on (eqb n 6) (Null k) (Ret k)))))))

unfoldable pub machine_at : ℕ → Machine.State
machine_at n = state_at (n / 4) (kind_at (n % 4))

-- ---- the numbers

-- 1 for a feed that was begun; its sender and its form; what is kept of the bytes; of the lines; of the labels; and zeros
unfoldable pub kept_of : Feed → List ℕ
kept_of f =
    let s = f.lines in
    1 ∷ f.sender ∷ f.form ∷ f.at ∷ machine_number f.machine ∷ f.fault ∷ f.size ∷ f.long ∷ f.staged
    ∷ place_number s.place ∷ s.line ∷ s.form ∷ s.wrong ∷ s.column ∷ s.owner ∷ s.rows
    ∷ s.shape.count ∷ s.shape.stop ∷ (s.shape.places ++ replicate 10 0)

-- and back
unfoldable pub lines_of : List ℕ → Lines.State
lines_of k =
    record {
      place = place_at (get_or k 9 0);
      line = get_or k 10 0;
      form = get_or k 11 0;
      wrong = get_or k 12 0;
      column = get_or k 13 0;
      owner = get_or k 14 0;
      rows = get_or k 15 0;
      shape = shape_at (Tables.Message (form_of (get_or k 2 0))) (get_or k 16 0) (get_or k 17 0) (part 18 most k);
    }

unfoldable pub feed_of : List ℕ → Feed
feed_of k =
    record {
      sender = get_or k 1 0;
      form = get_or k 2 0;
      at = get_or k 3 0;
      machine = machine_at (get_or k 4 0);
      fault = get_or k 5 0;
      size = get_or k 6 0;
      long = get_or k 7 0;
      staged = get_or k 8 0;
      lines = lines_of k;
    }

-- ---- which numbers are those of a begun feed

-- what is kept of the lines can be so after so many bytes: lines at fault lie before the line to come, a row needs a line, and data lines need labels
unfoldable pub lines_may : ℕ → Lines.State → Bool
lines_may at s =
    ltb 0 s.line && leb s.line (at + 1) && ltb s.rows s.line
    && ltb s.form s.line && ltb s.wrong s.line && ltb s.owner s.line
    && is_known s.place && (not (is_under s.place) || not s.shape.fault)

unfoldable pub feed_may : Feed → Bool
feed_may f =
    ltb f.sender 256 && ltb f.form 4294967296 && leb f.at (largest + 1) && leb f.fault f.at && leb f.size f.at
    && ltb f.long f.lines.line && leb f.staged f.lines.rows && lines_may f.at f.lines

-- every number is zero
unfoldable pub zeros : List ℕ → Bool
zeros [] = true
zeros (n ∷ ns) = eqb n 0 && zeros ns

unfoldable pub is_begun : List ℕ → Bool
is_begun k = eqb (get_or k 0 0) 1 && ltb (get_or k 4 0) 32 && zeros (drop 38 k) && feed_may (feed_of k)

-- ---- the beginning

abbrev pub no_lines : Lines.State
no_lines = record { place = Outside; line = 1; form = 0; wrong = 0; column = 0; owner = 0; rows = 0; shape = no_shape }

abbrev pub new_feed : ℕ → ℕ → Feed
new_feed sender form = record { sender = sender; form = form; at = 0; machine = Open Nothing; fault = 0; size = 0; long = 0; staged = 0; lines = no_lines }

-- a feed that begins, whatever the numbers were
unfoldable pub begun_by : ℕ → ℕ → List ℕ
begun_by sender form = kept_of (new_feed sender form)

-- ---- numbers that are read

-- the feed, where the numbers are those of a begun one
unfoldable pub read_of : List ℕ → Option Feed
read_of k = on (is_begun k) (Some (feed_of k)) None
