-- What the reading of numbers goes by. Assumes nothing.
use Rattle.std.specs.Prelude.{ℕ, Bool, ◌&&◌, List, eqb, leb, ltb, drop, get_or, Option, Some, None}
use Rattle.lists.specs.Logic.{on}
use Rattle.reader_step.specs.declared.State as Lines
use Rattle.feeds.specs.declared.Feed.{Feed}
use Rattle.feeds.specs.Kept.{lines_of, feed_of, feed_may, zeros}

-- the numbers that a feed does not tell are as they are, and those that it keeps as bytes are bytes
unfoldable pub numbers_may : List ℕ → Bool
numbers_may k = eqb (get_or k 0 0) 1 && ltb (get_or k 2 0) 4294967296 && ltb (get_or k 4 0) 32 && ltb (get_or k 1 0) 256 && zeros (drop 38 k)

-- what is kept of the lines, where their place has that number
unfoldable pub lines_read : List ℕ → Option Lines.State
lines_read k = on (leb (get_or k 9 0) 2) (Some (lines_of k)) None

unfoldable pub feed_read : List ℕ → Option Feed
feed_read k = on (leb (get_or k 9 0) 2) (Some (feed_of k)) None

-- what is read of such numbers
unfoldable pub read_fitting : List ℕ → Option Feed
read_fitting k = on (leb (get_or k 9 0) 2 && feed_may (feed_of k)) (Some (feed_of k)) None
