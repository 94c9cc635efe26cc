-- Feeding a part: what is answered, and what becomes of what is lent. Assumes nothing.
use Rattle.std.specs.Prelude.{ℕ, List, take}
use Rattle.lists.specs.Logic.{on}
use Rattle.lists.specs.Part.{over}
use Rattle.feeds.specs.Feed.{Fed, no_bytes, fed}
use Rattle.feeds.specs.Kept.{kept_of, feed_of, is_begun}

-- all that a call gives back
pub record Feeding : Type 0 where
  pub answer : ℕ
  pub kept : List ℕ
  pub line : List ℕ
  pub staging : List ℕ

abbrev pub feeding : ℕ → List ℕ → List ℕ → List ℕ → Feeding
feeding answer kept line staging = record { answer = answer; kept = kept; line = line; staging = staging }

-- what the lent memory holds. Of the lent line only the bytes of the unfinished one are looked at
unfoldable pub fed_in : List ℕ → List ℕ → List ℕ → Fed
fed_in kept line staging = record { feed = feed_of kept; line = over 0 (take (feed_of kept).size line) no_bytes; staging = staging }

abbrev pub fed_out : Fed → Feeding
fed_out x = feeding 0 (kept_of x.feed) x.line x.staging

-- a part is fed; where the numbers are those of no begun feed, 1 is answered and nothing changes
unfoldable pub feed_leaves : List ℕ → List ℕ → List ℕ → List ℕ → List ℕ → Feeding
feed_leaves part register staging line kept = on (is_begun kept) (fed_out (fed register (fed_in kept line staging) part)) (feeding 1 kept line staging)
