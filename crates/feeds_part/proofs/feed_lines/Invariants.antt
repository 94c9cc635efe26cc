use mathlib.Core.Path.{◌≡◌}
use Prim.Native.Nat.{◌+◌, ◌-◌}
use lib.ListN.{length}
use Rattle.turbo.specs.Split.{until}
use Rattle.feeds.specs.Feed.{fed}
use Rattle.feeds_part.specs.inner.Lines.{lent}
use Rattle.feeds_part.proofs.LineLaws.{Left}
use Rattle.feeds_part.proofs.feed_lines.Given as goal

abbrev pub invariant-loop-n : goal.invariant-loop-n
invariant-loop-n l =
    Left l.register (fed l.register (lent l.initial.f l.initial.line l.initial.staging) l.bytes) l.machine (l.initial.f.at + length l.bytes) l.initial.f.fault l.f l.line l.staging l.rest
    × (l.n ≡ length (until 10 l.rest))
    × (length l.staging ≡ length l.initial.staging)

abbrev pub decreases-loop-n : goal.decreases-loop-n
decreases-loop-n l = length l.rest
