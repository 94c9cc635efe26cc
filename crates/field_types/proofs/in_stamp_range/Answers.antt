use mathlib.Core.Path.{sym}
use borrow.Author.Tests.{le-leb}
use Rattle.lists.proofs.LogicLaws.{below-range}
use Rattle.field_types.proofs.in_stamp_range.Goals as goal

pub returns-then-seconds-lt946634400 : goal.returns-then-seconds-lt946634400
returns-then-seconds-lt946634400 c = sym (below-range _ _ _ c.if-seconds-lt946634400.true)

pub returns : goal.returns
returns c = rw (le-leb 946634400 _ c.if-seconds-lt946634400.false)
