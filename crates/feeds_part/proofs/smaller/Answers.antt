use mathlib.Core.Path.{refl}
use borrow.Author.Tests.{lt-ltb, le-ltb}
use Rattle.feeds_part.proofs.smaller.Goals as goal

pub returns-then-left-right : goal.returns-then-left-right
returns-then-left-right c = rw (lt-ltb _ _ c.if-left-right.true) refl

pub returns : goal.returns
returns c = rw (le-ltb _ _ c.if-left-right.false) refl
