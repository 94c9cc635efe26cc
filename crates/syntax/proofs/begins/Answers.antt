use borrow.Author.Tests.{lt-ltb, le-ltb}
use Rattle.syntax.proofs.begins.Goals as goal

pub returns-then-i-j : goal.returns-then-i-j
returns-then-i-j c = rw (lt-ltb _ _ c.if-i-j.true)

pub returns : goal.returns
returns c = rw (le-ltb _ _ c.if-i-j.false)
