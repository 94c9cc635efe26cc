use borrow.Author.Tests.{ne_eqb}
use Rattle.turbo.specs.Escape.{escaped}
use Rattle.turbo.proofs.escaped.Goals as goal

pub returns-in-114 : goal.returns-in-114
unfolding escaped
returns-in-114 c = rw c.in-114.is

pub returns-in-110 : goal.returns-in-110
unfolding escaped
returns-in-110 c = rw c.in-110.is

pub returns-in-105 : goal.returns-in-105
unfolding escaped
returns-in-105 c = rw c.in-105.is

pub returns-in-112 : goal.returns-in-112
unfolding escaped
returns-in-112 c = rw c.in-112.is

pub returns-in_default : goal.returns-in_default
unfolding escaped
returns-in_default c =
    let r = c.in_default.in_default-own.rest in
    rw (ne_eqb _ 114 r.0.0.0.1, ne_eqb _ 110 r.0.0.1, ne_eqb _ 105 r.0.1, ne_eqb _ 112 r.1)
