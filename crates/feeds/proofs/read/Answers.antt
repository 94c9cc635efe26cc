use mathlib.Core.Path.{sym, ◌∙◌}
use Rattle.feeds.proofs.KeptLaws.{read-numbers, read_none}
use Rattle.feeds.proofs.read.Goals as goal

pub read_fitting-requires : goal.read_fitting-requires
read_fitting-requires c = sym c.numbers_may.ensures ∙ c.if-numbers_may.true

pub returns-then-numbers_may : goal.returns-then-numbers_may
returns-then-numbers_may c =
    c.read_fitting.ensures ∙ read-numbers c.args.kept (sym c.numbers_may.ensures ∙ c.if-numbers_may.true)

pub returns : goal.returns
returns c =
    read_none c.args.kept (sym c.numbers_may.ensures ∙ c.if-numbers_may.false)
