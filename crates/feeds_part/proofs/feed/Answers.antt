use native.Mathlib.Omega.{arith}
use mathlib.Core.Path.{sym, ◌∙◌}
use Rattle.feeds_part.proofs.PartLaws.{read_fits, call-fed, call-refused}
use Rattle.feeds_part.proofs.feed.Goals as goal

pub feed_bytes-after-requires : goal.feed_bytes-after-requires
feed_bytes-after-requires c = let r = c.read_kept in (omega arith, read_fits c.args.kept.now c.in-Some.read (sym r.ensures.is ∙ c.in-Some.is) r.ensures.room)

pub returns-in-Some : goal.returns-in-Some
returns-in-Some c = let a = c.args in let r = c.read_kept in let f = c.feed_bytes-after in
    call-fed a.kept.now c.in-Some.read (sym r.ensures.is ∙ c.in-Some.is) a.part.now a.register.now a.staging.now a.line.now f.result f.new.line f.new.staging c.keep.new.kept f.ensures c.keep.ensures

pub returns-in-None : goal.returns-in-None
returns-in-None c = let a = c.args in let r = c.read_kept in call-refused a.kept.now (sym r.ensures.is ∙ c.in-None.is) a.part.now a.register.now a.staging.now a.line.now
