use mathlib.Core.Path.{sym, ap, ◌∙◌}
use Rattle.syntax.specs.declared.State as Machine
use Rattle.feeds.specs.Kept.{feed_of, lines_of}
use Rattle.feeds.proofs.KeptLaws.{feed_at, lines-told, lines-not, feed-placed, feed-none}
use Rattle.feeds.proofs.feed_in.Goals as goal

pub returns-in_err-lines : goal.returns-in_err-lines
returns-in_err-lines c = rw c.from_residual.ensures (feed-none c.args.kept (lines-not c.args.kept (sym c.in_err-lines.ensures)))

pub returns : goal.returns
unfolding feed_of
returns c =
    let k = c.args.kept in
    let t = lines-told k c.in_ok-lines.lines (sym c.in_ok-lines.ensures) in
    feed-placed k t.0 _ (ap (feed_at k c.machine_at-machine.result) t.1 ∙ ap (λ (m : Machine.State). feed_at k m (lines_of k)) c.machine_at-machine.ensures)
