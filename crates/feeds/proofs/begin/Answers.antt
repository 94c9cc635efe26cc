use mathlib.Core.Path.{ap, ◌∙◌}
use Rattle.feeds.specs.Kept.{kept_of, begun_by}
use Rattle.feeds.proofs.begin.Goals as goal

pub returns : goal.returns
unfolding begun_by
returns c = c.keep.ensures ∙ ap kept_of c.new_feed.ensures
