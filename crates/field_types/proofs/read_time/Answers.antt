use mathlib.Core.Path.{◌≡◌, ◌∙◌, ap}
use Rattle.std.proofs.Common.{rules}
use Rattle.field_types.specs.Times.{time_of, time}
use Rattle.field_types.proofs.read_time.Goals as goal

pub returns : goal.returns
unfolding time
returns c =
    let made : c.map.result ≡ time_of c.read_clock.result = search rules in
    made ∙ ap time_of c.read_clock.ensures
