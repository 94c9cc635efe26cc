use Prim.Native.Nat.{◌-◌}
use mathlib.Core.Path.{ap, ◌∙◌}
use Rattle.turbo.specs.Split.{until}
use Rattle.turbo.proofs.SplitLaws.{field-tail}
use Rattle.turbo.proofs.field_of.Goals as goal

pub returns : goal.returns
returns c = c.first_field.ensures ∙ ap (until 124) c.rest_after_bars.ensures ∙ field-tail _ _
