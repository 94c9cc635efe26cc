-- The claims of `specs/Claims.antt`. Assumes nothing.
use mathlib.Core.List.{[]}
use Rattle.columns.specs.declared.Table.TheVariants.{Planning, Calendar}
use Rattle.reader.specs.Rules.{items_of}
use Rattle.reader.specs.Staging.{rows_up_to}
use Rattle.reader.proofs.PlanRangeLaws.{passes-in-range, validities-in-range}
use Rattle.plan.specs.Claims.{JoinedInRange, All}
use Rattle.plan.proofs.RangeLaws.{body-in-range, key-of-body, joined-in-range}
use Rattle.plan.proofs.FieldLaws.{update-is-row, pass-by-name, validity-by-name, match-exactly, plan-fields}
use Rattle.plan.proofs.ExactLaws.{joined-exactly, joined-counted}

pub rows-joined : JoinedInRange
rows-joined planning calendar =
    joined-in-range
    (rows_up_to Planning [] 0 (items_of Planning planning))
    (rows_up_to Calendar [] 0 (items_of Calendar calendar))
    (passes-in-range [] 0 (items_of Planning planning))
    (validities-in-range [] 0 (items_of Calendar calendar))

pub claims : All
claims = (
  update-is-row,
  pass-by-name,
  validity-by-name,
  match-exactly,
  plan-fields,
  λ p v f g. (body-in-range p v f g, key-of-body p v f.wide g.wide),
  joined-exactly,
  joined-counted,
  rows-joined,
)
