-- The claims of `specs/Claims.antt`. Assumes nothing.
use mathlib.Core.Path.{◌∙◌}
use Rattle.lists.specs.Text.{bytes}
use Rattle.turbo_labels.proofs.LookupLaws.{lookup-by-name}
use Rattle.rows.specs.Claims.{All}
use Rattle.rows.proofs.LabelLaws.{faultless, once, there}
use Rattle.rows.proofs.RowLaws.{shape-reads, row-length, row-part}
use Rattle.rows.proofs.UnderLaws.{cell-stands, cell-absent, right-none, none_right, first-outside, outside-first, row-alike, right-alike, right-alike-back, fault-alike}

pub claims : All
claims = (
  λ t labels. (λ e. (once t labels e, there t labels e), λ p. faultless t labels p.0 p.1),
  λ labels line. lookup-by-name line (bytes "JourneyStopType") labels,
  shape-reads,
  row-length,
  λ t labels line e w j h. (
    λ p s. row-part t labels line w j h ∙ cell-stands t labels e line j h p s,
    λ f. row-part t labels line w j h ∙ cell-absent t labels e line j h f,
  ),
  λ t labels line e. (right-none t labels e line, none_right t labels e line),
  λ t labels line e p. (first-outside t labels e line p, λ o. outside-first t labels e line p o.0 o.1),
  λ t labels line labels' line' f s. (
    row-alike t labels line labels' line' f s,
    (right-alike t labels line labels' line' f s, right-alike-back t labels line labels' line' f s),
    fault-alike t labels line labels' line' f s,
  ),
)
