use mathlib.Core.Path.{◌≡◌, ◌∙◌, sym, ap}
use mathlib.Core.Bool.{true}
use Rattle.std.specs.Prelude.{Some}
use Rattle.field_types.specs.Stamps.{stamp_shape}
use Rattle.field_types.proofs.TripleLaws.{date-real, clock-below}
use Rattle.field_types.proofs.StampLaws.{offset-most, stamp-shapeless, stamp-no-date, stamp-no-clock, stamp-no-offset, stamp-is}
use Rattle.field_types.proofs.read_stamp.Goals as goal

pub returns-then-not-stamp_shape : goal.returns-then-not-stamp_shape
returns-then-not-stamp_shape c = stamp-shapeless _ (sym c.if-not-stamp_shape.true ∙ c.stamp_shape.ensures)

pub returns-in_err-d : goal.returns-in_err-d
returns-in_err-d c = c.from_residual.ensures ∙ stamp-no-date _ c.in_err-d.ensures

pub returns-in_err-s : goal.returns-in_err-s
returns-in_err-s c = c.from_residual-in_err-s.ensures ∙ stamp-no-clock _ _ c.in_ok-d.ensures c.in_err-s.ensures

pub returns-in_err-o : goal.returns-in_err-o
returns-in_err-o c = c.from_residual-in_err-o.ensures ∙ stamp-no-offset _ _ c.in_ok-d.ensures _ c.in_ok-s.ensures c.in_err-o.ensures

pub stamp_seconds-requires : goal.stamp_seconds-requires
stamp_seconds-requires c = (date-real _ c.in_ok-d.ensures, clock-below _ _ c.in_ok-s.ensures, offset-most _ c.in_ok-o.ensures)

pub returns : goal.returns
returns c =
    let shaped : true ≡ stamp_shape c.args.field.now = sym c.if-not-stamp_shape.false ∙ c.stamp_shape.ensures in
    ap Some c.stamp_seconds.ensures ∙ stamp-is _ _ c.in_ok-d.ensures _ c.in_ok-s.ensures _ c.in_ok-o.ensures shaped
