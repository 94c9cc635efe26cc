use mathlib.Core.Path.{ap, ◌∙◌}
use lib.ListN.{get_or}
use Rattle.columns.specs.declared.Table.{Table}
use Rattle.columns.specs.declared.Table.TheVariants.{Message}
use Rattle.columns.specs.Tables.{form_of}
use Rattle.rows.specs.Shape.{shape_at}
use Rattle.reader_step.specs.declared.Place.{Place}
use Rattle.reader_step.specs.Place.{place_at}
use Rattle.feeds.specs.Kept.{lines_of}
use Rattle.feeds.proofs.KeptLaws.{lines_at, place-none, place-some, lines-placed, lines-none}
use Rattle.feeds.proofs.lines_in.Goals as goal

pub returns-in_err-place : goal.returns-in_err-place
returns-in_err-place c =
    let k = c.args.kept in
    rw c.from_residual.ensures (lines-none k (place-none (get_or k 9 0) c.try_from.result c.try_from.ensures c.in_err-place.ensures.value))

pub returns : goal.returns
unfolding lines_of
returns c =
    let k = c.args.kept in
    let q = place-some (get_or k 9 0) c.try_from.result c.in_ok-place.place c.try_from.ensures c.in_ok-place.ensures.value in
    lines-placed k q.0 _
    (ap (λ (p : Place). lines_at k p c.restored-shape.result) q.1
    ∙ ap (lines_at k (place_at (get_or k 9 0)))
    (c.restored-shape.ensures
    ∙ ap (λ (t : Table). shape_at t (get_or k 16 0) (get_or k 17 0) c.places_in-places.result) c.message_of-table.ensures
    ∙ ap (shape_at (Message (form_of (get_or k 2 0))) (get_or k 16 0) (get_or k 17 0)) c.places_in-places.ensures))
