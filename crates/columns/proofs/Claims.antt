-- The claims of `specs/Claims.antt` hold. Assumes nothing.
use mathlib.Core.Path.{◌≡◌, refl}
use native.Mathlib.Omega.{arith}
use Rattle.columns.specs.declared.Table.{Table}
use Rattle.columns.specs.Layout.{total, offset}
use Rattle.columns.specs.Claims.{All, CellsApart}
use Rattle.columns.proofs.CellLaws.{cell-width, cell-bytes}
use Rattle.columns.proofs.LayoutLaws.{wanted-most, row_room, offset-next, offset-within, offset-apart, row-flat, absent-width}
use Rattle.columns.proofs.SaidLaws.{texts_kept, numbers-kept, times_kept, left-out-as-absent}
use Rattle.columns.proofs.FormLaws.{old-stays, forms-share, forms-differ, forms-agree}
use Rattle.columns.proofs.RangeLaws.{texts-in-range, dates-in-range, numbers-in-range, stamps-in-range, words-in-range, times-in-range, missing-exactly, null-keeps-nothing, empty-keeps-nothing, stop-types-coded}

first-offset : (t : Table) → offset t 0 ≡ 0
unfolding offset total
first-offset t = refl

cells-apart : CellsApart
cells-apart t j k l h = offset-apart t j (omega arith) k l h

pub claims : All
claims = (
  λ k stop f. (cell-width k stop f, cell-bytes k stop f),
  texts-in-range,
  texts_kept,
  numbers-kept,
  times_kept,
  left-out-as-absent,
  dates-in-range,
  numbers-in-range,
  stamps-in-range,
  words-in-range,
  times-in-range,
  missing-exactly,
  null-keeps-nothing,
  empty-keeps-nothing,
  stop-types-coded,
  λ t. (wanted-most t, row_room t),
  λ t. (first-offset t, offset-next t, offset-within t),
  cells-apart,
  row-flat,
  absent-width,
  old-stays,
  forms-share,
  forms-differ,
  forms-agree,
)
