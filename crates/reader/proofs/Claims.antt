-- The claims of `specs/Claims.antt`. Assumes nothing.
use Prim.Native.Nat.{ℕ}
use mathlib.Core.Path.{◌≡◌}
use mathlib.Core.Bool.{true}
use mathlib.Core.List.{List, []}
use Rattle.columns.specs.declared.Table.TheVariants.{Message, Planning, Calendar}
use Rattle.reader.specs.Claims.{All}
use Rattle.passage.specs.Ranges.{update_in_range}
use Rattle.reader.specs.Rules.{items_of}
use Rattle.reader.specs.Staging.{short_items}
use Rattle.reader.specs.Staged.{PassFacts, ValidityFacts}
use Rattle.reader.proofs.RangeLaws.{rows-in-range}
use Rattle.reader.proofs.PlanRangeLaws.{passes-in-range, validities-in-range}
use Rattle.reader.proofs.LookLaws.{numbers-by-table}
use Rattle.reader.proofs.AnswerLaws.{accepted, rows-counted, accepted-each, desk-nothing, rows_few, planning-few, calendar-few, area-length}
use Rattle.reader.proofs.RefusalLaws.{too-long-exactly, syntax-exactly, long-exactly, form-exactly, field-exactly, owner-exactly}
use Rattle.reader.proofs.ItemLaws.{items-exactly, items-in-order}
use Rattle.reader.proofs.SaidLaws.{rows-say-lines}
use Rattle.reader.proofs.StagedLaws.{staged-rows}
use Rattle.reader.proofs.AlikeLaws.{forms-read-alike}

pub claims : All
claims = (
  items-exactly,
  items-in-order,
  rows-say-lines,
  accepted,
  too-long-exactly,
  syntax-exactly,
  long-exactly,
  form-exactly,
  field-exactly,
  owner-exactly,
  numbers-by-table,
  rows-counted,
  desk-nothing,
  rows_few,
  planning-few,
  calendar-few,
  λ f register sender d. accepted-each (Message f) register sender d (λ (r : List ℕ). update_in_range r ≡ true) (rows-in-range f register sender (items_of (Message f) d)),
  λ d. accepted-each Planning [] 0 d PassFacts (passes-in-range [] 0 (items_of Planning d)),
  λ d. accepted-each Calendar [] 0 d ValidityFacts (validities-in-range [] 0 (items_of Calendar d)),
  λ f register sender d.
      (rows-in-range f register sender (short_items (Message f) d), passes-in-range register sender (short_items Planning d), validities-in-range register sender (short_items Calendar d)),
  area-length,
  staged-rows,
  forms-read-alike,
)
