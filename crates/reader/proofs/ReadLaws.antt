use Prim.Native.Nat.{ℕ, ◌+◌, ◌≤◌}
use native.Mathlib.Omega.{arith}
use mathlib.Core.Path.{◌≡◌, refl, sym, ap, ◌∙◌}
use mathlib.Core.List.{List}
use lib.ListN.{length, take, replicate, length-replicate}
use lib.Seq.{take-take}
use Rattle.lists.specs.Part.{part, over}
use Rattle.lists.proofs.ReadLaws.{part-written}
use Rattle.columns.specs.declared.Table.{Table}
use Rattle.columns.specs.declared.Table.TheVariants.{Message, Planning, Calendar}
use Rattle.columns.specs.Tables.{row_of, row_width}
use Rattle.columns.specs.Layout.{widest_row}
use Rattle.register.specs.Register.{grants, may_send}
use Rattle.rows.specs.Shape.{IsShape}
use Rattle.rows.proofs.RowLaws.{shape-reads, shape-sound, row-length}
use Rattle.reader_step.specs.declared.State.{State}
use Rattle.reader_step.specs.declared.Place.TheVariants.{Under}
use Rattle.reader_step.specs.Place.{place_number}
use Rattle.reader.specs.Items.{Place, outside, awaiting, under}
use Rattle.reader_step.proofs.WidthLaws.{width-most, width-owner}
use Rattle.reader.proofs.FoldLaws.{Agrees, Reads}
use Rattle.reader.proofs.StageLaws.{Fronts}

-- What the reader uses of the rows below: a shape reads a line as the rule says, and the row stands in front of what is read. Assumes nothing.

module _ (t : Table) (r : List ℕ) (w : length r ≡ row_width t) where
  -- the front of what is read is the row
  pub row-front : take (row_width t) (over 0 r (replicate widest_row 0)) ≡ r
  unfolding part
  row-front =
      let h : 0 + length r ≤ length (replicate {A = ℕ} widest_row 0) = omega (arith, length-replicate {A = ℕ} widest_row 0, width-most t) in
      ap (λ (n : ℕ). take n (over 0 r (replicate widest_row 0))) (sym w) ∙ part-written 0 r (replicate widest_row 0) h

  owner-front : part 0 10 (over 0 r (replicate widest_row 0)) ≡ part 0 10 r
  unfolding part
  owner-front = sym (take-take 10 (row_width t) (over 0 r (replicate widest_row 0)) (width-owner t)) ∙ ap (take 10) row-front

pub sends-front : (t : Table) (register : List ℕ) (sender : ℕ) (r : List ℕ) → length r ≡ row_width t → may_send t register sender (over 0 r (replicate widest_row 0)) ≡ may_send t register sender r
sends-front (Message f) register sender r w = ap (grants register sender) (owner-front (Message f) r w)
sends-front Planning register sender r w = refl
sends-front Calendar register sender r w = refl

-- a line is read as the rule says, whatever its labels
pub line_reads : (t : Table) (register : List ℕ) (sender : ℕ) (l : List ℕ) → Reads t register sender l
line_reads t register sender l ls e = (shape-reads t ls l e, λ w. sends-front t register sender (row_of t ls l) (row-length t ls l w))

pub line-fronts : (t : Table) (l : List ℕ) → Fronts t l
line-fronts t l ls e w = (row-length t ls l w, row-front t (row_of t ls l) (row-length t ls l w))

-- a state under labels holds their shape
pub holds-shape : (t : Table) (s : State) (p : Place) → Agrees t s p → s.place ≡ Under → IsShape t s.shape
holds-shape t s outside a h = absurd (let e = ap place_number (sym a ∙ h) in omega arith)
holds-shape t s awaiting a h = absurd (let e = ap place_number (sym a ∙ h) in omega arith)
holds-shape t s (under ls) a h = rw a.1 (shape-sound t ls a.2)
