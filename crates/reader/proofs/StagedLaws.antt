use Prim.Native.Nat.{ℕ, ◌*◌, ◌/◌, ◌≤◌}
use native.Mathlib.Omega.{arith}
use native.Mathlib.Nat.{le-div_iff_mul-le}
use mathlib.Core.Path.{◌≡◌, sym, subst}
use mathlib.Core.List.{List, []}
use borrow.Author.Tests.{le-ltb}
use lib.ListN.{length}
use lib.Seq.{take_all}
use Rattle.std.specs.Prelude.{Ok}
use Rattle.lists.specs.Part.{over}
use Rattle.lists.specs.Rows.{flat, rows_of, Wide}
use Rattle.lists.proofs.OverLaws.{onto-fits}
use Rattle.lists.proofs.WideLaws.{length-flat, rows_of-flat}
use Rattle.turbo_lines.specs.Lines.{lines}
use Rattle.turbo_lines.proofs.LongLaws.{front-whole}
use Rattle.passage.specs.Layout.{body_wide}
use Rattle.columns.specs.declared.Form.{Form}
use Rattle.columns.specs.declared.Table.{Table}
use Rattle.columns.specs.declared.Table.TheVariants.{Message, Planning, Calendar}
use Rattle.columns.specs.Cell.{width}
use Rattle.columns.specs.Tables.{planning_columns, calendar_columns, columns_in, row_width}
use Rattle.columns.proofs.FormLaws.{message-wide}
use Rattle.reader.specs.Rules.{largest, data_rows, items_of, reading_of}
use Rattle.reader.specs.Staging.{staged_by}
use Rattle.reader.specs.Passes.{pass_wide, validity_wide}
use Rattle.reader_step.proofs.WidthLaws.{width_some}
use Rattle.reader.proofs.EachRowLaws.{rows-wide}
use Rattle.reader.proofs.AnswerLaws.{reading-looked, rows-counted, accepted-rows, accepted-each}

-- The staging area after a dossier that is accepted, read as rows. Assumes nothing.

-- rows that are written over the front of an area that has room for them are read back
over-rows : (w : ℕ) (rs : List (List ℕ)) (st : List ℕ) → Wide w rs → length rs * w ≤ length st → rows_of w (length rs) (over 0 (flat rs) st) ≡ rs
unfolding over
over-rows w rs st h f =
    let k : length (flat rs) ≤ length st = rw (length-flat w rs h) f in
    rw (onto-fits (flat rs) st k) (rows_of-flat w rs _ h)

module _ (t : Table) (register : List ℕ) (sender : ℕ) (d staging : List ℕ) (n : ℕ) (e : reading_of t register sender d ≡ Ok n) (room : n * row_width t ≤ length staging) where
  abbrev rs : List (List ℕ)
  rs = data_rows t (items_of t d)

  -- all rows fit
  pub staged-all : staged_by t register sender d staging ≡ over 0 (flat rs) staging
  unfolding staged_by
  staged-all =
      let k = reading-looked t register sender d n e in
      let c = rows-counted t register sender d n e in
      let m : n ≤ length staging / row_width t = (le-div_iff_mul-le (width_some t)).1 room in
      rw (le-ltb largest (length d) k.0, k.1, front-whole (lines d) k.2, accepted-rows t register sender d n e, take_all (length staging / row_width t) rs (omega arith))

  -- and are read back
  pub staged-rows : rows_of (row_width t) n (staged_by t register sender d staging) ≡ rs
  staged-rows =
      let c = rows-counted t register sender d n e in
      let f : length rs * row_width t ≤ length staging = rw (← c) room in
      let w = accepted-each t register sender d (λ (r : List ℕ). length r ≡ row_width t) (rows-wide t register sender (items_of t d)) n e in
      rw (staged-all, c) (over-rows (row_width t) rs staging w f)

-- with the width of each table's rows by its name

pub staged-updates : (f : Form) (register : List ℕ) (sender : ℕ) (d staging : List ℕ) (n : ℕ) → reading_of (Message f) register sender d ≡ Ok n → n * body_wide ≤ length staging
    → rows_of body_wide n (staged_by (Message f) register sender d staging) ≡ data_rows (Message f) (items_of (Message f) d)
staged-updates f register sender d staging n e room =
    subst (λ (w : ℕ). rows_of w n (staged_by (Message f) register sender d staging) ≡ data_rows (Message f) (items_of (Message f) d)) (message-wide f)
    (staged-rows (Message f) register sender d staging n e (subst (λ (w : ℕ). n * w ≤ length staging) (sym (message-wide f)) room))

pub staged-passes : (d staging : List ℕ) (n : ℕ) → reading_of Planning [] 0 d ≡ Ok n → n * pass_wide ≤ length staging
    → rows_of pass_wide n (staged_by Planning [] 0 d staging) ≡ data_rows Planning (items_of Planning d)
unfolding row_width columns_in planning_columns width
staged-passes = staged-rows Planning [] 0

pub staged-validities : (d staging : List ℕ) (n : ℕ) → reading_of Calendar [] 0 d ≡ Ok n → n * validity_wide ≤ length staging
    → rows_of validity_wide n (staged_by Calendar [] 0 d staging) ≡ data_rows Calendar (items_of Calendar d)
unfolding row_width columns_in calendar_columns width
staged-validities = staged-rows Calendar [] 0
