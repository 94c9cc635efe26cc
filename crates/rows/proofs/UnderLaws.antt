-- A line under labels without a fault: each column's cell by where it stands, and the first field outside its type; and that the order of columns is free. Assumes nothing.
use mathlib.Core.Path.{◌≡◌, refl, sym, ap, ◌∙◌}
use mathlib.Core.Bool.{Bool, true, false}
use mathlib.Core.List.{List, []}
use mathlib.Core.Logic.{◌⊎◌, ⊎_elim}
use Prim.Native.Nat.{ℕ, zero, suc, ◌+◌, ◌≤◌, ◌<◌}
use native.Mathlib.Decide.{dec_lt}
use native.Mathlib.Omega.{arith}
use borrow.Author.Tests.{lt-ltb, le-ltb}
use lib.ListN.{length}
use lib.Seq.{ext_get_or}
use Rattle.lists.specs.Part.{some}
use Rattle.lists.specs.Rows.{flat}
use Rattle.turbo_labels.specs.Columns.{column_of}
use Rattle.turbo_labels.proofs.PlaceLaws.{place-missing}
use Rattle.columns.specs.declared.Table.{Table}
use Rattle.columns.specs.Tables.{columns_in, name_of, stop_field, cells_of, row_of, wrong_column, label_fault}
use Rattle.columns.specs.Layout.{wanted, column_at, optional_at}
use Rattle.rows.proofs.LabelLaws.{Once, stands-place, faultless, must-stand, place_is}
use Rattle.rows.specs.Claims.{Stands, cell_by, OutsideType, Alike}
use Rattle.rows.proofs.RowLaws.{cell_for, of_length, cell-at, all_right, none-wrong, first-wrong}

-- ---- cells by where columns stand

module _ (t : Table) (labels : List (List ℕ)) (e : label_fault t labels ≡ false) where
  module _ (line : List ℕ) (j : ℕ) (h : j < wanted t) where
    -- its cell, by where it stands
    pub cell-stands : (p : ℕ) → Stands t labels j p → cell_for t labels line j ≡ cell_by t labels line j p
    cell-stands p s = rw (place_is t labels e j h p s, lt-ltb p (length labels) s.0)

    pub cell-absent : ((p : ℕ) → Stands t labels j p → ⊥) → cell_for t labels line j ≡ (column_at t j).absent
    cell-absent f =
        let m : column_of (name_of (column_at t j)) labels ≡ length labels = (place-missing (name_of (column_at t j)) labels).1 (λ p l q. f p (l, q)) in
        rw (le-ltb (column_of (name_of (column_at t j)) labels) (length labels) (omega arith))

    -- a column whose cell is wrong stands in the line
    wrong-stands : some (cell_for t labels line j) ≡ false → column_of (name_of (column_at t j)) labels < length labels
    unfolding optional_at
    wrong-stands w = go (dec_lt (column_of (name_of (column_at t j)) labels) (length labels))
      where
        go : Dec (column_of (name_of (column_at t j)) labels < length labels) → column_of (name_of (column_at t j)) labels < length labels
        go (yes l) = l
        go (no l) =
            let n : length labels ≤ column_of (name_of (column_at t j)) labels = omega (arith, l) in
            must-stand t labels e j h (rw (le-ltb (column_of (name_of (column_at t j)) labels) (length labels) n) at w)

    wrong-outside : some (cell_for t labels line j) ≡ false → OutsideType t labels line (column_of (name_of (column_at t j)) labels)
    wrong-outside w =
        let s = stands-place t labels j (wrong-stands w) in
        (j, h, s, ap some (sym (cell-stands _ s)) ∙ w)

  module _ (line : List ℕ) where
    pub right-none : wrong_column t labels line ≡ 0 → (p : ℕ) → OutsideType t labels line p → ⊥
    right-none w p (j, h, s, q) =
        let y = all_right t labels line w j h in
        let x = ap some (cell-stands line j h p s) in
        let z : ◌≡◌ {A = ℕ} 0 1 = cc in
        omega arith

    pub none_right : ((p : ℕ) → OutsideType t labels line p → ⊥) → wrong_column t labels line ≡ 0
    none_right f = none-wrong t labels line (λ k h. go k h (some (cell_for t labels line k)) refl)
      where
        go : (k : ℕ) → k < wanted t → (b : Bool) → some (cell_for t labels line k) ≡ b → b ≡ true
        go k h true q = refl
        go k h false q = absurd (f (column_of (name_of (column_at t k)) labels) (wrong-outside line k h q))

    pub first-outside : (p : ℕ) → wrong_column t labels line ≡ p + 1 → OutsideType t labels line p × ((q : ℕ) → OutsideType t labels line q → p ≤ q)
    first-outside p w =
        let f = first-wrong t labels line p w in
        let g = f.2 in (
          rw (← f.1) at (wrong-outside line f.0 g.within g.wrong),
          λ q o.
              let l = g.least o.0 o.1 (ap some (cell-stands line o.0 o.1 q o.2) ∙ o.3) in
              let m = place_is t labels e o.0 o.1 q o.2 in
              let n = f.1 in
              omega arith,
        )

    pub outside-first : (p : ℕ) → OutsideType t labels line p → ((q : ℕ) → OutsideType t labels line q → p ≤ q) → wrong_column t labels line ≡ p + 1
    outside-first p o f = go (wrong_column t labels line) refl
      where
        go : (w : ℕ) → wrong_column t labels line ≡ w → w ≡ p + 1
        go zero e = absurd (right-none e p o)
        go (suc n) e =
            let s = first-outside n (e ∙ omega arith) in
            let a = s.1 p o in
            let b = f n s.0 in
            omega arith

-- ---- the order of columns

module _ (t : Table) (labels : List (List ℕ)) (line : List ℕ) (labels' : List (List ℕ)) (line' : List ℕ) (f : (j : ℕ) → j < wanted t → Alike (name_of (column_at t j)) labels line labels' line') (s : stop_field labels line ≡ stop_field labels' line') where
  cell-alike : (j : ℕ) → j < wanted t → cell_for t labels line j ≡ cell_for t labels' line' j
  cell-alike j h =
      ⊎_elim
      (λ r. let a = r.0 in let b = r.1 in rw (le-ltb (column_of (name_of (column_at t j)) labels) (length labels) (omega arith), le-ltb (column_of (name_of (column_at t j)) labels') (length labels') (omega arith)))
      (λ r. rw (lt-ltb (column_of (name_of (column_at t j)) labels) (length labels) r.0, lt-ltb (column_of (name_of (column_at t j)) labels') (length labels') r.1, r.2, s))
      (f j h)

  pub row-alike : row_of t labels line ≡ row_of t labels' line'
  unfolding row_of
  row-alike =
      let a = of_length (columns_in t) labels line in
      let b = of_length (columns_in t) labels' line' in
      ap flat
      (ext_get_or [] (cells_of (columns_in t) labels line) (cells_of (columns_in t) labels' line') (omega arith)
      (λ k m. let h : k < wanted t = omega arith in cell-at t labels line k h ∙ cell-alike k h ∙ sym (cell-at t labels' line' k h)))

  pub right-alike : wrong_column t labels line ≡ 0 → wrong_column t labels' line' ≡ 0
  right-alike e = none-wrong t labels' line' (λ k h. ap some (sym (cell-alike k h)) ∙ all_right t labels line e k h)

  pub right-alike-back : wrong_column t labels' line' ≡ 0 → wrong_column t labels line ≡ 0
  right-alike-back e = none-wrong t labels line (λ k h. ap some (cell-alike k h) ∙ all_right t labels' line' e k h)

  pub fault-alike : Once t labels' → label_fault t labels ≡ false → label_fault t labels' ≡ false
  fault-alike o e = faultless t labels' o (λ j h m. (column_of (name_of (column_at t j)) labels', stands-place t labels' j (⊎_elim (λ r. absurd (let a = must-stand t labels e j h m in let b = r.0 in omega arith)) (λ r. r.1) (f j h))))
