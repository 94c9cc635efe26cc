-- Laws of a label line's shape. Assumes nothing.
use mathlib.Core.Path.{◌≡◌, refl, sym, ap, ◌∙◌}
use mathlib.Core.Bool.{Bool, true, false}
use mathlib.Core.List.{List}
use Prim.Native.Nat.{ℕ}
use native.Mathlib.Omega.{arith}
use lib.ListN.{length, take, replicate}
use Rattle.lists.specs.Logic.{on}
use Rattle.lists.specs.Part.{over}
use Rattle.lists.proofs.LogicLaws.{or-true}
use Rattle.std.specs.Prelude.{Result, Ok, Err}
use Rattle.turbo_labels.specs.declared.Repeated.{Repeated}
use Rattle.turbo_labels.specs.Columns.{repeated, any_twice, places_from, columns_of, most}
use Rattle.turbo_labels.proofs.ColumnLaws.{found-once, found-twice}
use Rattle.columns.specs.declared.Table.{Table}
use Rattle.columns.specs.declared.Table.TheVariants.{Message, Planning, Calendar}
use Rattle.columns.specs.Tables.{message_columns, planning_columns, calendar_columns, columns_in, names, misses, stop_place, label_fault}
use Rattle.columns.specs.Layout.{wanted}
use Rattle.rows.specs.declared.Shape.{Shape}
use Rattle.rows.specs.Shape.{places_of, lacking, visits, reading_order, no_shape, shape_of}

-- what must be there and is missing, by the places
pub misses-lacking : (t : Table) (labels : List (List ℕ)) → misses t labels ≡ lacking (length labels) (columns_in t) (places_of t labels)
unfolding misses lacking columns_in message_columns planning_columns calendar_columns names places_from
misses-lacking (Message f) labels = refl
misses-lacking Planning labels = refl
misses-lacking Calendar labels = refl

-- ---- what the search for the names says

-- the search for the names that a table's constant has
pub names-found : {t u : Table} (ws labels : List (List ℕ)) {c : Result (List ℕ) Repeated} → c ≡ columns_of ws labels → ws ≡ names u → t ≡ u → c ≡ columns_of (names t) labels
names-found ws labels e n q = e ∙ rw (n, q)

-- it answers by whether one of them stands twice
pub found-is : (t : Table) (labels : List (List ℕ)) → columns_of (names t) labels ≡ on (any_twice (names t) labels) (Err repeated) (Ok (places_of t labels))
unfolding columns_of
found-is t labels = refl

-- ---- the shape, by the ways out of the code

-- no wanted name stands twice, and of n labels they stand at the places ps
pub record Searched (t : Table) (labels : List (List ℕ)) (ps : List ℕ) (n : ℕ) : Type 0 where
  pub once : any_twice (names t) labels ≡ false
  pub places : ps ≡ places_of t labels
  pub count : n ≡ length labels

module _ (t : Table) (labels : List (List ℕ)) {c : Result (List ℕ) Repeated} (e : c ≡ columns_of (names t) labels) where
  pub searched : {ps : List ℕ} {n : ℕ} → c ≡ Ok ps → n ≡ length labels → Searched t labels ps n
  searched {ps} q l =
      let o = found-once (any_twice (names t) labels) (places_of t labels) ps (sym (found-is t labels) ∙ sym e ∙ q) in
      record { once = o.0; places = sym o.1; count = l }

  -- one stands twice
  pub shape-twice : (r : Repeated) → c ≡ Err r → no_shape ≡ shape_of t labels
  unfolding shape_of label_fault
  shape-twice r q = rw (found-twice (any_twice (names t) labels) (places_of t labels) r (sym (found-is t labels) ∙ sym e ∙ q))

module _ {t : Table} {labels : List (List ℕ)} {ps : List ℕ} {n : ℕ} {b : Bool} (g : Searched t labels ps n) (l : b ≡ lacking n (columns_in t) ps) where
  missing : misses t labels ≡ b
  missing = misses-lacking t labels ∙ sym (l ∙ rw (g.places, g.count))

  -- one that must be there is missing
  pub shape-lacking : b ≡ true → no_shape ≡ shape_of t labels
  unfolding shape_of label_fault
  shape-lacking q = rw (missing ∙ q, or-true (any_twice (names t) labels))

  -- none is
  pub shape-right :
      {s w found : ℕ} {vs : List ℕ} → b ≡ false → s ≡ stop_place labels → w ≡ wanted t
      → found ≡ length (visits w (take w ps) n 0) → vs ≡ over 0 (visits w (take w ps) n 0) (replicate most 0)
      → record { fault = false; count = n; stop = s; places = ps; found = found; order = vs } ≡ shape_of t labels
  unfolding shape_of label_fault
  shape-right q u x y z = rw (g.once, missing ∙ q, y, z, u, x, g.places, g.count)
