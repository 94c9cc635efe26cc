-- What holds of the shape of a label line without a fault, in the shape's own terms. Assumes nothing.
use mathlib.Core.Path.{◌≡◌, refl, sym, ap, ◌∙◌}
use mathlib.Core.Bool.{Bool, true, false, ◌&&◌}
use mathlib.Core.List.{List, [], ◌∷◌, map}
use Prim.Native.Nat.{ℕ, zero, suc, ◌+◌, ◌≤◌, ◌<◌}
use native.Mathlib.Decide.{dec_lt}
use native.Mathlib.Omega.{arith}
use borrow.Author.Tests.{ltb-true, ltb-false}
use lib.Dec.{ltb}
use lib.ListN.{length, get_or, take, set, replicate, length-set, length-replicate, get_or-map}
use Rattle.lists.specs.Logic.{on}
use Rattle.lists.specs.Text.{same}
use Rattle.lists.specs.Part.{over}
use Rattle.lists.proofs.LogicLaws.{and-pass, or-fail}
use Rattle.lists.proofs.TextLaws.{same_refl}
use Rattle.turbo_labels.specs.Columns.{column_of, any_twice, places_from, columns_of, most}
use Rattle.turbo_labels.proofs.PlaceLaws.{place-there, each-place}
use Rattle.columns.specs.declared.Table.{Table}
use Rattle.columns.specs.declared.Form.TheVariants.{Old, New}
use Rattle.columns.specs.declared.Table.TheVariants.{Message, Planning, Calendar}
use Rattle.columns.specs.declared.Kind.TheVariants as Kinds
use Rattle.columns.specs.Tables.{Column, must, message_columns, planning_columns, calendar_columns, columns_in, names, name_of, is_optional, misses_in, misses, stop_place, label_fault}
use Rattle.columns.specs.Layout.{wanted, column_at, optional_at}
use Rattle.columns.proofs.LayoutLaws.{wanted-most, names-wanted}
use Rattle.rows.specs.declared.Shape.{Shape}
use Rattle.rows.specs.Shape.{IsShape, places_of, reading_order, shape_of}
use Rattle.rows.proofs.AheadLaws.{visits-length}
use Rattle.std.specs.Prelude.{Ok}
use Rattle.rows.proofs.ShapeLaws.{found-is}

-- ---- the wanted names are all different

abbrev none_of : List ℕ → List (List ℕ) → Bool
none_of w [] = true
none_of w (v ∷ vs) = on (same w v) false (none_of w vs)

abbrev different : List (List ℕ) → Bool
different [] = true
different (w ∷ ws) = none_of w ws && different ws

none-at : (w : List ℕ) (vs : List (List ℕ)) (k : ℕ) → none_of w vs ≡ true → k < length vs → w ≡ get_or vs k [] → ⊥
none-at w [] k e h q = omega arith
none-at w (v ∷ vs) zero e h q =
    let y : same w v ≡ true = rw q (same_refl v) in
    let x = rw y at e in
    let z : ◌≡◌ {A = ℕ} 0 1 = cc in
    omega arith
none-at w (v ∷ vs) (suc k) e h q = go (same w v) e (λ d. none-at w vs k d (omega arith) q)
  where
    go : (t : Bool) → on t false (none_of w vs) ≡ true → (none_of w vs ≡ true → ⊥) → ⊥
    go true x f = let z : ◌≡◌ {A = ℕ} 0 1 = cc in omega arith
    go false x f = f x

different-at : (ws : List (List ℕ)) (j k : ℕ) → different ws ≡ true → j < k → k < length ws → get_or ws j [] ≡ get_or ws k [] → ⊥
different-at [] j k e l h q = omega arith
different-at (w ∷ ws) j zero e l h q = omega arith
different-at (w ∷ ws) zero (suc k) e l h q = none-at w ws k (and-pass (none_of w ws) (different ws) e).0 (omega arith) q
different-at (w ∷ ws) (suc j) (suc k) e l h q = different-at ws j k (and-pass (none_of w ws) (different ws) e).1 (omega arith) (omega arith) q

names-different : (t : Table) → different (names t) ≡ true
unfolding names columns_in message_columns planning_columns calendar_columns same
names-different (Message Old) = refl
names-different (Message New) = refl
names-different Planning = refl
names-different Calendar = refl

-- two wanted columns have one name where they are one
pub one_name : (t : Table) (j k : ℕ) → j < wanted t → k < wanted t → get_or (names t) j [] ≡ get_or (names t) k [] → j ≡ k
one_name t j k a b q = go (dec_lt j k) (dec_lt k j)
  where
    go : Dec (j < k) → Dec (k < j) → j ≡ k
    go (yes m) d = absurd (different-at (names t) j k (names-different t) m (omega (arith, names-wanted t)) q)
    go (no m) (yes d) = absurd (different-at (names t) k j (names-different t) d (omega (arith, names-wanted t)) (sym q))
    go (no m) (no d) = omega (arith, m, d)

-- ---- what a label line without a fault says

-- the name of column k
name_in : (cs : List Column) (k : ℕ) (d : Column) → k < length cs → get_or (map name_of cs) k [] ≡ name_of (get_or cs k d)
name_in [] k d h = absurd (omega arith)
name_in (c ∷ cs) zero d h = refl
name_in (c ∷ cs) (suc k) d h = name_in cs k d (omega arith)

pub name-at : (t : Table) (k : ℕ) → k < wanted t → get_or (names t) k [] ≡ name_of (column_at t k)
unfolding names column_at
name-at t k h = name_in (columns_in t) k (must "" Kinds.Text) h

misses-at : (cs : List Column) (labels : List (List ℕ)) (k : ℕ) (d : Column) → misses_in cs labels ≡ false → k < length cs → is_optional (get_or cs k d) ≡ false → column_of (name_of (get_or cs k d)) labels < length labels
misses-at [] labels k d e h o = absurd (omega arith)
misses-at (c ∷ cs) labels zero d e h o = go (ltb (column_of (name_of c) labels) (length labels)) refl (rw o at e)
  where
    go : (t : Bool) → ltb (column_of (name_of c) labels) (length labels) ≡ t → on t (misses_in cs labels) true ≡ false → column_of (name_of c) labels < length labels
    go true q x = ltb-true _ _ q
    go false q x = absurd (let z : ◌≡◌ {A = ℕ} 0 1 = cc in omega arith)
misses-at (c ∷ cs) labels (suc k) d e h o = go (is_optional c) (ltb (column_of (name_of c) labels) (length labels)) e (λ x. misses-at cs labels k d x (omega arith) o)
  where
    go : (t u : Bool) → on t (misses_in cs labels) (on u (misses_in cs labels) true) ≡ false → (misses_in cs labels ≡ false → column_of (name_of (get_or cs k d)) labels < length labels) → column_of (name_of (get_or cs k d)) labels < length labels
    go true u x f = f x
    go false true x f = f x
    go false false x f = absurd (let z : ◌≡◌ {A = ℕ} 0 1 = cc in omega arith)

places-length : (i : ℕ) (ws fs : List (List ℕ)) (ps : List ℕ) → length (places_from i ws fs ps) ≡ length ps
unfolding places_from
places-length i [] fs ps = refl
places-length i (w ∷ ws) fs ps = places-length (suc i) ws fs (set ps i (column_of w fs)) ∙ length-set ps i (column_of w fs)

pub places-room : (t : Table) (labels : List (List ℕ)) → length (places_of t labels) ≡ most
places-room t labels = places-length 0 (names t) labels (replicate most 0) ∙ length-replicate {A = ℕ} most 0

module _ (t : Table) (labels : List (List ℕ)) (e : label_fault t labels ≡ false) where
  pub fault-parts : (any_twice (names t) labels ≡ false) × (misses t labels ≡ false)
  unfolding label_fault
  fault-parts = or-fail (any_twice (names t) labels) (misses t labels) e

  -- each place is that of the column's name
  pub place_at : (k : ℕ) → k < wanted t → get_or (places_of t labels) k 0 ≡ column_of (get_or (names t) k []) labels
  place_at k h =
      let n = names-wanted t in
      let w = wanted-most t in
      let f : columns_of (names t) labels ≡ Ok (places_of t labels) = found-is t labels ∙ rw fault-parts.0 in
      each-place (names t) labels (places_of t labels) (omega arith) f k (omega arith)

  pub places-apart : (j k : ℕ) → j < wanted t → k < wanted t → get_or (places_of t labels) j 0 ≡ get_or (places_of t labels) k 0 → get_or (places_of t labels) j 0 < length labels → j ≡ k
  places-apart j k a b q h =
      let x = place_at j a in
      let y = place_at k b in
      let u = place-there (get_or (names t) j []) labels (omega arith) in
      let v = place-there (get_or (names t) k []) labels (omega arith) in
      let z : column_of (get_or (names t) j []) labels ≡ column_of (get_or (names t) k []) labels = omega arith in
      one_name t j k a b (sym u ∙ ap (λ (i : ℕ). get_or labels i []) z ∙ v)

  pub places-there : (k : ℕ) → k < wanted t → optional_at t k ≡ false → get_or (places_of t labels) k 0 < length labels
  unfolding optional_at column_at misses
  places-there k h o =
      let n = name-at t k h in
      rw (place_at k h, n) (misses-at (columns_in t) labels k (must "" Kinds.Text) fault-parts.1 h o)

-- ---- the shape

-- the shape of a line without a fault
abbrev pub right_shape : Table → List (List ℕ) → Shape
right_shape t labels =
    record {
      fault = false;
      count = length labels;
      stop = stop_place labels;
      places = places_of t labels;
      found = length (reading_order t labels);
      order = over 0 (reading_order t labels) (replicate most 0);
    }

pub shape_is : (t : Table) (labels : List (List ℕ)) → label_fault t labels ≡ false → shape_of t labels ≡ right_shape t labels
unfolding shape_of
shape_is t labels e = rw e

pub right-sound : (t : Table) (labels : List (List ℕ)) → label_fault t labels ≡ false → IsShape t (right_shape t labels)
right-sound t labels e =
    record {
      room = places-room t labels;
      apart = places-apart t labels e;
      there = places-there t labels e;
      found = refl;
      order = refl;
    }

pub found-most : (t : Table) (h : Shape) → IsShape t h → h.found ≤ most
found-most t h g =
    let f = g.found in
    let w = wanted-most t in
    let v = visits-length (wanted t) (take (wanted t) h.places) h.count 0 in
    omega arith
