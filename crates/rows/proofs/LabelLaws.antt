-- What labels without a fault say of a column, and when they have none. Assumes nothing.
use mathlib.Core.Path.{◌≡◌, refl, sym, ap, ◌∙◌}
use mathlib.Core.Bool.{Bool, true, false}
use mathlib.Core.List.{List, [], ◌∷◌}
use Prim.Native.Nat.{ℕ, suc, ◌≤◌, ◌<◌}
use native.Mathlib.Decide.{dec_lt}
use native.Mathlib.Omega.{arith}
use borrow.Author.Tests.{lt-ltb}
use lib.Dec.{ltb}
use lib.ListN.{length, get_or}
use Rattle.lists.specs.Logic.{on}
use Rattle.turbo_labels.specs.Columns.{column_of, repeated, any_twice}
use Rattle.turbo_labels.proofs.ColumnLaws.{found-twice}
use Rattle.rows.specs.Shape.{places_of}
use Rattle.turbo_labels.specs.Claims.{Twice}
use Rattle.turbo_labels.proofs.PlaceLaws.{place-there, place-before, second-find, place-once}
use Rattle.columns.specs.declared.Table.{Table}
use Rattle.columns.specs.declared.Kind.TheVariants as Kinds
use Rattle.columns.specs.Tables.{Column, must, columns_in, names, name_of, is_optional, misses_in, misses, label_fault}
use Rattle.columns.specs.Layout.{wanted, column_at, optional_at}
use Rattle.columns.proofs.LayoutLaws.{names-wanted}
use Rattle.rows.specs.Claims.{Stands}
use Rattle.rows.proofs.ShapeLaws.{found-is}
use Rattle.rows.proofs.SoundLaws.{name-at, fault-parts, place_at, places-there}

misses-none : (cs : List Column) (labels : List (List ℕ)) (d : Column) → ((k : ℕ) → k < length cs → is_optional (get_or cs k d) ≡ false → column_of (name_of (get_or cs k d)) labels < length labels) → misses_in cs labels ≡ false
misses-none [] labels d f = refl
misses-none (c ∷ cs) labels d f = go (is_optional c) (f 0 (omega arith)) (misses-none cs labels d (λ k m. f (suc k) (omega arith)))
  where
    go : (b : Bool) → (b ≡ false → column_of (name_of c) labels < length labels) → misses_in cs labels ≡ false → on b (misses_in cs labels) (on (ltb (column_of (name_of c) labels) (length labels)) (misses_in cs labels) true) ≡ false
    go true g e = e
    go false g e = rw (lt-ltb _ _ (g refl)) e

-- no wanted name stands twice
abbrev pub Once : Table → List (List ℕ) → Type 0
Once t labels = (j : ℕ) → j < wanted t → Twice (name_of (column_at t j)) labels → ⊥

-- each column that must be there stands in the line
abbrev pub There : Table → List (List ℕ) → Type 0
There t labels = (j : ℕ) → j < wanted t → optional_at t j ≡ false → (p : ℕ) × Stands t labels j p

module _ (t : Table) (labels : List (List ℕ)) where
  pub stands-place : (j : ℕ) → column_of (name_of (column_at t j)) labels < length labels → Stands t labels j (column_of (name_of (column_at t j)) labels)
  stands-place j h = (h, place-there (name_of (column_at t j)) labels h)

  place-stands : (j p : ℕ) → Stands t labels j p → column_of (name_of (column_at t j)) labels ≤ p
  place-stands j p (h, q) = go (dec_lt p (column_of (name_of (column_at t j)) labels))
    where
      go : Dec (p < column_of (name_of (column_at t j)) labels) → column_of (name_of (column_at t j)) labels ≤ p
      go (yes l) = absurd (place-before (name_of (column_at t j)) labels p l q)
      go (no l) = omega (arith, l)

  once-names : Once t labels → any_twice (names t) labels ≡ false
  once-names f = go (any_twice (names t) labels) refl
    where
      go : (b : Bool) → any_twice (names t) labels ≡ b → b ≡ false
      go true e =
          let s = (second-find (names t) labels).0 (found-is t labels ∙ rw e) in
          let h : s.0 < wanted t = let l = s.1 in let n = names-wanted t in omega arith in
          absurd (f s.0 h (rw (name-at t s.0 h) at s.2))
      go false e = refl

  there-names : There t labels → misses t labels ≡ false
  unfolding misses optional_at column_at
  there-names f =
      misses-none (columns_in t) labels (must "" Kinds.Text)
      (λ k h o. let s = f k h o in let l = place-stands k s.0 s.1 in let m = s.1.0 in omega arith)

  pub faultless : Once t labels → There t labels → label_fault t labels ≡ false
  unfolding label_fault
  faultless f g = rw (once-names f, there-names g)

  module _ (e : label_fault t labels ≡ false) where
    pub once : Once t labels
    once j h w =
        let n : j < length (names t) = let l = names-wanted t in omega arith in
        let v : Twice (get_or (names t) j []) labels = rw (name-at t j h) w in
        let y = (second-find (names t) labels).1 (j, n, v) in
        let x = sym (found-twice (any_twice (names t) labels) (places_of t labels) repeated (sym (found-is t labels) ∙ y)) ∙ (fault-parts t labels e).0 in
        let z : ◌≡◌ {A = ℕ} 0 1 = cc in
        omega arith

    pub must-stand : (j : ℕ) → j < wanted t → optional_at t j ≡ false → column_of (name_of (column_at t j)) labels < length labels
    must-stand j h o = let a = places-there t labels e j h o in let b = place_at t labels e j h in let c = ap (λ (n : List ℕ). column_of n labels) (name-at t j h) in omega arith

    pub there : There t labels
    there j h o = (column_of (name_of (column_at t j)) labels, stands-place j (must-stand j h o))

    pub place_is : (j : ℕ) → j < wanted t → (p : ℕ) → Stands t labels j p → column_of (name_of (column_at t j)) labels ≡ p
    place_is j h p (l, q) = place-once (name_of (column_at t j)) labels p l q (once j h)
