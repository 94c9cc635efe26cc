use Prim.Native.Nat.{ℕ, suc, ◌+◌, ◌*◌, ◌^◌, ◌<◌}
use Prim.Native.String.{String}
use native.Mathlib.Omega.{arith}
use mathlib.Core.Path.{◌≡◌, refl, sym, ap, subst, ◌∙◌}
use mathlib.Core.Bool.{Bool, true, false}
use mathlib.Core.List.{List, [], ◌∷◌}
use mathlib.Core.Logic.{◌⊎◌, inl, inr, ⊎_elim}
use borrow.Author.Tests.{ltb-true}
use lib.Dec.{ltb}
use lib.ListN.{length, get_or}
use Rattle.lists.specs.Logic.{on}
use Rattle.lists.specs.Text.{bytes, same}
use Rattle.lists.specs.Part.{part, some}
use Rattle.lists.specs.BigEndian.{number}
use Rattle.lists.proofs.PartLaws.{part-cons, part-zero}
use Rattle.turbo.specs.Split.{field_at}
use Rattle.turbo_labels.specs.Columns.{column_of, field_under}
use Rattle.turbo_labels.proofs.LookupLaws.{under-found}
use Rattle.turbo.specs.Escape.{decode}
use Rattle.columns.specs.declared.Table.{Table}
use Rattle.columns.specs.declared.Kind.{Kind}
use Rattle.columns.specs.declared.Kind.TheVariants as Kinds
use Rattle.columns.specs.Cell.{cell, null, width}
use Rattle.columns.specs.Claims.{TimeOrMissing}
use Rattle.columns.specs.Tables.{Column, must, may, names, stop_field, cell_under, row_of, row_width, wrong_column}
use Rattle.columns.specs.Layout.{wanted, column_at, kind_at, offset}
use Rattle.columns.proofs.RangeLaws.{texts-in-range}
use Rattle.rows.proofs.RowLaws.{all_right, row-length, row-part}
use Rattle.passage.specs.Ranges.{padded_text}
use Rattle.passage.specs.Facts.{TimeFacts}
use Rattle.passage.proofs.PaddedLaws.{padded-text}

-- What stands in a row: at each column's place its cell, and so what is known of cells. Assumes nothing.

-- one byte's number is the byte
byte-number : (p : ℕ) (b : List ℕ) → p < length b → number (part p 1 b) ≡ get_or b p 0
unfolding number
byte-number p b h = rw (part-cons p 0 b h, part-zero (suc p) b) (omega arith)

module _ (labels : List (List ℕ)) (line : List ℕ) (name : String) (k : Kind) where
  -- the cell of the field under the name
  abbrev from_field : List ℕ
  from_field = cell k (stop_field labels line) (field_at (column_of (bytes name) labels) line)

  -- a column that must be there gives its field's cell
  pub must-cell : some (cell_under labels line (must name k)) ≡ true → (cell_under labels line (must name k) ≡ from_field) × (some from_field ≡ true)
  must-cell = go (ltb (column_of (bytes name) labels) (length labels))
    where
      go : (b : Bool) → some (on b from_field []) ≡ true → (on b from_field [] ≡ from_field) × (some from_field ≡ true)
      go true e = (refl, e)
      go false e = absurd (let z : ◌≡◌ {A = ℕ} 0 1 = cc in omega arith)

  -- and its name is found
  must-found : some (cell_under labels line (must name k)) ≡ true → field_at (column_of (bytes name) labels) line ≡ field_under (column_of (bytes name) labels) (length labels) line
  must-found = go (ltb (column_of (bytes name) labels) (length labels)) refl
    where
      go : (b : Bool) → ltb (column_of (bytes name) labels) (length labels) ≡ b → some (on b from_field []) ≡ true
          → field_at (column_of (bytes name) labels) line ≡ field_under (column_of (bytes name) labels) (length labels) line
      go true q e = under-found (column_of (bytes name) labels) (length labels) line (ltb-true _ _ q)
      go false q e = absurd (let z : ◌≡◌ {A = ℕ} 0 1 = cc in omega arith)

  -- one that may be absent gives that, or what is kept then
  may-cell : (a : ℕ) (more : List ℕ) → some (cell_under labels line (may name k (a ∷ more))) ≡ true
      → (cell_under labels line (may name k (a ∷ more)) ≡ a ∷ more) ⊎ ((cell_under labels line (may name k (a ∷ more)) ≡ from_field) × (some from_field ≡ true))
  may-cell a more = go (ltb (column_of (bytes name) labels) (length labels)) (same (field_at (column_of (bytes name) labels) line) null)
    where
      go : (b d : Bool) → some (on b (on d (a ∷ more) from_field) (a ∷ more)) ≡ true
          → (on b (on d (a ∷ more) from_field) (a ∷ more) ≡ a ∷ more) ⊎ ((on b (on d (a ∷ more) from_field) (a ∷ more) ≡ from_field) × (some from_field ≡ true))
      go true true e = inl refl
      go true false e = inr (refl, e)
      go false d e = inl refl

-- the line l under the labels ls has no wrong column
pub record Right (t : Table) (ls : List (List ℕ)) (l : List ℕ) : Type 0 where
  pub none : wrong_column t ls l ≡ 0

module _ {t : Table} {ls : List (List ℕ)} {l : List ℕ} (right : Right t ls l) where
  abbrev body : List ℕ
  body = row_of t ls l

  abbrev stop : List ℕ
  stop = stop_field ls l

  abbrev field_of : String → List ℕ
  field_of name = field_at (column_of (bytes name) ls) l

  -- the w bytes at this place are the cell of the column c, which is right
  abbrev Stands : ℕ → ℕ → Column → Type 0
  Stands at w c = (part at w body ≡ cell_under ls l c) × (some (cell_under ls l c) ≡ true)

  -- what stands at column j's place
  pub there : (j : ℕ) → j < wanted t → Stands (offset t j) (width (kind_at t j)) (column_at t j)
  there j h = (row-part t ls l right.none j h, all_right t ls l right.none j h)

  -- by its name: so a column more moves no place that is written out
  pub named : (name : String) → column_of (bytes name) (names t) < wanted t
      → let j = column_of (bytes name) (names t) in
      Stands (offset t j) (width (kind_at t j)) (column_at t j)
  named name h = there (column_of (bytes name) (names t)) h

  module _ (at w : ℕ) (k : Kind) (name : String) (x : Stands at w (must name k)) where
    held : (part at w body ≡ cell k stop (field_of name)) × (some (cell k stop (field_of name)) ≡ true)
    held = let m = must-cell ls l name k x.1 in (x.0 ∙ m.0, m.1)

    pub spelled-in : (P : ℕ → Type 0) → (some (cell k stop (field_of name)) ≡ true → P (number (cell k stop (field_of name)))) → P (number (part at w body))
    spelled-in P f = subst P (ap number (sym held.0)) (f held.1)

  pub text_in : (at : ℕ) (name : String) → Stands at 10 (must name Kinds.Text) → padded_text (part at 10 body) ≡ true
  text_in at name x =
      let h = held at 10 Kinds.Text name x in
      let k = texts-in-range stop (field_of name) h.1 in
      ap padded_text (h.0 ∙ k.1) ∙ padded-text (decode (field_of name)) k.0

  -- a field of one byte
  number-byte : (at : ℕ) → at < row_width t → number (part at 1 body) ≡ get_or body at 0
  number-byte at h = byte-number at body (let w = row-length t ls l right.none in omega arith)

  pub byte-in : (at : ℕ) (k : Kind) (name : String) (P : ℕ → Type 0) → at < row_width t → Stands at 1 (must name k)
      → (some (cell k stop (field_of name)) ≡ true → P (number (cell k stop (field_of name)))) → P (get_or body at 0)
  byte-in at k name P h x f = subst P (number-byte at h) (spelled-in at 1 k name x P f)

  -- an optional of any width: what is kept of an absent one, or what its field gives
  pub optional-part : (at w : ℕ) (k : Kind) (a : ℕ) (more : List ℕ) (name : String) (P : List ℕ → Type 0) → Stands at w (may name k (a ∷ more))
      → (some (cell k stop (field_of name)) ≡ true → P (cell k stop (field_of name))) → P (part at w body) ⊎ (part at w body ≡ a ∷ more)
  optional-part at w k a more name P x f =
      ⊎_elim (λ q. inr (x.0 ∙ q)) (λ q. inl (subst P (sym (x.0 ∙ q.0)) (f q.1))) (may-cell ls l name k a more x.1)

  -- and of one byte
  pub optional-in : (at : ℕ) (k : Kind) (a : ℕ) (name : String) (P : ℕ → Type 0) → at < row_width t → Stands at 1 (may name k (a ∷ []))
      → (some (cell k stop (field_of name)) ≡ true → P (number (cell k stop (field_of name)))) → P (get_or body at 0) ⊎ (get_or body at 0 ≡ a)
  unfolding number
  optional-in at k a name P h x f =
      let z : a * 256 ^ 0 + 0 ≡ a = omega arith in
      ⊎_elim (λ q. inl (subst P (number-byte at h) q)) (λ q. inr (sym (number-byte at h) ∙ ap number q ∙ z))
      (optional-part at 1 k a [] name (λ (bs : List ℕ). P (number bs)) x f)

  -- times, where the stop type stands at this place
  module _ (at : ℕ) (h : at < row_width t) (type : Stands at 1 (must "JourneyStopType" Kinds.StopType)) where
    -- the stop type where its field is this word
    coded : (word : List ℕ) (n : ℕ) → stop ≡ word → cell Kinds.StopType stop word ≡ n ∷ [] → get_or body at 0 ≡ n
    unfolding number
    coded word n q c =
        sym (number-byte at h)
        ∙ ap number ((held at 1 Kinds.StopType "JourneyStopType" type).0 ∙ ap (cell Kinds.StopType stop) (must-found ls l "JourneyStopType" Kinds.StopType type.1 ∙ q) ∙ c)
        ∙ (let z : n * 256 ^ 0 + 0 ≡ n = omega arith in z)

    -- a time, or a missing one at the stop whose type is this word
    pub time-in : (word : List ℕ) (n p : ℕ) (k : Kind) (name : String) → cell Kinds.StopType stop word ≡ n ∷ []
        → (some (cell k stop (field_of name)) ≡ true → TimeOrMissing word stop (field_of name) (cell k stop (field_of name)))
        → Stands p 3 (must name k) → TimeFacts n (get_or body at 0) (number (part p 3 body))
    time-in word n p k name c f x =
        let e = held p 3 k name x in
        ⊎_elim
        (λ q. inl (subst (λ (m : ℕ). m < 115200) (ap number (sym e.0)) q))
        (λ q. inr (coded word n q.2 c, ap number e.0 ∙ q.0))
        (f e.1)
