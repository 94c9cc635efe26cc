-- Laws of cells, over any kind, stop type and field. Assumes nothing.
use mathlib.Core.Path.{◌≡◌, refl}
use mathlib.Core.Bool.{Bool, true, false}
use mathlib.Core.List.{List, [], ◌∷◌}
use Prim.Native.Nat.{ℕ, zero, suc, ◌-◌, ◌<◌}
use native.Mathlib.Nat.{not-suc-le-zero}
use native.Mathlib.Omega.{arith}
use lib.ListN.{length, replicate}
use Rattle.std.specs.Prelude.{Option, Some, None}
use Rattle.lists.specs.Part.{some}
use Rattle.lists.specs.Logic.{on, within}
use Rattle.lists.specs.Each.{Bytes}
use Rattle.lists.specs.Text.{bytes, same}
use Rattle.lists.proofs.LogicLaws.{and-pass, within-true}
use Rattle.lists.proofs.EachLaws.{each_append}
use Rattle.lists.proofs.BigEndianLaws.{length-spelled, bytes-spelled}
use Rattle.clock.specs.declared.OperatingSeconds.{OperatingSeconds}
use Rattle.turbo.specs.Escape.{decode}
use Rattle.field_types.specs.Digits as Digits
use Rattle.field_types.specs.Dates as Dates
use Rattle.field_types.specs.Times.{time}
use Rattle.field_types.specs.Stamps as Stamps
use Rattle.field_types.specs.Names as Names
use Rattle.texts.specs.Texts.{all_text}
use Rattle.texts.specs.Texts as Texts
use Rattle.texts.proofs.KeptLaws.{text-is, kept-bytes, text-length}
use Rattle.columns.specs.declared.Kind.{Kind}
use Rattle.columns.specs.declared.Kind.TheVariants as Kinds
use Rattle.columns.specs.Cell.{width, null, number_cell, time_cell, text_cell, missing_time, time_at, cell}

-- ---- something is kept, or nothing

pub some-long : (l : List ℕ) → 0 < length l → some l ≡ true
some-long [] h = absurd (not-suc-le-zero h)
some-long (b ∷ l) h = refl

pub cell-none : (l : List ℕ) → some l ≡ false → l ≡ []
cell-none [] e = refl
cell-none (b ∷ l) e = absurd (let z : ◌≡◌ {A = ℕ} 0 1 = cc in omega arith)

-- ---- what holds of each kind's cell holds of every cell

module _ (P : Kind → List ℕ → Type 0) where
  pub by_kind :
      (k : Kind) (stop f : List ℕ)
      → P Kinds.Text (text_cell (Texts.text f))
      → P Kinds.Date (number_cell 4 (Dates.date f))
      → P Kinds.Journey (number_cell 4 (Digits.numeral 6 f))
      → P Kinds.Fortify (number_cell 1 (Digits.numeral 2 f))
      → P Kinds.Order (number_cell 2 (Digits.numeral 3 f))
      → P Kinds.Stamp (number_cell 4 (Stamps.stamp f))
      → P Kinds.Status (number_cell 1 (Names.status f))
      → P Kinds.Arrival (time_at (bytes "FIRST") stop f)
      → P Kinds.Departure (time_at (bytes "LAST") stop f)
      → P Kinds.StopType (number_cell 1 (Names.stop_type f))
      → P Kinds.Bit (number_cell 1 (Names.bit f))
      → P Kinds.Flexible (number_cell 1 (Names.flexible f))
      → P Kinds.Truth (number_cell 1 (Names.truth f))
      → P Kinds.Shown (number_cell 1 (Names.shown f))
      → P k (cell k stop f)
  unfolding cell
  by_kind Kinds.Text stop f t d j o r u s a e y b x v w = t
  by_kind Kinds.Date stop f t d j o r u s a e y b x v w = d
  by_kind Kinds.Journey stop f t d j o r u s a e y b x v w = j
  by_kind Kinds.Fortify stop f t d j o r u s a e y b x v w = o
  by_kind Kinds.Order stop f t d j o r u s a e y b x v w = r
  by_kind Kinds.Stamp stop f t d j o r u s a e y b x v w = u
  by_kind Kinds.Status stop f t d j o r u s a e y b x v w = s
  by_kind Kinds.Arrival stop f t d j o r u s a e y b x v w = a
  by_kind Kinds.Departure stop f t d j o r u s a e y b x v w = e
  by_kind Kinds.StopType stop f t d j o r u s a e y b x v w = y
  by_kind Kinds.Bit stop f t d j o r u s a e y b x v w = b
  by_kind Kinds.Flexible stop f t d j o r u s a e y b x v w = x
  by_kind Kinds.Truth stop f t d j o r u s a e y b x v w = v
  by_kind Kinds.Shown stop f t d j o r u s a e y b x v w = w

-- ---- widths

-- a list of w bytes, or none
abbrev Wide : ℕ → List ℕ → Type 0
Wide w l = some l ≡ true → length l ≡ w

wide-none : (w : ℕ) → Wide w []
wide-none w e = absurd (let z : ◌≡◌ {A = ℕ} 0 1 = cc in omega arith)

wide-number : (w : ℕ) (n : Option ℕ) → Wide w (number_cell w n)
wide-number w (Some v) e = length-spelled w v
wide-number w None e = wide-none w e

wide-time : (t : Option OperatingSeconds) → Wide 3 (time_cell t)
wide-time (Some s) e = length-spelled 3 s.0
wide-time None e = wide-none 3 e

wide-text : (f : List ℕ) → Wide 10 (text_cell (Texts.text f))
wide-text f = go (Texts.text f) refl
  where
    go : (t : Option (List ℕ)) → Texts.text f ≡ t → Wide 10 (text_cell t)
    go (Some t) p e = text-length f t p
    go None p e = wide-none 10 e

wide-choice : (w : ℕ) (b : Bool) (x y : List ℕ) → Wide w x → Wide w y → Wide w (on b x y)
wide-choice w true x y h k = h
wide-choice w false x y h k = k

wide-time-at : (word stop f : List ℕ) → Wide 3 (time_at word stop f)
wide-time-at word stop f =
    wide-choice 3 (same f null) _ _ (wide-choice 3 (same stop word) missing_time [] (λ e. refl) (wide-none 3)) (wide-time (time f))

-- a cell has its kind's width
pub cell-width : (k : Kind) (stop f : List ℕ) → some (cell k stop f) ≡ true → length (cell k stop f) ≡ width k
unfolding width
cell-width k stop f =
    by_kind (λ (n : Kind) (l : List ℕ). Wide (width n) l) k stop f
    (wide-text f)
    (wide-number 4 (Dates.date f))
    (wide-number 4 (Digits.numeral 6 f))
    (wide-number 1 (Digits.numeral 2 f))
    (wide-number 2 (Digits.numeral 3 f))
    (wide-number 4 (Stamps.stamp f))
    (wide-number 1 (Names.status f))
    (wide-time-at (bytes "FIRST") stop f)
    (wide-time-at (bytes "LAST") stop f)
    (wide-number 1 (Names.stop_type f))
    (wide-number 1 (Names.bit f))
    (wide-number 1 (Names.flexible f))
    (wide-number 1 (Names.truth f))
    (wide-number 1 (Names.shown f))

-- ---- bytes

bytes-text : (t : List ℕ) → all_text t ≡ true → Bytes t
bytes-text [] e = tt
bytes-text (x ∷ t) e =
    let b = and-pass (within 32 126 x) (all_text t) e in
    (omega (arith, within-true 32 126 x b.0), bytes-text t b.1)

bytes-zeros : (n : ℕ) → Bytes (replicate n 0)
bytes-zeros zero = tt
bytes-zeros (suc n) = (omega arith, bytes-zeros n)

abbrev IsByte : ℕ → Type 0
IsByte b = b < 256

bytes-kept : (f : List ℕ) → Bytes (text_cell (Texts.text f))
bytes-kept f = go (Texts.text f) refl
  where
    go : (t : Option (List ℕ)) → Texts.text f ≡ t → Bytes (text_cell t)
    go (Some t) e =
        let k = kept-bytes f t e in
        rw k.1
        (each_append IsByte (decode f) (replicate (10 - length (decode f)) 0)
        (bytes-text (decode f) (text-is (decode f) k.0).2) (bytes-zeros (10 - length (decode f))))
    go None e = tt

bytes-number : (w : ℕ) (n : Option ℕ) → Bytes (number_cell w n)
bytes-number w (Some v) = bytes-spelled w v
bytes-number w None = tt

bytes-time : (t : Option OperatingSeconds) → Bytes (time_cell t)
bytes-time (Some s) = bytes-spelled 3 s.0
bytes-time None = tt

bytes-choice : (b : Bool) (x y : List ℕ) → Bytes x → Bytes y → Bytes (on b x y)
bytes-choice true x y h k = h
bytes-choice false x y h k = k

bytes-time-at : (word stop f : List ℕ) → Bytes (time_at word stop f)
bytes-time-at word stop f =
    bytes-choice (same f null) _ _
    (bytes-choice (same stop word) missing_time [] (omega arith, (omega arith, (omega arith, tt))) tt)
    (bytes-time (time f))

-- a cell's bytes are below 256
pub cell-bytes : (k : Kind) (stop f : List ℕ) → Bytes (cell k stop f)
cell-bytes k stop f =
    by_kind (λ (n : Kind) (l : List ℕ). Bytes l) k stop f
    (bytes-kept f)
    (bytes-number 4 (Dates.date f))
    (bytes-number 4 (Digits.numeral 6 f))
    (bytes-number 1 (Digits.numeral 2 f))
    (bytes-number 2 (Digits.numeral 3 f))
    (bytes-number 4 (Stamps.stamp f))
    (bytes-number 1 (Names.status f))
    (bytes-time-at (bytes "FIRST") stop f)
    (bytes-time-at (bytes "LAST") stop f)
    (bytes-number 1 (Names.stop_type f))
    (bytes-number 1 (Names.bit f))
    (bytes-number 1 (Names.flexible f))
    (bytes-number 1 (Names.truth f))
    (bytes-number 1 (Names.shown f))
