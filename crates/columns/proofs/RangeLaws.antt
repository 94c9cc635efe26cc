-- What is kept of a field is in its type's range. Assumes nothing.
use mathlib.Core.Path.{◌≡◌, refl, ap}
use mathlib.Core.Bool.{Bool, true, false}
use mathlib.Core.List.{List, []}
use mathlib.Core.Logic.{◌↔◌, inl, inr}
use Prim.Native.Nat.{ℕ, ◌^◌, ◌<◌, ◌≤◌}
use native.Mathlib.Nat.{lt_of_lt_of_le}
use native.Mathlib.Omega.{arith}
use Rattle.std.specs.Prelude.{Option, Some, None}
use Rattle.lists.specs.Part.{some}
use Rattle.lists.specs.Logic.{on}
use Rattle.lists.specs.Text.{bytes, same}
use Rattle.lists.specs.BigEndian.{number, spelled}
use Rattle.lists.proofs.LogicLaws.{in-range}
use Rattle.lists.proofs.TextLaws.{same-equal, same_refl}
use Rattle.lists.proofs.BigEndianLaws.{number_spelled}
use Rattle.clock.specs.declared.OperatingSeconds.{OperatingSeconds}
use Rattle.clock.specs.Date.{is_date}
use Rattle.clock.proofs.DateLaws.{parts}
use Rattle.turbo.specs.Escape.{decode}
use Rattle.field_types.specs.Digits as Digits
use Rattle.field_types.specs.Dates as Dates
use Rattle.field_types.specs.Times as Clock
use Rattle.field_types.specs.Times.{time}
use Rattle.field_types.specs.Stamps.{in_stamp_range}
use Rattle.field_types.specs.Stamps as Stamps
use Rattle.field_types.specs.Names as Names
use Rattle.texts.specs.Texts.{padded, is_text}
use Rattle.texts.specs.Texts as Texts
use Rattle.field_types.specs.Claims.{WordsWithin}
use Rattle.field_types.proofs.Claims.{read-number-below, read-time-below, read-date-real, stamps-given, words, no-content-outside as outside}
use Rattle.texts.proofs.Claims as TextClaims
use Rattle.texts.proofs.KeptLaws.{kept-bytes}
use Rattle.columns.specs.declared.Kind.{Kind}
use Rattle.columns.specs.declared.Kind.TheVariants as Kinds
use Rattle.columns.specs.Cell.{null, number_cell, time_cell, text_cell, missing_time, time_at, cell}
use Rattle.columns.specs.Claims.{TextsInRange, DatesInRange, NumbersInRange, StampsInRange, WordsInRange, TimeOrMissing, TimesInRange, MissingExactly, NullKeepsNothing, EmptyKeepsNothing, StopTypesCoded}
use Rattle.columns.proofs.CellLaws.{by_kind}

never : {A : Type 0} → some [] ≡ true → A
never e = absurd (let z : ◌≡◌ {A = ℕ} 0 1 = cc in omega arith)

-- ---- numbers

-- what is kept of a number spells the number that was read
spells : (P : ℕ → Type 0) (w : ℕ) (x : Option ℕ) → ((v : ℕ) → x ≡ Some v → P v × (v < 256 ^ w)) → some (number_cell w x) ≡ true → P (number (number_cell w x))
spells P w (Some v) h e = let k = h v refl in rw (number_spelled w v k.1) k.0
spells P w None h e = never e

date-small : (n : ℕ) → is_date n ≡ true → n < 256 ^ 4
date-small n e = let p = parts n e in omega arith

pub dates-in-range : DatesInRange
unfolding cell
dates-in-range stop f =
    spells (λ (n : ℕ). is_date n ≡ true) 4 _ (λ v e. let d = read-date-real f v e in (d, date-small v d))

numbers-below : (most w : ℕ) (f : List ℕ) → 10 ^ most ≤ 256 ^ w → some (number_cell w (Digits.numeral most f)) ≡ true → number (number_cell w (Digits.numeral most f)) < 10 ^ most
numbers-below most w f h =
    spells (λ (n : ℕ). n < 10 ^ most) w (Digits.numeral most f) (λ v e. let b = read-number-below most f v e in (b, lt_of_lt_of_le b h))

pub numbers-in-range : NumbersInRange
unfolding cell
numbers-in-range = (
  λ stop f. numbers-below 6 4 f (omega arith),
  λ stop f. numbers-below 2 1 f (omega arith),
  λ stop f. numbers-below 3 2 f (omega arith),
)

pub stamps-in-range : StampsInRange
unfolding cell
stamps-in-range stop f =
    spells (λ (n : ℕ). in_stamp_range n ≡ true) 4 (Stamps.stamp f)
    (λ v e.
    let r = (stamps-given v).1 (f, e) in
    (in-range 946634400 4102495199 v r.0 r.1, omega arith))

-- what is kept of a word spells its code
words-below : (rule : List ℕ → Option ℕ) (k m : ℕ) → WordsWithin rule k m → m ≤ 256 → (f : List ℕ) → some (number_cell 1 (rule f)) ≡ true → (k ≤ number (number_cell 1 (rule f))) × (number (number_cell 1 (rule f)) < m)
words-below rule k m h l f =
    spells (λ (n : ℕ). (k ≤ n) × (n < m)) 1 (rule f) (λ v e. let b = h f v e in (b, omega arith))

pub words-in-range : WordsInRange
unfolding cell
words-in-range = (
  λ stop f e. let b = words-below Names.status 0 6 words.1 (omega arith) f e in omega arith,
  λ stop f e. let b = words-below Names.stop_type 0 3 words.2 (omega arith) f e in omega arith,
  λ stop f e. let b = words-below Names.bit 0 2 words.0 (omega arith) f e in omega arith,
  λ stop f e. let b = words-below Names.flexible 1 4 words.3 (omega arith) f e in (b.0, omega arith),
  λ stop f e. let b = words-below Names.truth 0 2 words.4 (omega arith) f e in omega arith,
  λ stop f e. let b = words-below Names.shown 0 3 words.5 (omega arith) f e in omega arith,
)

-- ---- texts

pub texts-in-range : TextsInRange
unfolding cell
texts-in-range stop f e = go (Texts.text f) refl e
  where
    go :
        (t : Option (List ℕ)) → Texts.text f ≡ t → some (text_cell t) ≡ true
        → (is_text (decode f) ≡ true) × (text_cell t ≡ padded (decode f))
    go (Some t) p h = kept-bytes f t p
    go None p h = never h

-- ---- times

time-below : (f : List ℕ) → some (time_cell (time f)) ≡ true → number (time_cell (time f)) < 115200
time-below f = go (time f) refl
  where
    go : (t : Option OperatingSeconds) → time f ≡ t → some (time_cell t) ≡ true → number (time_cell t) < 115200
    go (Some s) p h = let b = read-time-below f s p in rw (number_spelled 3 s.0 (omega arith)) b
    go None p h = never h

missing-number : number missing_time ≡ 16777215
unfolding number
missing-number = refl

time-or-missing : (word stop f : List ℕ) → some (time_at word stop f) ≡ true → TimeOrMissing word stop f (time_at word stop f)
time-or-missing word stop f = go (same f null) (same stop word) refl refl
  where
    go :
        (b c : Bool) → same f null ≡ b → same stop word ≡ c → some (on b (on c missing_time []) (time_cell (time f))) ≡ true
        → TimeOrMissing word stop f (on b (on c missing_time []) (time_cell (time f)))
    go true true p q e = inr (missing-number, same-equal f null p, same-equal stop word q)
    go true false p q e = never e
    go false c p q e = inl (time-below f e)

pub times-in-range : TimesInRange
unfolding cell
times-in-range stop f = (time-or-missing (bytes "FIRST") stop f, time-or-missing (bytes "LAST") stop f)

missing-there : (word stop : List ℕ) → (some (time_at word stop null) ≡ true) ↔ (stop ≡ word)
unfolding same
missing-there word stop = (to, λ e. rw (e, same_refl word))
  where
    to : some (time_at word stop null) ≡ true → stop ≡ word
    to e = go (same stop word) refl e
      where
        go : (b : Bool) → same stop word ≡ b → some (on b missing_time []) ≡ true → stop ≡ word
        go true p h = same-equal stop word p
        go false p h = never h

pub missing-exactly : MissingExactly
unfolding cell
missing-exactly stop = (missing-there (bytes "FIRST") stop, missing-there (bytes "LAST") stop)

-- ---- fields without content, and stop types

text-none : text_cell (Texts.text null) ≡ []
text-none = rw TextClaims.null-no-text

pub null-keeps-nothing : NullKeepsNothing
null-keeps-nothing k stop =
    by_kind (λ (n : Kind) (l : List ℕ). (n ≡ Kinds.Arrival → ⊥) → (n ≡ Kinds.Departure → ⊥) → l ≡ []) k stop null
    (λ a d. text-none)
    (λ a d. ap (number_cell 4) outside.2)
    (λ a d. ap (number_cell 4) (outside.0 6))
    (λ a d. ap (number_cell 1) (outside.0 2))
    (λ a d. ap (number_cell 2) (outside.0 3))
    (λ a d. ap (number_cell 4) outside.3)
    (λ a d. ap (number_cell 1) outside.5)
    (λ a d. absurd (a refl))
    (λ a d. absurd (d refl))
    (λ a d. ap (number_cell 1) outside.6)
    (λ a d. ap (number_cell 1) outside.4)
    (λ a d. ap (number_cell 1) outside.7)
    (λ a d. ap (number_cell 1) outside.8)
    (λ a d. ap (number_cell 1) outside.9)

pub empty-keeps-nothing : EmptyKeepsNothing
unfolding Texts.text Digits.numeral Digits.triple Dates.date Clock.clock time Stamps.stamp Names.status Names.stop_type Names.bit Names.flexible Names.truth Names.shown decode same
empty-keeps-nothing k stop =
    by_kind (λ (n : Kind) (l : List ℕ). l ≡ []) k stop []
    refl
    refl
    refl
    refl
    refl
    refl
    refl
    refl
    refl
    refl
    refl
    refl
    refl
    refl

pub stop-types-coded : StopTypesCoded
unfolding cell spelled Names.stop_type same
stop-types-coded stop = (refl, refl, refl)
