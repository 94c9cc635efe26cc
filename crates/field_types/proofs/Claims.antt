-- The claims on the types of fields, proved. Assumes nothing.
use mathlib.Core.Path.{◌≡◌, ◌∙◌, refl, sym, ap}
use mathlib.Core.Bool.{true}
use mathlib.Core.List.{List, []}
use Prim.Native.Nat.{ℕ, zero, suc, ◌+◌, ◌-◌, ◌^◌, ◌<◌, ◌≤◌}
use Prim.Native.String.{String}
use native.Mathlib.Omega.{arith}
use lib.ListN.{length, get_or}
use Rattle.std.specs.Prelude.{Option, Some, None}
use Rattle.lists.specs.Text.{bytes, same}
use Rattle.lists.proofs.LogicLaws.{within-true, in-range}
use Rattle.clock.specs.declared.OperatingSeconds.{OperatingSeconds}
use Rattle.clock.specs.Date.{is_date}
use Rattle.field_types.specs.Digits.{numeral, triple}
use Rattle.field_types.specs.Times.{clock, time_of, time}
use Rattle.field_types.specs.Dates.{date}
use Rattle.field_types.specs.Stamps.{stamp}
use Rattle.field_types.specs.Names.{name_from, bits, statuses, stop_types, flexibles, truths, showns, bit, status, stop_type, flexible, truth, shown}
use Rattle.field_types.specs.Written.{written}
use Rattle.field_types.specs.Claims.{NumbersRead, TimesRead, DatesRead, WrittenAs, StampsRead, StampsGiven, StampsTested, WordsExactly, WordsWithin, Words, EmptyOutside, NoContentOutside, All}
use Rattle.field_types.proofs.DigitLaws.{number-told, number-none, number-other, written_read}
use Rattle.field_types.proofs.TripleLaws.{clock-below, date-real}
use Rattle.field_types.proofs.WrittenLaws.{clock-written, date-written, stamp-written}
use Rattle.field_types.proofs.ExactLaws.{number-exact, clock-exact, date-exact, stamp-exact}
use Rattle.field_types.proofs.RangeLaws.{given-in-range, range-given}
use Rattle.field_types.proofs.NameLaws.{named}

-- ---- numbers

pub read-number-below : (most : ℕ) (f : List ℕ) (n : ℕ) → numeral most f ≡ Some n → n < 10 ^ most
read-number-below most f n e = (number-told most f (sym e)).below

numbers-read : NumbersRead
numbers-read most f n = (to, λ p. rw p.4 (written_read most p.0 n p.1 p.2 p.3))
  where
    to : numeral most f ≡ Some n → (k : ℕ) × (1 ≤ k) × (k ≤ most) × (n < 10 ^ k) × (f ≡ written k n)
    to e =
        let t = number-told most f (sym e) in
        (length f, t.some, t.few, t.small, number-exact most (length f) f refl (sym e))

-- ---- times

-- a time that is read is that of the seconds that `clock` reads
clock-of-time : (f : List ℕ) (s : OperatingSeconds) → time f ≡ Some s → Some s.0 ≡ clock 31 f
unfolding time
clock-of-time f s e = go (clock 31 f) refl e
  where
    go : (x : Option ℕ) → x ≡ clock 31 f → time_of x ≡ Some s → Some s.0 ≡ clock 31 f
    go (Some n) p q =
        let r : record { 0 = n } ≡ s = cc in
        ap Some (ap (λ (a : OperatingSeconds). a.0) (sym r)) ∙ p
    go None p q = absurd (let z : ◌≡◌ {A = ℕ} 0 1 = cc in omega arith)

pub read-time-below : (f : List ℕ) (s : OperatingSeconds) → time f ≡ Some s → s.0 < 115200
read-time-below f s e = clock-below 31 f (clock-of-time f s e)

times-read : TimesRead
unfolding time
times-read f s = (
  λ e. (read-time-below f s e, clock-exact 31 f (clock-of-time f s e)),
  λ p. rw p.1 (ap time_of (clock-written 31 s.0 (omega arith) p.0)),
)

-- ---- dates

pub read-date-real : (f : List ℕ) (d : ℕ) → date f ≡ Some d → is_date d ≡ true
read-date-real f d e = date-real f (sym e)

dates-read : DatesRead
dates-read f d = (λ e. (read-date-real f d e, date-exact f (sym e)), λ p. rw p.1 (date-written d p.0))

-- ---- stamps

stamps-read : StampsRead
stamps-read f n = (to, λ p. rw p.7 (stamp-written p.0 p.1 p.2 p.3 p.4 p.5 p.6) ∙ ap Some (sym p.8))
  where
    to : stamp f ≡ Some n → WrittenAs f n
    to e =
        let t = stamp-exact f (sym e) in
        (t.west, t.date, t.second, t.minutes, t.real, t.within, t.most, t.exact, t.seconds)

pub stamps-given : StampsGiven
stamps-given n = (range-given n, given-in-range n)

stamps-tested : StampsTested
stamps-tested n = (within-true 946634400 4102495199 n, λ r. in-range 946634400 4102495199 n r.0 r.1)

-- ---- words

words-within : (k : ℕ) (ws : List String) → WordsWithin (name_from k ws) k (k + length ws)
words-within k ws f n e = let t = named ws k f (sym e) in (t.from, t.below)

words-only : (k : ℕ) (ws : List String) (f : List ℕ) (n : ℕ) → name_from k ws f ≡ Some (k + n) → (n < length ws) × (f ≡ bytes (get_or ws n ""))
words-only k ws f n e =
    let t = named ws k f (sym e) in
    let q : k + n - k ≡ n = omega arith in
    (omega arith, t.word ∙ ap (λ (j : ℕ). bytes (get_or ws j "")) q)

-- each word is read as its place
bits_read : (n : ℕ) → n < 2 → name_from 0 bits (bytes (get_or bits n "")) ≡ Some (0 + n)
unfolding same
bits_read zero h = refl
bits_read (suc zero) h = refl
bits_read (suc (suc n)) h = absurd (omega arith)

statuses_read : (n : ℕ) → n < 6 → name_from 0 statuses (bytes (get_or statuses n "")) ≡ Some (0 + n)
unfolding same
statuses_read zero h = refl
statuses_read (suc zero) h = refl
statuses_read (suc (suc zero)) h = refl
statuses_read (suc (suc (suc zero))) h = refl
statuses_read (suc (suc (suc (suc zero)))) h = refl
statuses_read (suc (suc (suc (suc (suc zero))))) h = refl
statuses_read (suc (suc (suc (suc (suc (suc n)))))) h = absurd (omega arith)

stop-types-read : (n : ℕ) → n < 3 → name_from 0 stop_types (bytes (get_or stop_types n "")) ≡ Some (0 + n)
unfolding same
stop-types-read zero h = refl
stop-types-read (suc zero) h = refl
stop-types-read (suc (suc zero)) h = refl
stop-types-read (suc (suc (suc n))) h = absurd (omega arith)

flexibles-read : (n : ℕ) → n < 3 → name_from 1 flexibles (bytes (get_or flexibles n "")) ≡ Some (1 + n)
unfolding same
flexibles-read zero h = refl
flexibles-read (suc zero) h = refl
flexibles-read (suc (suc zero)) h = refl
flexibles-read (suc (suc (suc n))) h = absurd (omega arith)

truths-read : (n : ℕ) → n < 2 → name_from 0 truths (bytes (get_or truths n "")) ≡ Some (0 + n)
unfolding same
truths-read zero h = refl
truths-read (suc zero) h = refl
truths-read (suc (suc n)) h = absurd (omega arith)

showns-read : (n : ℕ) → n < 3 → name_from 0 showns (bytes (get_or showns n "")) ≡ Some (0 + n)
unfolding same
showns-read zero h = refl
showns-read (suc zero) h = refl
showns-read (suc (suc zero)) h = refl
showns-read (suc (suc (suc n))) h = absurd (omega arith)

words-exactly :
    (k : ℕ) (ws : List String) → ((n : ℕ) → n < length ws → name_from k ws (bytes (get_or ws n "")) ≡ Some (k + n)) → WordsExactly (name_from k ws) k ws
words-exactly k ws read f n = (words-only k ws f n, λ p. rw p.1 (read n p.0))

pub words : Words
unfolding bit status stop_type flexible truth shown
words = (
  words-within 0 bits,
  words-within 0 statuses,
  words-within 0 stop_types,
  words-within 1 flexibles,
  words-within 0 truths,
  words-within 0 showns,
  words-exactly 0 bits bits_read,
  words-exactly 0 statuses statuses_read,
  words-exactly 0 stop_types stop-types-read,
  words-exactly 1 flexibles flexibles-read,
  words-exactly 0 truths truths-read,
  words-exactly 0 showns showns-read,
)

-- ---- fields outside every type

empty-outside : EmptyOutside
unfolding time clock date triple stamp bit status stop_type flexible truth shown same
empty-outside = (λ most. sym (number-none most [] refl), refl, refl, refl, refl, refl, refl, refl, refl, refl)

pub no-content-outside : NoContentOutside
unfolding time clock date triple stamp bit status stop_type flexible truth shown same
no-content-outside = (λ most. sym (number-other most (bytes "\\0") refl), refl, refl, refl, refl, refl, refl, refl, refl, refl)

pub claims : All
claims = (
  numbers-read,
  times-read,
  dates-read,
  stamps-read,
  stamps-given,
  stamps-tested,
  words,
  empty-outside,
  no-content-outside,
)
