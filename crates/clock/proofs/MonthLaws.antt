-- Month starts: they rise, and a formula gives them, proved by a test of its step at each month of the century and the first after it. Assumes nothing.
use mathlib.Core.Path.{◌≡◌, ◌∙◌, refl, sym, ap}
use mathlib.Core.Bool.{Bool, true, ◌&&◌}
use mathlib.Core.List.{List, [], ◌∷◌}
use Prim.Native.Nat.{ℕ, zero, suc, ◌+◌, ◌*◌, ◌/◌, ◌%◌, ◌<◌, ◌≤◌}
use native.Mathlib.Nat.{add-zero}
use native.Mathlib.Decide.{dec_le}
use native.Mathlib.Omega.{arith}
use borrow.Author.Tests.{lt-ltb, le-ltb, eq-eqb, ne_eqb}
use lib.Dec.{eqb, leb, ltb, eqb→eq, leb→le, ltb→lt}
use lib.ListN.{get_or}
use Rattle.lists.specs.Logic.{on}
use Rattle.clock.specs.Date.{year, month, days_in, is_date}
use Rattle.clock.specs.Moment.{month_start, month_of, day_count}
use Rattle.clock.proofs.BelowLaws.{both_left, both_right, below_at}
use Rattle.clock.proofs.DateLaws.{parts}

-- a month starts where the one before ends
pub month-step : (k : ℕ) → month_start (suc k) ≡ month_start k + days_in (2000 + k / 12) (k % 12 + 1)
unfolding month_start
month-step k = refl

-- the first month starts at day 0, and the 1,200 months end with day 36,524
pub month-first : month_start 0 ≡ 0
unfolding month_start
month-first = refl

pub month-end : month_start 1200 ≡ 36525
unfolding month_start days_in
month-end = refl

-- a later month starts no sooner
pub month-rise : (k j : ℕ) → k ≤ j → month_start k ≤ month_start j
month-rise k zero h = let e : k ≡ 0 = omega arith in rw e (omega arith)
month-rise k (suc j) h = go (dec_le k j) (λ l. month-rise k j l)
  where
    go : Dec (k ≤ j) → (k ≤ j → month_start k ≤ month_start j) → month_start k ≤ month_start (suc j)
    go (yes l) r = omega (arith, r l, month-step j)
    go (no l) r = let e : k ≡ suc j = omega (arith, l) in rw e (omega arith)

-- the days of a common year before each month
abbrev before : List ℕ
before = 0 ∷ 31 ∷ 59 ∷ 90 ∷ 120 ∷ 151 ∷ 181 ∷ 212 ∷ 243 ∷ 273 ∷ 304 ∷ 334 ∷ []

before-most : (i : ℕ) → i < 12 → get_or before i 0 ≤ 334
before-most i h = leb→le (get_or before i 0) 334 (below_at (λ n. leb (get_or before n 0) 334) 12 tt i h)

-- the day count at a month's first, but for the leap day of its own year
abbrev common : ℕ → ℕ
common k = k / 12 * 365 + (k / 12 + 3) / 4 + get_or before (k % 12) 0

unfoldable formula : ℕ → ℕ
formula k = common k + on (ltb (k % 12) 2) 0 (on (eqb (k / 12 % 4) 0) 1 0)

steps : ℕ → Bool
unfolding formula days_in
steps k = eqb (formula (suc k)) (formula k + days_in (2000 + k / 12) (k % 12 + 1))

month-formula : (k : ℕ) → k < 1202 → month_start k ≡ formula k
unfolding month_start formula steps days_in
month-formula zero h = refl
month-formula (suc k) h =
    ap (λ (n : ℕ). n + days_in (2000 + k / 12) (k % 12 + 1)) (month-formula k (omega arith))
    ∙ sym (eqb→eq (formula (suc k)) (formula k + days_in (2000 + k / 12) (k % 12 + 1)) (below_at steps 1201 tt k (omega arith)))

module _ (k : ℕ) (h : k < 1201) where
  pub common-most : common k ≤ 36859
  common-most = omega (arith, before-most (k % 12) (omega arith))

  pub month-early : k % 12 < 2 → common k ≡ month_start k
  unfolding formula
  month-early e = sym (month-formula k (omega arith) ∙ rw (lt-ltb (k % 12) 2 e) (add-zero (common k)))

  pub month-leap : 2 ≤ k % 12 → k / 12 % 4 ≡ 0 → common k + 1 ≡ month_start k
  unfolding formula
  month-leap l e = sym (month-formula k (omega arith) ∙ rw (le-ltb (k % 12) 2 l, eq-eqb (k / 12 % 4) 0 e))

  pub month-common : 2 ≤ k % 12 → (k / 12 % 4 ≡ 0 → ⊥) → common k ≡ month_start k
  unfolding formula
  month-common l e =
      sym (month-formula k (omega arith) ∙ rw (le-ltb (k % 12) 2 l, ne_eqb (k / 12 % 4) 0 e) (add-zero (common k)))

-- a month's number is at most what the guess from its days gives, and that is at most one more
guessed : ℕ → Bool
unfolding formula
guessed k = leb (k * 487) (formula k * 16 + 26) && ltb (formula (suc k) * 16 + 10) (k * 487 + 974)

pub month-guessed : (k : ℕ) → k < 1201 → (k * 487 ≤ month_start k * 16 + 26) × (month_start (suc k) * 16 + 10 < k * 487 + 974)
unfolding guessed formula
month-guessed k h =
    let t = below_at guessed 1201 tt k h in
    rw (month-formula k (omega arith), month-formula (suc k) (omega arith)) (
      leb→le (k * 487) (formula k * 16 + 26) (both_left (leb (k * 487) (formula k * 16 + 26)) (ltb (formula (suc k) * 16 + 10) (k * 487 + 974)) t),
      ltb→lt (formula (suc k) * 16 + 10) (k * 487 + 974) (both_right (leb (k * 487) (formula k * 16 + 26)) (ltb (formula (suc k) * 16 + 10) (k * 487 + 974)) t),
    )

-- a date's month is one of the 1,200, and has its length
module _ (n : ℕ) (e : is_date n ≡ true) where
  pub month-below : month_of n < 1200
  month-below = let p = parts n e in omega arith

  month-length : days_in (2000 + month_of n / 12) (month_of n % 12 + 1) ≡ days_in (year n) (month n)
  month-length =
      let p = parts n e in
      let y : 2000 + month_of n / 12 ≡ year n = omega arith in
      let m : month_of n % 12 + 1 ≡ month n = omega arith in
      ap (λ (a : ℕ). days_in a (month_of n % 12 + 1)) y ∙ ap (days_in (year n)) m

  -- the month after it starts where it ends
  pub month-after : month_start (suc (month_of n)) ≡ month_start (month_of n) + days_in (year n) (month n)
  month-after = month-step (month_of n) ∙ ap (λ (d : ℕ). month_start (month_of n) + d) month-length

  -- a date lies in its month
  pub day-within : day_count n < month_start (suc (month_of n))
  unfolding day_count
  day-within = omega (arith, (parts n e).first, (parts n e).last, month-after)

  pub day-below : day_count n < 36525
  day-below =
      omega (arith, day-within, month-rise (suc (month_of n)) 1200 (omega (arith, month-below)), month-end)

  pub month-most : month_start (month_of n) < 36525
  unfolding day_count
  month-most = omega (arith, day-below)
