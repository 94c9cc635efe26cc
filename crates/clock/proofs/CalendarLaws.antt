-- Dates counted from 2000-01-01, and the month of a day from a guess. Assumes nothing.
use mathlib.Core.Path.{◌≡◌, ◌∙◌, refl, sym, ap}
use mathlib.Core.Bool.{true}
use Prim.Native.Nat.{ℕ, zero, suc, ◌+◌, ◌-◌, ◌*◌, ◌/◌, ◌%◌, ◌<◌, ◌≤◌}
use native.Mathlib.Decide.{dec_le}
use native.Mathlib.Omega.{arith}
use Rattle.clock.specs.Date.{year, month, day, date_from, days_in, is_date, next_date}
use Rattle.clock.specs.Moment.{month_start, month_of, day_count, date_on}
use Rattle.clock.proofs.DateLaws.{parts, days-range, remade}
use Rattle.clock.proofs.MonthLaws.{month-step, month-end, month-rise, month-guessed, month-below, day-within, day-below}
use Rattle.clock.proofs.DayLaws.{first-day, after, counts_same}

date-start : date_on 0 ≡ 20000101
unfolding date_on
date-start = refl

pub date-step : (k : ℕ) → date_on (suc k) ≡ next_date (date_on k)
unfolding date_on
date-step k = refl

last-day : (is_date 20991231 ≡ true) × (day_count 20991231 ≡ 36524)
unfolding is_date days_in day_count month_start
last-day = (refl, refl)

-- each day of the century has a date, with its count
pub dated : (t : ℕ) → t < 36525 → (is_date (date_on t) ≡ true) × (day_count (date_on t) ≡ t)
dated zero h = rw date-start first-day
dated (suc t) h = rw (date-step t) (go (dated t (omega arith)))
  where
    go : (is_date (date_on t) ≡ true) × (day_count (date_on t) ≡ t) → (is_date (next_date (date_on t)) ≡ true) × (day_count (next_date (date_on t)) ≡ suc t)
    go p =
        let a = after (date_on t) p.0 (λ e. absurd (omega (arith, p.1, ap day_count e, last-day.1))) in
        (a.0, omega (arith, a.1, p.1))

pub date-counted : (d : ℕ) → is_date d ≡ true → date_on (day_count d) ≡ d
date-counted d e =
    let p = dated (day_count d) (day-below d e) in
    counts_same (date_on (day_count d)) d p.0 e p.1

-- and the day after its last one
pub century-over : next_date 20991231 ≡ 21000101
unfolding next_date days_in
century-over = refl

last-date : date_on 36525 ≡ 21000101
last-date =
    date-step 36524
    ∙ ap next_date (sym (ap date_on last-day.1) ∙ date-counted 20991231 last-day.0)
    ∙ century-over

-- what the date n of day t has in the century and on the day after it
record Day (t n : ℕ) : Type 0 where
  pub from-2000 : 2000 ≤ year n
  pub from-1 : 1 ≤ month n
  pub to-12 : month n ≤ 12
  pub first : 1 ≤ day n
  pub counted : month_start (month_of n) + (day n - 1) ≡ t
  pub within : t < month_start (suc (month_of n))
  pub below : month_of n < 1201

in-century : (t : ℕ) → t < 36525 → Day t (date_on t)
unfolding day_count
in-century t h =
    let d = dated t h in
    let p = parts (date_on t) d.0 in
    record {
      from-2000 = p.from-2000;
      from-1 = p.from-1;
      to-12 = p.to-12;
      first = p.first;
      counted = d.1;
      within = omega (arith, d.1, day-within (date_on t) d.0);
      below = omega (arith, month-below (date_on t) d.0);
    }

day-after : Day 36525 21000101
day-after =
    record {
      from-2000 = omega arith;
      from-1 = omega arith;
      to-12 = omega arith;
      first = omega arith;
      counted = omega (arith, month-end);
      within = omega (arith, month-end, month-step 1200, (days-range 2100 1).0);
      below = omega arith;
    }

day-of : (t : ℕ) → t < 36526 → Day t (date_on t)
day-of t h = go (dec_le 36525 t)
  where
    go : Dec (36525 ≤ t) → Day t (date_on t)
    go (yes l) = let e : t ≡ 36525 = omega arith in rw (e, last-date) day-after
    go (no l) = in-century t (omega (arith, l))

-- ---- the month of day t, from the guess k

module _ (t : ℕ) (h : t < 36526) where
  abbrev month-is : ℕ
  month-is = month_of (date_on t)

  abbrev guess : ℕ
  guess = (t * 16 + 26) / 487

  pub guess-below : guess < 1201
  guess-below = omega arith

  near : (month-is ≤ guess) × (guess ≤ month-is + 1)
  near = let d = day-of t h in let g = month-guessed month-is d.below in go month-is (month_start month-is) (month_start (suc month-is)) (omega (arith, d.counted)) d.within g.0 g.1
    where
      go : (j a b : ℕ) → a ≤ t → t < b → j * 487 ≤ a * 16 + 26 → b * 16 + 10 < j * 487 + 974 → (j ≤ guess) × (guess ≤ j + 1)
      go j a b p q r s = (omega arith, omega arith)

  -- where the guess starts later than the day, it is the next month
  pub guess-over : t < month_start guess → (1 ≤ guess) × (guess - 1 ≡ month-is)
  guess-over l = go (dec_le guess month-is)
    where
      go : Dec (guess ≤ month-is) → (1 ≤ guess) × (guess - 1 ≡ month-is)
      go (yes m) =
          absurd (omega (arith, l, (day-of t h).counted, month-rise guess month-is m))
      go (no m) = let n = near.1 in (omega (arith, m), omega (arith, m))

  pub guess-right : month_start guess ≤ t → guess ≡ month-is
  guess-right l = go (dec_le guess month-is)
    where
      go : Dec (guess ≤ month-is) → guess ≡ month-is
      go (yes m) = let n = near.0 in omega arith
      go (no m) =
          absurd (omega (arith, l, (day-of t h).within, month-rise (suc month-is) guess (omega (arith, m))))

  -- the date, as it is put together from the month and its first day
  module _ (k : ℕ) (e : k ≡ month-is) where
    pub month-fits : k < 1201
    month-fits = omega (arith, e, (day-of t h).below)

    module _ (s : ℕ) (f : s ≡ month_start k) where
      since : s + (day (date_on t) - 1) ≡ t
      since = ap (λ (n : ℕ). n + (day (date_on t) - 1)) (f ∙ ap month_start e) ∙ (day-of t h).counted

      pub first_fits : s ≤ t
      first_fits = omega (arith, since)

      pub date-put : (2000 + k / 12) * 10000 + (k % 12 + 1) * 100 + (t - s + 1) ≡ date_on t
      date-put =
          let d = day-of t h in
          let y : 2000 + k / 12 ≡ year (date_on t) = omega (arith, e, d.from-2000, d.from-1, d.to-12) in
          let m : k % 12 + 1 ≡ month (date_on t) = omega (arith, e, d.from-2000, d.from-1, d.to-12) in
          let n : t - s + 1 ≡ day (date_on t) = omega (arith, since, d.first) in
          ap (λ (x : ℕ). date_from x (k % 12 + 1) (t - s + 1)) y
          ∙ ap (λ (x : ℕ). date_from (year (date_on t)) x (t - s + 1)) m
          ∙ ap (date_from (year (date_on t)) (month (date_on t))) n
          ∙ remade (date_on t)
