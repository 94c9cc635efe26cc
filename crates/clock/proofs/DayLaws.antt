-- Day counts: they rise with the date, by one from day to day, and reach every number below 36,525. Assumes nothing.
use mathlib.Core.Path.{◌≡◌, ◌∙◌, refl, sym, ap}
use mathlib.Core.Bool.{true}
use Prim.Native.Nat.{ℕ, zero, suc, ◌+◌, ◌-◌, ◌*◌, ◌/◌, ◌%◌, ◌<◌, ◌≤◌}
use native.Mathlib.Decide.{dec_le}
use native.Mathlib.Omega.{arith}
use borrow.Author.Tests.{lt-ltb, le-ltb}
use Rattle.clock.specs.Date.{year, month, day, date_from, days_in, is_date, next_date}
use Rattle.clock.specs.Moment.{month_start, month_of, day_count}
use Rattle.clock.proofs.DateLaws.{Real, parts, days-31, days-range, year-made, month-made, day-made, made}
use Rattle.clock.proofs.MonthLaws.{month-step, month-first, month-end, month-rise, month-after, day-within}

pub first-day : (is_date 20000101 ≡ true) × (day_count 20000101 ≡ 0)
unfolding is_date days_in day_count month_start
first-day = (refl, refl)

-- the day count of a date that is made of parts
pub count-made : (y m d : ℕ) → Real y m d → day_count (date_from y m d) ≡ month_start ((y - 2000) * 12 + (m - 1)) + (d - 1)
unfolding day_count
count-made y m d r = rw (year-made y m d r, month-made y m d r, day-made y m d r)

-- a is a date, the day after n
abbrev Next : ℕ → ℕ → Type 0
Next n a = (is_date a ≡ true) × (day_count a ≡ day_count n + 1)

module _ (n : ℕ) (e : is_date n ≡ true) where
  next_day : day n < days_in (year n) (month n) → Next n (n + 1)
  unfolding day_count
  next_day h =
      let p = parts n e in
      let q : date_from (year n) (month n) (day n + 1) ≡ n + 1 = omega arith in
      let r : Real (year n) (month n) (day n + 1) =
      record {
        from-2000 = p.from-2000;
        to-2099 = p.to-2099;
        from-1 = p.from-1;
        to-12 = p.to-12;
        first = omega arith;
        last = omega arith;
      }
      in
      (ap is_date (sym q) ∙ made _ _ _ r, ap day_count (sym q) ∙ count-made _ _ _ r ∙ omega arith)

  module _ (h : days_in (year n) (month n) ≤ day n) where
    -- the month after starts a day after n
    turn : month_start (suc (month_of n)) ≡ day_count n + 1
    unfolding day_count
    turn = omega (arith, (parts n e).first, (parts n e).last, month-after n e)

    -- the first of month m of year y, where that is the month after
    first_of :
        (y m : ℕ) → 2000 ≤ y → y ≤ 2099 → 1 ≤ m → m ≤ 12 → (y - 2000) * 12 + (m - 1) ≡ suc (month_of n) → Next n (date_from y m 1)
    first_of y m a b c d q =
        let r : Real y m 1 =
        record { from-2000 = a; to-2099 = b; from-1 = c; to-12 = d; first = omega arith; last = (days-range y m).0 }
        in
        (made y m 1 r, count-made y m 1 r ∙ omega (arith, ap month_start q, turn))

    next-month : month n < 12 → Next n (date_from (year n) (month n + 1) 1)
    next-month l =
        let p = parts n e in
        first_of (year n) (month n + 1) p.from-2000 p.to-2099 (omega arith) (omega arith) (omega arith)

    december : 12 ≤ month n → day n ≡ 31
    december l =
        let p = parts n e in
        omega (arith, days-31 (year n) (month n) (λ z. omega arith) (λ z. omega arith) (λ z. omega arith) (λ z. omega arith) (λ z. omega arith))

    next-year : 12 ≤ month n → (n ≡ 20991231 → ⊥) → Next n (date_from (year n + 1) 1 1)
    next-year l x =
        let p = parts n e in
        let y : year n < 2099 = before (dec_le 2099 (year n)) in
        first_of (year n + 1) 1 (omega arith) (omega arith) (omega arith) (omega arith) (omega arith)
      where
        before : Dec (2099 ≤ year n) → year n < 2099
        before (yes g) = let p = parts n e in let d = december l in absurd (x (omega arith))
        before (no g) = omega (arith, g)

pub after : (n : ℕ) → is_date n ≡ true → (n ≡ 20991231 → ⊥) → Next n (next_date n)
unfolding next_date
after n e x = go (dec_le (days_in (year n) (month n)) (day n)) (dec_le 12 (month n))
  where
    go : Dec (days_in (year n) (month n) ≤ day n) → Dec (12 ≤ month n) → Next n (next_date n)
    go (no h) m =
        let l : day n < days_in (year n) (month n) = omega (arith, h) in
        rw (lt-ltb (day n) (days_in (year n) (month n)) l) (next_day n e l)
    go (yes h) (no m) =
        let l : month n < 12 = omega (arith, m) in
        rw (le-ltb (day n) (days_in (year n) (month n)) h, lt-ltb (month n) 12 l) (next-month n e h l)
    go (yes h) (yes l) =
        rw (le-ltb (day n) (days_in (year n) (month n)) h, le-ltb (month n) 12 l) (next-year n e h l x)

-- the month with its year is the date without its day
split : (a : ℕ) → a / 100 ≡ year a * 100 + month a
split a = omega arith

months-rise : (a b : ℕ) → a < b → a / 100 ≤ b / 100
months-rise a b h = omega arith

one-month : (y m z n : ℕ) → 2000 ≤ y → 2000 ≤ z → 1 ≤ m → 1 ≤ n → m ≤ 12 → n ≤ 12 → y * 100 + m ≤ z * 100 + n
    → (z - 2000) * 12 + (n - 1) ≤ (y - 2000) * 12 + (m - 1) → (y ≡ z) × (m ≡ n)
one-month y m z n a b c d e f g h = (omega arith, omega arith)

days-rise : (a b : ℕ) → a < b → year a ≡ year b → month a ≡ month b → day a < day b
days-rise a b h y m = omega arith

-- of two dates the later one has the larger day count
module _ (a b : ℕ) (ea : is_date a ≡ true) (eb : is_date b ≡ true) (h : a < b) where
  in-one-month : month_of b ≤ month_of a → day_count a < day_count b
  unfolding day_count
  in-one-month l =
      let p = parts a ea in
      let q = parts b eb in
      let s =
      one-month (year a) (month a) (year b) (month b)
      p.from-2000 q.from-2000 p.from-1 q.from-1 p.to-12 q.to-12
      (rw (← split a, ← split b) (months-rise a b h)) l
      in
      let d = days-rise a b h s.0 s.1 in
      rw (s.0, s.1) (omega arith)

  in-two-months : month_of a < month_of b → day_count a < day_count b
  unfolding day_count
  in-two-months l = omega (arith, day-within a ea, month-rise (suc (month_of a)) (month_of b) l)

  pub counts-rise : day_count a < day_count b
  counts-rise = go (dec_le (month_of b) (month_of a))
    where
      go : Dec (month_of b ≤ month_of a) → day_count a < day_count b
      go (yes l) = in-one-month l
      go (no l) = in-two-months (omega (arith, l))

pub counts-tell : (a b : ℕ) → is_date a ≡ true → is_date b ≡ true → day_count a < day_count b → a < b
counts-tell a b ea eb h = go (dec_le b a) (dec_le a b)
  where
    go : Dec (b ≤ a) → Dec (a ≤ b) → a < b
    go (no l) m = omega (arith, l)
    go (yes l) (no m) = absurd (omega (arith, counts-rise b a eb ea (omega (arith, m))))
    go (yes l) (yes m) = let q : a ≡ b = omega arith in absurd (omega (arith, ap day_count q))

-- so two dates with one day count are the same
pub counts_same : (a b : ℕ) → is_date a ≡ true → is_date b ≡ true → day_count a ≡ day_count b → a ≡ b
counts_same a b ea eb e = go (dec_le a b) (dec_le b a)
  where
    go : Dec (a ≤ b) → Dec (b ≤ a) → a ≡ b
    go (yes l) (yes m) = omega arith
    go (yes l) (no m) = absurd (omega (arith, counts-rise a b ea eb (omega (arith, m))))
    go (no l) m = absurd (omega (arith, counts-rise b a eb ea (omega (arith, l))))

-- the month in which day t lies
abbrev Month : ℕ → ℕ → Type 0
Month t k = (j : ℕ) × (j < k) × (month_start j ≤ t) × (t < month_start (suc j))

locate : (t k : ℕ) → t < month_start k → Month t k
locate t zero h = absurd (omega (arith, month-first))
locate t (suc k) h = go (dec_le (month_start k) t) (locate t k)
  where
    go : Dec (month_start k ≤ t) → (t < month_start k → Month t k) → Month t (suc k)
    go (yes l) r = (k, omega arith, l, h)
    go (no l) r = let m = r (omega (arith, l)) in (m.0, omega (arith, m.1), m.2, m.3)

-- the day of day t, in month j
module _ (t j : ℕ) (h : j < 1200) (l : month_start j ≤ t) (u : t < month_start (suc j)) where
  abbrev date : ℕ
  date = date_from (2000 + j / 12) (j % 12 + 1) (t - month_start j + 1)

  real : Real (2000 + j / 12) (j % 12 + 1) (t - month_start j + 1)
  real =
      record {
        from-2000 = omega arith;
        to-2099 = omega arith;
        from-1 = omega arith;
        to-12 = omega arith;
        first = omega arith;
        last = omega (arith, month-step j);
      }

  counted : day_count date ≡ t
  counted =
      let k : (2000 + j / 12 - 2000) * 12 + (j % 12 + 1 - 1) ≡ j = omega arith in
      count-made _ _ _ real ∙ omega (arith, ap month_start k)

pub reached : (t : ℕ) → t < 36525 → (n : ℕ) × (is_date n ≡ true) × (day_count n ≡ t)
reached t h = go (locate t 1200 (omega (arith, month-end)))
  where
    go : Month t 1200 → (n : ℕ) × (is_date n ≡ true) × (day_count n ≡ t)
    go m =
        (date t m.0 m.1 m.2 m.3, made _ _ _ (real t m.0 m.1 m.2 m.3), counted t m.0 m.1 m.2 m.3)
