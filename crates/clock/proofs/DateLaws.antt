-- Which case of the date's rules holds, and what the parts of a date are. Assumes nothing.
use mathlib.Core.Path.{◌≡◌}
use mathlib.Core.Bool.{Bool, true, false, ◌&&◌, ◌||◌}
use mathlib.Core.Logic.{◌⊎◌, ⊎_elim}
use Prim.Native.Nat.{ℕ, ◌%◌, ◌≤◌}
use native.Mathlib.Omega.{arith}
use borrow.Author.Tests.{eq-eqb, ne_eqb}
use lib.Dec.{eqb, lit≤}
use Rattle.lists.specs.Logic.{on, within}
use Rattle.lists.proofs.LogicLaws.{and-pass, within-true, in-range}
use Rattle.clock.specs.Date.{year, month, day, date_from, leap, days_in, is_date}

module _ (y m : ℕ) where
  pub days-29 : m ≡ 2 → y % 4 ≡ 0 → 29 ≡ days_in y m
  unfolding days_in
  days-29 e h = rw (e, eq-eqb (y % 4) 0 h)

  pub days-28 : m ≡ 2 → (y % 4 ≡ 0 → ⊥) → 28 ≡ days_in y m
  unfolding days_in
  days-28 e h = rw (e, ne_eqb (y % 4) 0 h)

  pub days-30 : (m ≡ 4) ⊎ ((m ≡ 6) ⊎ ((m ≡ 9) ⊎ (m ≡ 11))) → 30 ≡ days_in y m
  unfolding days_in
  days-30 k = ⊎_elim (λ e. rw e) (λ k. ⊎_elim (λ e. rw e) (λ k. ⊎_elim (λ e. rw e) (λ e. rw e) k) k) k

  pub days-31 : (m ≡ 2 → ⊥) → (m ≡ 4 → ⊥) → (m ≡ 6 → ⊥) → (m ≡ 9 → ⊥) → (m ≡ 11 → ⊥) → 31 ≡ days_in y m
  unfolding days_in
  days-31 a b c d e = rw (ne_eqb m 2 a, ne_eqb m 4 b, ne_eqb m 6 c, ne_eqb m 9 d, ne_eqb m 11 e)

  -- no month has more than 31 days, and each has some
  pub days-range : (1 ≤ days_in y m) × (days_in y m ≤ 31)
  unfolding days_in
  days-range = go (eqb m 2) (leap y) (eqb m 4 || eqb m 6 || eqb m 9 || eqb m 11)
    where
      go : (a b c : Bool) → (1 ≤ on a (on b 29 28) (on c 30 31)) × (on a (on b 29 28) (on c 30 31) ≤ 31)
      go true true c = (lit≤ tt, lit≤ tt)
      go true false c = (lit≤ tt, lit≤ tt)
      go false b true = (lit≤ tt, lit≤ tt)
      go false b false = (lit≤ tt, lit≤ tt)

-- a year, a month and a day that make a date
pub record Real (y m d : ℕ) : Type 0 where
  pub from-2000 : 2000 ≤ y
  pub to-2099 : y ≤ 2099
  pub from-1 : 1 ≤ m
  pub to-12 : m ≤ 12
  pub first : 1 ≤ d
  pub last : d ≤ days_in y m

pub parts : (n : ℕ) → is_date n ≡ true → Real (year n) (month n) (day n)
unfolding is_date
parts n e =
    let a = and-pass (within 2000 2099 (year n) && within 1 12 (month n)) (within 1 (days_in (year n) (month n)) (day n)) e in
    let b = and-pass (within 2000 2099 (year n)) (within 1 12 (month n)) a.0 in
    let ry = within-true 2000 2099 (year n) b.0 in
    let rm = within-true 1 12 (month n) b.1 in
    let rd = within-true 1 (days_in (year n) (month n)) (day n) a.1 in
    record { from-2000 = ry.0; to-2099 = ry.1; from-1 = rm.0; to-12 = rm.1; first = rd.0; last = rd.1 }

-- the parts of a date that is made of parts
module _ (y m d : ℕ) (r : Real y m d) where
  small : d ≤ 31
  small = omega (arith, r.last, (days-range y m).1)

  pub year-made : year (date_from y m d) ≡ y
  year-made = let h = small in omega arith

  pub month-made : month (date_from y m d) ≡ m
  month-made = let h = small in omega arith

  pub day-made : day (date_from y m d) ≡ d
  day-made = let h = small in omega arith

  pub made : is_date (date_from y m d) ≡ true
  unfolding is_date
  made =
      rw (year-made, month-made, day-made, in-range 2000 2099 y r.from-2000 r.to-2099, in-range 1 12 m r.from-1 r.to-12)
      (in-range 1 (days_in y m) d r.first r.last)

-- a date is made of its parts
pub remade : (n : ℕ) → date_from (year n) (month n) (day n) ≡ n
remade n = omega arith
