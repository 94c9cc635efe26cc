-- The claims on dates and moments, proved. Assumes nothing.
use mathlib.Core.Path.{◌≡◌, ◌∙◌, refl, sym, ap}
use mathlib.Core.Bool.{Bool, true, false}
use mathlib.Core.Logic.{◌⊎◌, inl, inr, ⊎_elim}
use Prim.Native.Nat.{ℕ, suc, ◌+◌, ◌-◌, ◌*◌, ◌/◌, ◌%◌, ◌<◌, ◌≤◌}
use native.Mathlib.Decide.{dec_le}
use native.Mathlib.Omega.{arith}
use lib.Dec.{T}
use Rattle.clock.specs.Date.{leap, gregorian, next_date}
use Rattle.clock.specs.Moment.{day_count, moment_of, date_on, date_at}
use Rattle.clock.specs.Claims.{LeapYears, DatesOrdered, NextMoment, SameDayOrdered, MomentsRead, TimesRead, All}
use Rattle.clock.proofs.BelowLaws.{below_at}
use Rattle.clock.proofs.MonthLaws.{day-below}
use Rattle.clock.proofs.DayLaws.{first-day, after, counts-rise, counts-tell, counts_same, reached}
use Rattle.clock.proofs.CalendarLaws.{date-step, dated, date-counted, century-over}

-- the two tests agree
abbrev agree : Bool → Bool → Bool
agree true b = b
agree false true = false
agree false false = true

agreed : (a b : Bool) → T (agree a b) → a ≡ b
agreed true true t = refl
agreed true false t = absurd t
agreed false true t = absurd t
agreed false false t = refl

leap-years : LeapYears
leap-years y h k =
    let e : 2000 + (y - 2000) ≡ y = omega arith in
    sym (ap leap e)
    ∙ agreed (leap (2000 + (y - 2000))) (gregorian (2000 + (y - 2000)))
    (below_at (λ n. agree (leap (2000 + n)) (gregorian (2000 + n))) 100 tt (y - 2000) (omega arith))
    ∙ ap gregorian e

dates-ordered : DatesOrdered
dates-ordered a b ea eb = (counts-rise a b ea eb, counts-tell a b ea eb)

next-moment : NextMoment
next-moment d s e x =
    let q = (after d e x).1 in
    let p : day_count d * 86400 + (86400 + s) ≡ day_count (next_date d) * 86400 + s = omega arith in
    ap (λ (n : ℕ). record { 0 = n }) p

same-day-ordered : SameDayOrdered
same-day-ordered a b s t ea eb hs ht = (to, from)
  where
    to : (moment_of a s).0 < (moment_of b t).0 → (a < b) ⊎ ((a ≡ b) × (s.0 < t.0))
    to h = go (dec_le b a) (dec_le a b)
      where
        go : Dec (b ≤ a) → Dec (a ≤ b) → (a < b) ⊎ ((a ≡ b) × (s.0 < t.0))
        go (no l) m = inl (omega (arith, l))
        go (yes l) (no m) = absurd (omega (arith, counts-rise b a eb ea (omega (arith, m))))
        go (yes l) (yes m) = let q : a ≡ b = omega arith in inr (q, omega (arith, ap day_count q))

    from : (a < b) ⊎ ((a ≡ b) × (s.0 < t.0)) → (moment_of a s).0 < (moment_of b t).0
    from = ⊎_elim (λ h. omega (arith, counts-rise a b ea eb h)) (λ h. omega (arith, h.1, ap day_count h.0))

-- ---- read back from a moment

moments-read : MomentsRead
unfolding date_at
moments-read m h =
    let d = dated (m.0 / 86400) (omega arith) in
    let p : day_count (date_on (m.0 / 86400)) * 86400 + m.0 % 86400 ≡ m.0 = omega (arith, d.1) in
    (d.0, ap (λ (n : ℕ). record { 0 = n }) p)

times-read : TimesRead
unfolding date_at
times-read d s e h =
    let a : (day_count d * 86400 + s) / 86400 ≡ day_count d = omega arith in
    let b : (day_count d * 86400 + (86400 + s)) / 86400 ≡ suc (day_count d) = omega arith in (
      ap date_on a ∙ date-counted d e,
      omega arith,
      ap date_on b ∙ date-step (day_count d) ∙ ap next_date (date-counted d e),
      omega arith,
    )

pub claims : All
claims = (
  leap-years,
  first-day,
  after,
  day-below,
  reached,
  dates-ordered,
  counts_same,
  next-moment,
  λ a b s t. (λ h. h, λ h. h),
  same-day-ordered,
  date-counted,
  moments-read,
  times-read,
  century-over,
)
