-- The stamps that a U field can give are exactly those in the range. Assumes nothing.
use mathlib.Core.Path.{◌≡◌, ◌∙◌, sym, ap}
use mathlib.Core.Bool.{Bool, true, false}
use mathlib.Core.List.{List}
use Prim.Native.Nat.{ℕ, ◌+◌, ◌-◌, ◌*◌, ◌/◌, ◌%◌, ◌<◌, ◌≤◌}
use native.Mathlib.Decide.{dec_le}
use native.Mathlib.Omega.{arith}
use Rattle.std.specs.Prelude.{Some}
use Rattle.clock.specs.Date.{is_date}
use Rattle.clock.specs.Moment.{day_count}
use Rattle.clock.proofs.MonthLaws.{day-below}
use Rattle.clock.proofs.DayLaws.{reached}
use Rattle.field_types.specs.Stamps.{stamp_seconds, stamp}
use Rattle.field_types.specs.Written.{written_stamp}
use Rattle.field_types.proofs.WrittenLaws.{stamp-written}
use Rattle.field_types.proofs.ExactLaws.{stamp-exact}

-- n is in the range, and some field gives n
abbrev InRange : ℕ → Type 0
InRange n = (946634400 ≤ n) × (n ≤ 4102495199)

abbrev Given : ℕ → Type 0
Given n = (f : List ℕ) × (stamp f ≡ Some n)

seconds-range : (west : Bool) (d s o : ℕ) → is_date d ≡ true → s < 86400 → o ≤ 50400 → InRange (stamp_seconds west d s o)
unfolding stamp_seconds
seconds-range true d s o e h k = let l = day-below d e in (omega arith, omega arith)
seconds-range false d s o e h k = let l = day-below d e in (omega arith, omega arith)

pub given-in-range : (n : ℕ) → Given n → InRange n
given-in-range n p =
    let t = stamp-exact p.0 (sym p.1) in
    let q = t.seconds in
    let r = seconds-range t.west t.date t.second (t.minutes * 60) t.real t.within (omega (arith, t.most)) in
    (omega arith, omega arith)

-- t is second s of a date, at UTC
pub record Local (t : ℕ) : Type 0 where
  pub date : ℕ
  pub real : is_date date ≡ true
  pub count : (10957 + day_count date) * 86400 + t % 86400 ≡ t

local : (t : ℕ) → 946684800 ≤ t → t ≤ 4102444799 → Local t
local t h k =
    let d = reached (t / 86400 - 10957) (omega arith) in
    record { date = d.0; real = d.1; count = omega (arith, d.2) }

-- a stamp whose seconds are n
given_by : (west : Bool) (t m n : ℕ) (l : Local t) → m ≤ 840 → stamp_seconds west l.date (t % 86400) (m * 60) ≡ n → Given n
given_by west t m n l h e =
    (written_stamp west l.date (t % 86400) m, stamp-written west l.date (t % 86400) m l.real (omega arith) h ∙ ap Some e)

-- at UTC, and where the year would leave the range 14 hours east or west of it
at-utc : (n : ℕ) → Local n → Given n
unfolding stamp_seconds
at-utc n l = given_by false n 0 n l (omega arith) (omega (arith, l.count))

at-east : (n : ℕ) → Local (n + 50400) → Given n
unfolding stamp_seconds
at-east n l = given_by false (n + 50400) 840 n l (omega arith) (omega (arith, l.count))

at-west : (n : ℕ) → 50400 ≤ n → Local (n - 50400) → Given n
unfolding stamp_seconds
at-west n h l = given_by true (n - 50400) 840 n l (omega arith) (omega (arith, l.count))

pub range-given : (n : ℕ) → InRange n → Given n
range-given n r = go (dec_le 946684800 n) (dec_le n 4102444799)
  where
    go : Dec (946684800 ≤ n) → Dec (n ≤ 4102444799) → Given n
    go (yes l) (yes u) = at-utc n (local n l u)
    go (yes l) (no u) = at-west n (omega arith) (local (n - 50400) (omega (arith, u)) (omega (arith, u)))
    go (no l) u = at-east n (local (n + 50400) (omega (arith, l)) (omega (arith, l)))
