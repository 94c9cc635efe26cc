-- Dates and times: three numbers with marks between. Assumes nothing.
use mathlib.Core.Path.{◌≡◌, ◌∙◌, refl, ap}
use mathlib.Core.Bool.{Bool, true, false, ◌&&◌}
use mathlib.Core.List.{List}
use Prim.Native.Nat.{ℕ, ◌+◌, ◌*◌, ◌^◌, ◌<◌, ◌≤◌}
use native.Mathlib.Omega.{arith}
use borrow.Author.Tests.{eq-eqb, ne_eqb, le-leb, lt-leb, leb-true, eqb-true}
use lib.Dec.{eqb, leb}
use lib.ListN.{length, get_or, take, drop}
use Rattle.std.specs.Prelude.{Option, Some, None}
use Rattle.std.proofs.lemmas.Option.{same_Some}
use Rattle.lists.specs.Logic.{on}
use Rattle.lists.proofs.LogicLaws.{and-false, and-pass}
use Rattle.clock.specs.Date.{is_date, date_from}
use Rattle.field_types.specs.Digits.{numeral, triple_of, has_marks, triple}
use Rattle.field_types.specs.Times.{clock_of, clock}
use Rattle.field_types.specs.Dates.{real_of, date}
use Rattle.field_types.proofs.DigitLaws.{given_is, same-is, never, number-told}

on-three : (b : Bool) (t : Option (ℕ × ℕ × ℕ)) {x y z : ℕ} → Some (x, y, z) ≡ on b t None → (b ≡ true) × (Some (x, y, z) ≡ t)
on-three true t e = (refl, e)
on-three false t e = absurd (let z : ◌≡◌ {A = ℕ} 0 1 = cc in omega arith)

none-either : {A : Type 0} (b : Bool) → ◌≡◌ {A = Option A} None (on b None None)
none-either true = refl
none-either false = refl

of_three : (a b c : Option ℕ) {x y z : ℕ} → Some (x, y, z) ≡ triple_of a b c → (Some x ≡ a) × (Some y ≡ b) × (Some z ≡ c)
of_three None b c e = absurd (let z : ◌≡◌ {A = ℕ} 0 1 = cc in omega arith)
of_three (Some p) None c e = absurd (let z : ◌≡◌ {A = ℕ} 0 1 = cc in omega arith)
of_three (Some p) (Some q) None e = absurd (let z : ◌≡◌ {A = ℕ} 0 1 = cc in omega arith)
of_three (Some p) (Some q) (Some r) {x} {y} {z} e =
    let t = same_Some (x, y, z) (p, q, r) e in
    (ap (λ (t : ℕ × ℕ × ℕ). Some t.0) t, ap (λ (t : ℕ × ℕ × ℕ). Some t.1) t, ap (λ (t : ℕ × ℕ × ℕ). Some t.2) t)

-- what three numbers that are read tell of the field
pub record Marked (w mark : ℕ) (f : List ℕ) (x y z : ℕ) : Type 0 where
  pub long : length f ≡ w + 6
  pub first : get_or f w 0 ≡ mark
  pub second : get_or f (w + 3) 0 ≡ mark
  pub left : Some x ≡ numeral w (take w f)
  pub middle : Some y ≡ numeral 2 (take 2 (drop (w + 1) f))
  pub right : Some z ≡ numeral 2 (take 2 (drop (w + 4) f))

module _ (w mark : ℕ) (f : List ℕ) where
  pub triple-told : {x y z : ℕ} → Some (x, y, z) ≡ triple w mark f → Marked w mark f x y z
  unfolding triple
  triple-told e =
      let o = on-three (has_marks w mark f) _ e in
      let t = of_three (numeral w (take w f)) (numeral 2 (take 2 (drop (w + 1) f))) (numeral 2 (take 2 (drop (w + 4) f))) o.1 in
      let a = and-pass (eqb (length f) (w + 6) && eqb (get_or f w 0) mark) (eqb (get_or f (w + 3) 0) mark) o.0 in
      let b = and-pass (eqb (length f) (w + 6)) (eqb (get_or f w 0) mark) a.0 in
      record {
        long = eqb-true (length f) (w + 6) b.0;
        first = eqb-true (get_or f w 0) mark b.1;
        second = eqb-true (get_or f (w + 3) 0) mark a.1;
        left = t.0;
        middle = t.1;
        right = t.2;
      }

  -- the numbers are below ten to their digits
  pub triple-below : {x y z : ℕ} → Some (x, y, z) ≡ triple w mark f → (x < 10 ^ w) × (y < 100) × (z < 100)
  triple-below e =
      let t = triple-told e in
      ((number-told w (take w f) t.left).below, (number-told 2 _ t.middle).below, (number-told 2 _ t.right).below)

  pub triple-length : (length f ≡ w + 6 → ⊥) → None ≡ triple w mark f
  unfolding triple
  triple-length h = rw (ne_eqb (length f) (w + 6) h)

  pub triple-first : (get_or f w 0 ≡ mark → ⊥) → None ≡ triple w mark f
  unfolding triple
  triple-first h = rw (ne_eqb (get_or f w 0) mark h) (rw (and-false (eqb (length f) (w + 6))))

  pub triple-second : (get_or f (w + 3) 0 ≡ mark → ⊥) → None ≡ triple w mark f
  unfolding triple
  triple-second h = rw (ne_eqb (get_or f (w + 3) 0) mark h, and-false (eqb (length f) (w + 6) && eqb (get_or f w 0) mark))

  pub triple-no-left : None ≡ numeral w (take w f) → None ≡ triple w mark f
  unfolding triple
  triple-no-left e = rw (← e) (none-either (has_marks w mark f))

  module _ (x : ℕ) (ex : Some x ≡ numeral w (take w f)) where
    pub triple-no-middle : None ≡ numeral 2 (take 2 (drop (w + 1) f)) → None ≡ triple w mark f
    unfolding triple
    triple-no-middle e = rw (← ex, ← e) (none-either (has_marks w mark f))

    module _ (y : ℕ) (ey : Some y ≡ numeral 2 (take 2 (drop (w + 1) f))) where
      pub triple-no-right : None ≡ numeral 2 (take 2 (drop (w + 4) f)) → None ≡ triple w mark f
      unfolding triple
      triple-no-right e = rw (← ex, ← ey, ← e) (none-either (has_marks w mark f))

      pub triple-is :
          (z : ℕ) → Some z ≡ numeral 2 (take 2 (drop (w + 4) f)) → length f ≡ w + 6 → get_or f w 0 ≡ mark → get_or f (w + 3) 0 ≡ mark
          → Some (x, y, z) ≡ triple w mark f
      unfolding triple
      triple-is z ez l p q =
          rw (← ex, ← ey, ← ez, eq-eqb (length f) (w + 6) l, eq-eqb (get_or f w 0) mark p, eq-eqb (get_or f (w + 3) 0) mark q)

-- what accepted times and dates are
clock-of-below : (most : ℕ) (t : Option (ℕ × ℕ × ℕ)) {n : ℕ} → Some n ≡ clock_of most t → n < (most + 1) * 3600
clock-of-below most (Some (h, m, s)) {n} e =
    let g = given_is (leb h most && leb m 59 && leb s 59) _ e in
    let a = and-pass (leb h most && leb m 59) (leb s 59) g.0 in
    let b = and-pass (leb h most) (leb m 59) a.0 in
    omega (arith, leb-true h most b.0, leb-true m 59 b.1, leb-true s 59 a.1, same-is g.1)
clock-of-below most None e = never e

pub clock-below : (most : ℕ) (f : List ℕ) {n : ℕ} → Some n ≡ clock most f → n < (most + 1) * 3600
unfolding clock
clock-below most f e = clock-of-below most (triple 2 58 f) e

date-of-real : (t : Option (ℕ × ℕ × ℕ)) {n : ℕ} → Some n ≡ real_of t → is_date n ≡ true
date-of-real (Some (y, m, d)) e = let g = given_is (is_date (date_from y m d)) _ e in ap is_date (same-is g.1) ∙ g.0
date-of-real None e = never e

pub date-real : (f : List ℕ) {n : ℕ} → Some n ≡ date f → is_date n ≡ true
unfolding date
date-real f e = date-of-real (triple 4 45 f) e

-- which case of `clock` holds
pub clock-other : (most : ℕ) (f : List ℕ) → None ≡ triple 2 58 f → None ≡ clock most f
unfolding clock
clock-other most f e = rw (← e)

module _ (most : ℕ) (f : List ℕ) {h m s : ℕ} (e : Some (h, m, s) ≡ triple 2 58 f) where
  pub clock-hour : most < h → None ≡ clock most f
  unfolding clock
  clock-hour l = rw (← e, lt-leb h most l)

  pub clock-minute : 59 < m → None ≡ clock most f
  unfolding clock
  clock-minute l = rw (← e, lt-leb m 59 l, and-false (leb h most))

  pub clock-second : 59 < s → None ≡ clock most f
  unfolding clock
  clock-second l = rw (← e, lt-leb s 59 l, and-false (leb h most && leb m 59))

  pub clock-is : h ≤ most → m ≤ 59 → s ≤ 59 → Some (h * 3600 + m * 60 + s) ≡ clock most f
  unfolding clock
  clock-is a b c = rw (← e, le-leb h most a, le-leb m 59 b, le-leb s 59 c)
