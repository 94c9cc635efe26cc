-- What is read as a number, a time, a date or a stamp is written so, and not otherwise. Assumes nothing.
use mathlib.Core.Path.{◌≡◌, ◌∙◌, refl, sym, ap}
use mathlib.Core.Bool.{Bool, true, false, ◌&&◌, ◌||◌}
use mathlib.Core.List.{List, [], ◌∷◌, ◌++◌, append-nil}
use mathlib.Core.Logic.{⊎_elim}
use Prim.Native.Nat.{ℕ, suc, ◌+◌, ◌-◌, ◌*◌, ◌/◌, ◌%◌, ◌<◌, ◌≤◌}
use native.Mathlib.Nat.{zero-add}
use native.Mathlib.Numerals.{add-one}
use native.Mathlib.Omega.{arith}
use borrow.Author.Tests.{eqb-true, leb-true}
use lib.Dec.{eqb, leb}
use lib.ListN.{length, get_or, take, drop, length-drop}
use lib.Seq.{length-take-le, take_all, take-add, drop-cons, append_snoc}
use Rattle.std.specs.Prelude.{Option, Some, None}
use Rattle.lists.specs.Logic.{on, within}
use Rattle.lists.proofs.LogicLaws.{and-pass, or-pass, within-true}
use Rattle.clock.specs.Date.{year, month, day, is_date, date_from}
use Rattle.field_types.specs.Digits.{all_digits, value_from, value, numeral, triple}
use Rattle.field_types.specs.Times.{clock_of, clock}
use Rattle.field_types.specs.Dates.{real_of, date}
use Rattle.field_types.specs.Stamps.{offset_shape, utc_offset, stamp_seconds, stamp_shape, stamp}
use Rattle.field_types.specs.Written.{written, written_time, written_date, written_offset, written_stamp}
use Rattle.field_types.proofs.DigitLaws.{never, same-is, given_is, then_is, number-told}
use Rattle.field_types.proofs.TripleLaws.{triple-told, triple-below, clock-below, date-real}

-- ---- digits

-- digits behind j digits of n are the last digits of the number that they write
digits-behind : (f : List ℕ) (n j : ℕ) → all_digits f ≡ true → written j n ++ f ≡ written (length f + j) (value_from n f)
digits-behind [] n j e = append-nil (written j n) ∙ ap (λ (i : ℕ). written i n) (sym (zero-add j))
digits-behind (x ∷ f) n j e =
    let b = and-pass (within 48 57 x) (all_digits f) e in
    let r = within-true 48 57 x b.0 in
    let m = n * 10 + (x - 48) in
    let q : m / 10 ≡ n = omega arith in
    let l : 48 + m % 10 ≡ x = omega arith in
    let k : length f + suc j ≡ suc (length f) + j = omega arith in
    sym (append_snoc (written j n) x f)
    ∙ ap (λ (d : ℕ). written j n ++ (d ∷ []) ++ f) (sym l)
    ∙ ap (λ (a : ℕ). written j a ++ ((48 + m % 10) ∷ []) ++ f) (sym q)
    ∙ digits-behind f m (suc j) b.1
    ∙ ap (λ (i : ℕ). written i (value_from m f)) k

-- a number of k bytes is written with k digits
pub number-exact : (most k : ℕ) (f : List ℕ) {n : ℕ} → length f ≡ k → Some n ≡ numeral most f → f ≡ written k n
number-exact most k f {n} l e =
    let t = number-told most f e in
    let z : length f + 0 ≡ k = omega arith in
    digits-behind f 0 0 t.digits ∙ ap (λ (i : ℕ). written i (value f)) z ∙ ap (written k) (sym t.number)

-- ---- parts with marks between

-- the bytes up to `at`, the one there, and n behind it
module _ (f : List ℕ) (at n : ℕ) (h : at + suc n ≤ length f) where
  pub marked : take (at + suc n) f ≡ take at f ++ get_or f at 0 ∷ take n (drop (at + 1) f)
  marked = take-add at (suc n) f ∙ rw (drop-cons f at 0 (omega arith), add-one at)

module _ (w mark : ℕ) (f : List ℕ) where
  triple-exact : {x y z : ℕ} → Some (x, y, z) ≡ triple w mark f → f ≡ written w x ++ mark ∷ written 2 y ++ mark ∷ written 2 z
  triple-exact {x} {y} {z} e =
      let t = triple-told w mark f e in
      let l = t.long in
      let k : w + 6 ≡ w + 3 + 3 = omega arith in
      let d : w + 3 + 1 ≡ w + 4 = omega arith in
      let a : take w f ≡ written w x = number-exact w w (take w f) (length-take-le w f (omega arith)) t.left in
      let b : take 2 (drop (w + 1) f) ≡ written 2 y = number-exact 2 2 _ (length-take-le 2 (drop (w + 1) f) (omega (arith, length-drop (w + 1) f))) t.middle in
      let c : take 2 (drop (w + 4) f) ≡ written 2 z = number-exact 2 2 _ (length-take-le 2 (drop (w + 4) f) (omega (arith, length-drop (w + 4) f))) t.right in
      sym (take_all (w + 6) f (omega arith))
      ∙ ap (λ (n : ℕ). take n f) k
      ∙ marked f (w + 3) 2 (omega arith)
      ∙ rw (marked f w 2 (omega arith), d, t.first, t.second, a, b, c)

-- ---- times

clock-of-exact : (most : ℕ) (f : List ℕ) (t : Option (ℕ × ℕ × ℕ)) {n : ℕ} → t ≡ triple 2 58 f → Some n ≡ clock_of most t → f ≡ written_time n
clock-of-exact most f (Some (h, m, s)) {n} p e =
    let g = given_is (leb h most && leb m 59 && leb s 59) _ e in
    let a = and-pass (leb h most && leb m 59) (leb s 59) g.0 in
    let b = and-pass (leb h most) (leb m 59) a.0 in
    let q : n ≡ h * 3600 + m * 60 + s = same-is g.1 in
    let lm = leb-true m 59 b.1 in
    let ls = leb-true s 59 a.1 in
    let eh : h ≡ n / 3600 = omega arith in
    let em : m ≡ n / 60 % 60 = omega arith in
    let es : s ≡ n % 60 = omega arith in
    triple-exact 2 58 f p ∙ rw (← eh, ← em, ← es)
clock-of-exact most f None p e = never e

pub clock-exact : (most : ℕ) (f : List ℕ) {n : ℕ} → Some n ≡ clock most f → f ≡ written_time n
unfolding clock
clock-exact most f e = clock-of-exact most f (triple 2 58 f) refl e

-- ---- dates

date-of-exact : (f : List ℕ) (t : Option (ℕ × ℕ × ℕ)) {n : ℕ} → t ≡ triple 4 45 f → Some n ≡ real_of t → f ≡ written_date n
date-of-exact f (Some (y, m, d)) {n} p e =
    let g = given_is (is_date (date_from y m d)) _ e in
    let q : n ≡ y * 10000 + m * 100 + d = same-is g.1 in
    let r = triple-below 4 45 f p in
    let ey : y ≡ year n = omega arith in
    let em : m ≡ month n = omega arith in
    let ed : d ≡ day n = omega arith in
    triple-exact 4 45 f p ∙ rw (← ey, ← em, ← ed)
date-of-exact f None p e = never e

pub date-exact : (f : List ℕ) {n : ℕ} → Some n ≡ date f → f ≡ written_date n
unfolding date
date-exact f e = date-of-exact f (triple 4 45 f) refl e

-- ---- stamps

-- an offset is some minutes, up to 14:00
pub record Minutes (f : List ℕ) (o : ℕ) : Type 0 where
  pub minutes : ℕ
  pub most : minutes ≤ 840
  pub seconds : o ≡ minutes * 60
  pub exact : f ≡ written_offset minutes

offset-joined :
    (f : List ℕ) (h m : ℕ) → length f ≡ 5 → get_or f 2 0 ≡ 58 → take 2 f ≡ written 2 h → take 2 (drop 3 f) ≡ written 2 m → m ≤ 59
    → f ≡ written_offset (h * 60 + m)
offset-joined f h m l c p q k =
    let eh : (h * 60 + m) / 60 ≡ h = omega arith in
    let em : (h * 60 + m) % 60 ≡ m = omega arith in
    sym (take_all 5 f (omega arith)) ∙ marked f 2 2 (omega arith) ∙ rw (p, q, c, eh, em)

offset-exact : (f : List ℕ) {o : ℕ} → Some o ≡ utc_offset f → Minutes f o
unfolding utc_offset
offset-exact f {o} e =
    let a = given_is (offset_shape f) _ e in
    let s = and-pass (eqb (length f) 5) (eqb (get_or f 2 0) 58) a.0 in
    let l = eqb-true (length f) 5 s.0 in
    let hour = then_is (numeral 2 (take 2 f)) _ a.1 in
    let minute = then_is (numeral 2 (take 2 (drop 3 f))) _ hour.2 in
    let h = hour.0 in
    let m = minute.0 in
    let g = given_is (leb m 59 && leb (h * 60 + m) 840) _ minute.2 in
    let b = and-pass (leb m 59) (leb (h * 60 + m) 840) g.0 in
    let p = number-exact 2 2 (take 2 f) (length-take-le 2 f (omega arith)) hour.1 in
    let q = number-exact 2 2 (take 2 (drop 3 f)) (length-take-le 2 (drop 3 f) (omega (arith, length-drop 3 f))) minute.1 in
    record {
      minutes = h * 60 + m;
      most = leb-true (h * 60 + m) 840 b.1;
      seconds = same-is g.1;
      exact = offset-joined f h m l (eqb-true (get_or f 2 0) 58 s.1) p q (leb-true m 59 b.0);
    }

-- the sign tells west from east
sign-exact : (x : ℕ) → eqb x 43 || eqb x 45 ≡ true → x ≡ on (eqb x 45) 45 43
sign-exact x e = go (eqb x 45) refl
  where
    go : (b : Bool) → eqb x 45 ≡ b → x ≡ on b 45 43
    go true p = eqb-true x 45 p
    go false p = eqb-true x 43 (⊎_elim (λ q. q) (λ q. absurd (let z : ◌≡◌ {A = ℕ} 0 1 = cc in omega arith)) (or-pass (eqb x 43) (eqb x 45) e))

-- the second of a date, and the minutes west or east, that a stamp is written with
pub record Stamped (f : List ℕ) (n : ℕ) : Type 0 where
  pub west : Bool
  pub date : ℕ
  pub second : ℕ
  pub minutes : ℕ
  pub real : is_date date ≡ true
  pub within : second < 86400
  pub most : minutes ≤ 840
  pub seconds : n ≡ stamp_seconds west date second (minutes * 60)
  pub exact : f ≡ written_stamp west date second minutes

stamp-joined :
    (f : List ℕ) (x d s m : ℕ) → length f ≡ 25 → get_or f 10 0 ≡ 84 → get_or f 19 0 ≡ x
    → take 10 f ≡ written_date d → take 8 (drop 11 f) ≡ written_time s → take 5 (drop 20 f) ≡ written_offset m
    → f ≡ written_date d ++ 84 ∷ written_time s ++ x ∷ written_offset m
stamp-joined f x d s m l t k ed es em =
    sym (take_all 25 f (omega arith))
    ∙ marked f 19 5 (omega arith)
    ∙ rw (marked f 10 8 (omega arith), t, k, ed, es, em)

pub stamp-exact : (f : List ℕ) {n : ℕ} → Some n ≡ stamp f → Stamped f n
unfolding stamp
stamp-exact f {n} e =
    let g = given_is (stamp_shape f) _ e in
    let a = and-pass (eqb (length f) 25 && eqb (get_or f 10 0) 84) _ g.0 in
    let b = and-pass (eqb (length f) 25) (eqb (get_or f 10 0) 84) a.0 in
    let l = eqb-true (length f) 25 b.0 in
    let d = then_is (date (take 10 f)) _ g.1 in
    let s = then_is (clock 23 (take 8 (drop 11 f))) _ d.2 in
    let o = then_is (utc_offset (take 5 (drop 20 f))) _ s.2 in
    let m = offset-exact (take 5 (drop 20 f)) o.1 in
    let west = eqb (get_or f 19 0) 45 in
    let q : n ≡ stamp_seconds west d.0 s.0 o.0 = same-is o.2 in
    record {
      west = west;
      date = d.0;
      second = s.0;
      minutes = m.minutes;
      real = date-real _ d.1;
      within = clock-below 23 _ s.1;
      most = m.most;
      seconds = q ∙ ap (stamp_seconds west d.0 s.0) m.seconds;
      exact =
          stamp-joined f _ d.0 s.0 m.minutes l (eqb-true (get_or f 10 0) 84 b.1) (sign-exact (get_or f 19 0) a.1)
          (date-exact _ d.1) (clock-exact 23 _ s.1) m.exact;
    }
