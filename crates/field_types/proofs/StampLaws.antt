-- Stamps: which case of `utc_offset` and `stamp` holds, and what an accepted offset is. Assumes nothing.
use mathlib.Core.Path.{◌≡◌, sym}
use mathlib.Core.Bool.{true, false, ◌&&◌}
use mathlib.Core.List.{List}
use Prim.Native.Nat.{ℕ, ◌+◌, ◌*◌, ◌<◌, ◌≤◌}
use native.Mathlib.Omega.{arith}
use borrow.Author.Tests.{eq-eqb, ne_eqb, le-leb, lt-leb, leb-true, eqb-true}
use lib.Dec.{eqb, leb}
use lib.ListN.{length, get_or, take, drop}
use Rattle.std.specs.Prelude.{Some, None}
use Rattle.lists.proofs.LogicLaws.{and-false, and-pass}
use Rattle.field_types.specs.Digits.{numeral}
use Rattle.field_types.specs.Times.{clock}
use Rattle.field_types.specs.Dates.{date}
use Rattle.field_types.specs.Stamps.{offset_shape, utc_offset, stamp_seconds, stamp_shape, stamp}
use Rattle.field_types.proofs.DigitLaws.{given-wrong, given_is, then_is, same-is}

module _ (f : List ℕ) where
  pub offset-length : (length f ≡ 5 → ⊥) → None ≡ utc_offset f
  unfolding utc_offset
  offset-length h = rw (ne_eqb (length f) 5 h)

  pub offset-colon : (get_or f 2 0 ≡ 58 → ⊥) → None ≡ utc_offset f
  unfolding utc_offset
  offset-colon h = rw (ne_eqb (get_or f 2 0) 58 h) (rw (and-false (eqb (length f) 5)))

  pub offset-no-hour : None ≡ numeral 2 (take 2 f) → None ≡ utc_offset f
  unfolding utc_offset
  offset-no-hour e = rw (← e) (given-wrong (offset_shape f))

  module _ (h : ℕ) (eh : Some h ≡ numeral 2 (take 2 f)) where
    pub offset-no-minute : None ≡ numeral 2 (take 2 (drop 3 f)) → None ≡ utc_offset f
    unfolding utc_offset
    offset-no-minute e = rw (← eh, ← e) (given-wrong (offset_shape f))

    module _ (m : ℕ) (em : Some m ≡ numeral 2 (take 2 (drop 3 f))) where
      pub offset-minute : 59 < m → None ≡ utc_offset f
      unfolding utc_offset
      offset-minute l = rw (← eh, ← em, lt-leb m 59 l) (given-wrong (offset_shape f))

      pub offset-over : 840 < h * 60 + m → None ≡ utc_offset f
      unfolding utc_offset
      offset-over l = rw (← eh, ← em, lt-leb (h * 60 + m) 840 l, and-false (leb m 59)) (given-wrong (offset_shape f))

      pub offset-is : m ≤ 59 → h * 60 + m ≤ 840 → length f ≡ 5 → get_or f 2 0 ≡ 58 → Some ((h * 60 + m) * 60) ≡ utc_offset f
      unfolding utc_offset
      offset-is k l a b =
          rw (← eh, ← em, le-leb m 59 k, le-leb (h * 60 + m) 840 l, eq-eqb (length f) 5 a, eq-eqb (get_or f 2 0) 58 b)

-- an accepted offset is at most 14 hours
pub offset-most : (f : List ℕ) {n : ℕ} → Some n ≡ utc_offset f → n ≤ 50400
unfolding utc_offset
offset-most f {n} e =
    let a = given_is (offset_shape f) _ e in
    let h = then_is (numeral 2 (take 2 f)) _ a.1 in
    let m = then_is (numeral 2 (take 2 (drop 3 f))) _ h.2 in
    let g = given_is (leb m.0 59 && leb (h.0 * 60 + m.0) 840) _ m.2 in
    let b = and-pass (leb m.0 59) (leb (h.0 * 60 + m.0) 840) g.0 in
    omega (arith, leb-true (h.0 * 60 + m.0) 840 b.1, same-is g.1)

module _ (f : List ℕ) where
  pub stamp-shapeless : false ≡ stamp_shape f → None ≡ stamp f
  unfolding stamp
  stamp-shapeless e = rw (← e)

  pub shape-length : true ≡ stamp_shape f → length f ≡ 25
  shape-length e = eqb-true (length f) 25 (and-pass (eqb (length f) 25) _ (and-pass (eqb (length f) 25 && eqb (get_or f 10 0) 84) _ (sym e)).0).0

  pub stamp-no-date : None ≡ date (take 10 f) → None ≡ stamp f
  unfolding stamp
  stamp-no-date e = rw (← e) (given-wrong (stamp_shape f))

  module _ (d : ℕ) (ed : Some d ≡ date (take 10 f)) where
    pub stamp-no-clock : None ≡ clock 23 (take 8 (drop 11 f)) → None ≡ stamp f
    unfolding stamp
    stamp-no-clock e = rw (← ed, ← e) (given-wrong (stamp_shape f))

    module _ (s : ℕ) (es : Some s ≡ clock 23 (take 8 (drop 11 f))) where
      pub stamp-no-offset : None ≡ utc_offset (take 5 (drop 20 f)) → None ≡ stamp f
      unfolding stamp
      stamp-no-offset e = rw (← ed, ← es, ← e) (given-wrong (stamp_shape f))

      pub stamp-is :
          (o : ℕ) → Some o ≡ utc_offset (take 5 (drop 20 f)) → true ≡ stamp_shape f
          → Some (stamp_seconds (eqb (get_or f 19 0) 45) d s o) ≡ stamp f
      unfolding stamp
      stamp-is o eo e = rw (← ed, ← es, ← eo, ← e)
