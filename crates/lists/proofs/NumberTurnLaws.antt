-- A turn of each loop that reads or writes a number as bytes. Assumes nothing.
use mathlib.Core.Path.{◌≡◌, sym, ap, ◌∙◌}
use mathlib.Core.List.{List}
use Prim.Native.Nat.{ℕ, suc, ◌+◌, ◌*◌, ◌-◌, ◌/◌, ◌%◌, ◌^◌, ◌≤◌, ◌<◌}
use native.Mathlib.Nat.{sub_self, add-zero, div-one, div-div-eq-div-mul, lt_of_lt_of_le, pow-suc, pow-le-pow_right}
use native.Mathlib.Omega.{arith}
use lib.ListN.{length, take, get_or, set}
use lib.Seq.{length-take-le}
use Rattle.lists.specs.Each.{Bytes}
use Rattle.lists.specs.Part.{part, over}
use Rattle.lists.specs.BigEndian.{number, spelled}
use Rattle.lists.proofs.EachLaws.{each_take}
use Rattle.lists.proofs.PartLaws.{part-zero, part-snoc, take_snoc}
use Rattle.lists.proofs.OverLaws.{over-nil, over-cons}
use Rattle.lists.proofs.BigEndianLaws.{number-nil, number-snoc, number-below, spelled_suc, spelled-zero}

-- ---- reading: n is the number of the i bytes passed, from `at` on or of a list by itself

pub read-start : (at : ℕ) (s : List ℕ) → 0 ≡ number (part at 0 s)
read-start at s = sym (ap number (part-zero at s) ∙ number-nil)

pub read-turn : (at i n : ℕ) (s : List ℕ) → n ≡ number (part at i s) → at + i < length s → n * 256 + get_or s (at + i) 0 ≡ number (part at (i + 1) s)
read-turn at i n s e h = rw (part-snoc at i s h, number-snoc, e)

pub read-next : (i n : ℕ) (l : List ℕ) → n ≡ number (take i l) → i < length l → n * 256 + get_or l i 0 ≡ number (take (i + 1) l)
read-next i n l e h = rw (take_snoc i l h, number-snoc, e)

-- of up to four bytes, those passed and the next one fit into 32 bits
pub read-room : (i n : ℕ) (l : List ℕ) → n ≡ number (take i l) → Bytes l → i < length l → length l ≤ 4 → n * 256 + get_or l i 0 < 256 ^ 4
read-room i n l e b h k =
    let t : number (take (i + 1) l) < 256 ^ length (take (i + 1) l) = number-below (take (i + 1) l) (each_take (λ (b : ℕ). b < 256) (i + 1) l b) in
    let f : number (take (i + 1) l) < 256 ^ (i + 1) = rw (length-take-le (i + 1) l (omega arith)) at t in
    let j : i + 1 ≤ 4 = omega arith in
    let m : 256 ^ (i + 1) ≤ 256 ^ 4 = pow-le-pow_right {n = 256} (omega arith) j in
    rw (read-next i n l e h) (lt_of_lt_of_le f m)

-- ---- writing: i bytes are still to be written, and `rest` is what of v is left for them

module _ (at w v : ℕ) (s₀ : List ℕ) where
  pub rest-start : v ≡ v / 256 ^ (w - w)
  rest-start = rw sub_self (sym (div-one v))

  pub write-start : s₀ ≡ over (at + w) (spelled (w - w) v) s₀
  write-start = rw (sub_self, spelled-zero) (sym (over-nil (at + w) s₀))

  module _ (i rest : ℕ) (p : 0 < i) (h : i ≤ w) (r : rest ≡ v / 256 ^ (w - i)) where
    one_more : w - (i - 1) ≡ suc (w - i)
    one_more = omega arith

    pub rest-turn : rest / 256 ≡ v / 256 ^ (w - (i - 1))
    rest-turn = rw (one_more, pow-suc, r) (div-div-eq-div-mul v (256 ^ (w - i)) 256)

    pub write-turn : (s : List ℕ) → s ≡ over (at + i) (spelled (w - i) v) s₀ → set s (at + (i - 1)) (rest % 256) ≡ over (at + (i - 1)) (spelled (w - (i - 1)) v) s₀
    write-turn s e =
        let k : at + i ≡ suc (at + (i - 1)) = omega arith in
        rw (one_more, spelled_suc, e, r, k) (over-cons (at + (i - 1)) (v / 256 ^ (w - i) % 256) (spelled (w - i) v) s₀)

  pub write-end : (i : ℕ) (s : List ℕ) → i ≤ 0 → s ≡ over (at + i) (spelled (w - i) v) s₀ → s ≡ over at (spelled w v) s₀
  write-end i s h e =
      let z : i ≡ 0 = omega arith in
      let m : w - 0 ≡ w = omega arith in
      e ∙ rw (z, add-zero, m)
