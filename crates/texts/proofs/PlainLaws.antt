-- A field without an escape: what a loop over it cites, that it is kept as itself, and that it may be written over zeros. Assumes nothing.
use mathlib.Core.Path.{◌≡◌, ◌∙◌, refl, sym, ap}
use mathlib.Core.Bool.{Bool, true, false}
use mathlib.Core.List.{List, [], ◌∷◌, ◌++◌}
use Prim.Native.Nat.{ℕ, zero, suc, ◌+◌, ◌-◌, ◌<◌, ◌≤◌}
use native.Mathlib.Omega.{arith}
use native.Mathlib.Numerals.{add-one}
use borrow.Author.Tests.{eq-eqb, ne_eqb}
use lib.Dec.{eqb}
use lib.ListN.{length, get_or, drop, replicate, length-replicate, replicate-append-replicate, drop_of_length-le}
use lib.Seq.{drop-cons}
use Rattle.lists.specs.Logic.{on, within}
use Rattle.lists.specs.Part.{over}
use Rattle.lists.proofs.OverLaws.{onto-front}
use Rattle.lists.proofs.LogicLaws.{and-pass, within-true, in-range, below-range, above-range}
use Rattle.turbo.specs.Escape.{decode_after, decode}
use Rattle.texts.specs.Texts.{all_text, padded, text_given, text}
use Rattle.texts.specs.inner.Steps.{plain_byte, all_plain, plain}

-- ---- the test of a field

pub plain-none : (f : List ℕ) → length f < 1 → plain f ≡ false
unfolding plain
plain-none f h = rw (below-range 1 10 (length f) h)

pub plain-long : (f : List ℕ) → 10 < length f → plain f ≡ false
unfolding plain
plain-long f h = rw (above-range 1 10 (length f) h)

pub plain-sized : (f : List ℕ) → 1 ≤ length f → length f ≤ 10 → plain f ≡ all_plain f
unfolding plain
plain-sized f h k = rw (in-range 1 10 (length f) h k)

never : (t : Bool) → on t false false ≡ false
never true = refl
never false = refl

pub byte-below : (b : ℕ) → b < 32 → plain_byte b ≡ false
byte-below b h = rw (below-range 32 126 b h) (never (eqb b 92))

pub byte_above : (b : ℕ) → 126 < b → plain_byte b ≡ false
byte_above b h = rw (above-range 32 126 b h) (never (eqb b 92))

pub byte-slash : (b : ℕ) → b ≡ 92 → plain_byte b ≡ false
byte-slash b h = rw (eq-eqb b 92 h)

pub byte-plain : (b : ℕ) → 32 ≤ b → b ≤ 126 → (b ≡ 92 → ⊥) → plain_byte b ≡ true
byte-plain b h k d = rw (ne_eqb b 92 d, in-range 32 126 b h k)

module _ (f : List ℕ) (i : ℕ) where
  pub plain-ends : i < length f → plain_byte (get_or f i 0) ≡ false → all_plain (drop i f) ≡ false
  plain-ends h e = rw (drop-cons f i 0 h) (rw e)

  pub plain-goes : i < length f → plain_byte (get_or f i 0) ≡ true → all_plain (drop i f) ≡ all_plain (drop (i + 1) f)
  plain-goes h e = rw (add-one, drop-cons f i 0 h) (rw e)

  pub plain_done : length f ≤ i → all_plain (drop i f) ≡ true
  plain_done h = rw (drop_of_length-le f h)

-- ---- a plain field stands for itself

byte-is : (b : ℕ) → plain_byte b ≡ true → (eqb b 92 ≡ false) × (within 32 126 b ≡ true)
byte-is b e = go (eqb b 92) e
  where
    go : (t : Bool) → on t false (within 32 126 b) ≡ true → (t ≡ false) × (within 32 126 b ≡ true)
    go true e = absurd (let z : ◌≡◌ {A = ℕ} 0 1 = cc in omega arith)
    go false e = (refl, e)

plain-decoded : (f : List ℕ) → all_plain f ≡ true → decode_after false f ≡ f
plain-decoded [] e = refl
plain-decoded (x ∷ f) e =
    let b = and-pass (plain_byte x) (all_plain f) e in
    rw (byte-is x b.0).0 (ap (λ (l : List ℕ). x ∷ l) (plain-decoded f b.1))

plain-all : (f : List ℕ) → all_plain f ≡ true → all_text f ≡ true
plain-all [] e = refl
plain-all (x ∷ f) e =
    let b = and-pass (plain_byte x) (all_plain f) e in
    rw ((byte-is x b.0).1, plain-all f b.1)

pub plain-is : (f : List ℕ) → plain f ≡ true → (1 ≤ length f) × (length f ≤ 10) × (all_plain f ≡ true)
unfolding plain
plain-is f e =
    let b = and-pass (within 1 10 (length f)) (all_plain f) e in
    let r = within-true 1 10 (length f) b.0 in
    (r.0, r.1, b.1)

pub plain-text : (f : List ℕ) → plain f ≡ true → text f ≡ text_given true f
unfolding text decode
plain-text f e =
    let p = plain-is f e in
    rw (plain-decoded f p.2, in-range 1 10 (length f) p.0 p.1, plain-all f p.2)

-- ---- written over zeros

-- the front of a write, written again
over-again : (at : ℕ) (xs ys zs d : List ℕ) → length xs ≡ length ys → over at ys (over at (xs ++ zs) d) ≡ over at (ys ++ zs) d
unfolding over
over-again zero xs ys zs d h = onto-front xs ys zs d h
over-again (suc at) xs ys zs [] h = refl
over-again (suc at) xs ys zs (x ∷ d) h = ap (λ (l : List ℕ). x ∷ l) (over-again at xs ys zs d h)

pub over_zeros : (at : ℕ) (f d : List ℕ) → length f ≤ 10 → over at f (over at (replicate 10 0) d) ≡ over at (padded f) d
over_zeros at f d h =
    let n : 10 ≡ length f + (10 - length f) = omega arith in
    ap (λ (k : ℕ). over at f (over at (replicate k 0) d)) n
    ∙ ap (λ (l : List ℕ). over at f (over at l d)) (sym (replicate-append-replicate {A = ℕ} (length f) (10 - length f) 0))
    ∙ over-again at (replicate (length f) 0) f (replicate (10 - length f) 0) d (length-replicate {A = ℕ} (length f) 0)
