-- Padded texts: the same as the texts that fields keep. Assumes nothing.
use mathlib.Core.Path.{◌≡◌, ◌∙◌, refl, ap}
use mathlib.Core.Bool.{Bool, true, false}
use mathlib.Core.List.{List, [], ◌∷◌, ◌++◌}
use Prim.Native.Nat.{ℕ, zero, suc, ◌+◌, ◌-◌, ◌≤◌}
use native.Mathlib.Omega.{arith}
use borrow.Author.Tests.{eq-eqb, eqb-true}
use lib.Dec.{eqb}
use lib.ListN.{length, get_or, replicate, length-append, length-replicate}
use Rattle.lists.specs.Logic.{on, within}
use Rattle.lists.proofs.LogicLaws.{and-pass, all_pass, within-true}
use Rattle.texts.specs.Texts.{all_text, padded, is_text}
use Rattle.texts.proofs.KeptLaws.{is-text, text-is, padded-length}
use Rattle.passage.specs.Layout.{text_wide}
use Rattle.passage.specs.Ranges.{all_zero, text_then_zeros, padded_text}

never-zero : (x : ℕ) → within 32 126 x ≡ true → x ≡ 0 → ⊥
never-zero x h e = omega (arith, within-true 32 126 x h)

-- bytes of 32 to 126, then zero bytes
record Split (l : List ℕ) : Type 0 where
  text : List ℕ
  pads : ℕ
  good : all_text text ≡ true
  whole : l ≡ text ++ replicate pads 0

zeros : (l : List ℕ) → all_zero l ≡ true → l ≡ replicate (length l) 0
zeros [] e = refl
zeros (x ∷ l) e =
    let p = and-pass (eqb x 0) (all_zero l) e in
    let z : x ≡ 0 = eqb-true x 0 p.0 in
    let r : l ≡ replicate (length l) 0 = zeros l p.1 in
    cc

split : (l : List ℕ) → text_then_zeros l ≡ true → Split l
split [] e = record { text = []; pads = 0; good = refl; whole = refl }
split (x ∷ l) e = go (within 32 126 x) refl e (split l)
  where
    go : (t : Bool) → within 32 126 x ≡ t → on t (text_then_zeros l) (all_zero (x ∷ l)) ≡ true → (text_then_zeros l ≡ true → Split l) → Split (x ∷ l)
    go true h e r =
        let s = r e in
        record { text = x ∷ s.text; pads = s.pads; good = rw h s.good; whole = ap (λ (m : List ℕ). x ∷ m) s.whole }
    go false h e r = record { text = []; pads = length (x ∷ l); good = refl; whole = zeros (x ∷ l) e }

-- what begins with a byte of 32 to 126 has a text in front
some : (t : List ℕ) (n : ℕ) → within 32 126 (get_or (t ++ replicate n 0) 0 0) ≡ true → 1 ≤ length t
some [] zero h = absurd (never-zero 0 h refl)
some [] (suc n) h = absurd (never-zero 0 h refl)
some (x ∷ t) n h = omega arith

pub padded-long : (l : List ℕ) → padded_text l ≡ true → length l ≡ text_wide
unfolding padded_text
padded-long l e = eqb-true _ _ (all_pass (eqb (length l) text_wide) (within 32 126 (get_or l 0 0) ∷ text_then_zeros l ∷ []) e 0)

split-long : (t : List ℕ) (n : ℕ) → length (t ++ replicate n 0) ≡ length t + n
split-long t n = length-append t (replicate n 0) ∙ rw (length-replicate {A = ℕ} n 0)

pub padded-from : (l : List ℕ) → padded_text l ≡ true → (t : List ℕ) × (is_text t ≡ true) × (l ≡ padded t)
unfolding padded_text
padded-from l e =
    let p = all_pass (eqb (length l) text_wide) (within 32 126 (get_or l 0 0) ∷ text_then_zeros l ∷ []) e in
    let s = split l (p 2) in
    let h : length l ≡ text_wide = eqb-true _ _ (p 0) in
    let n : length l ≡ length s.text + s.pads = ap length s.whole ∙ split-long s.text s.pads in
    let k : s.pads ≡ 10 - length s.text = omega arith in
    let f : 1 ≤ length s.text = some s.text s.pads (rw s.whole at (p 1)) in (
      s.text,
      is-text s.text f (omega arith) s.good,
      s.whole ∙ ap (λ (k : ℕ). s.text ++ replicate k 0) k,
    )

all-zeros : (n : ℕ) → all_zero (replicate n 0) ≡ true
all-zeros zero = refl
all-zeros (suc n) = all-zeros n

text-then : (t : List ℕ) (n : ℕ) → all_text t ≡ true → text_then_zeros (t ++ replicate n 0) ≡ true
text-then [] zero e = refl
text-then [] (suc n) e = all-zeros n
text-then (x ∷ t) n e =
    let p = and-pass (within 32 126 x) (all_text t) e in
    rw p.0 (text-then t n p.1)

pub padded-text : (t : List ℕ) → is_text t ≡ true → padded_text (padded t) ≡ true
unfolding padded_text
padded-text [] e = absurd (omega (arith, (text-is [] e).0))
padded-text (x ∷ t) e =
    let f = text-is (x ∷ t) e in
    let p = and-pass (within 32 126 x) (all_text t) f.2 in
    rw (eq-eqb _ _ (padded-length (x ∷ t) f.1), p.0) (text-then t (10 - length (x ∷ t)) p.1)
