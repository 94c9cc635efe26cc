-- Texts: what is written with escapes is kept as itself, and padding tells texts apart. Assumes nothing.
use mathlib.Core.Path.{◌≡◌, ◌∙◌, refl, sym, ap}
use mathlib.Core.Bool.{Bool, true, false}
use mathlib.Core.List.{List, [], ◌∷◌, ◌++◌}
use Prim.Native.Nat.{ℕ, zero, suc, ◌-◌, ◌≤◌}
use native.Mathlib.Omega.{arith}
use borrow.Author.Tests.{eqb-true}
use lib.Dec.{eqb}
use lib.ListN.{length, replicate, length-append, length-replicate}
use Rattle.std.specs.Prelude.{Some, is_some, unwrap_or}
use Rattle.std.proofs.lemmas.Option.{same_Some, none-some}
use Rattle.lists.specs.Each.{Each}
use Rattle.lists.specs.Logic.{on, within}
use Rattle.lists.proofs.LogicLaws.{and-pass, within-true, in-range}
use Rattle.turbo.specs.Escape.{escaped, decode_after, decode}
use Rattle.texts.specs.Facts.{TextFacts}
use Rattle.texts.specs.Texts.{all_text, padded_to, given_to, is_text_to, text_to, padded, is_text, text, escape}

-- what is written with escapes stands for itself
escape-decoded : (t : List ℕ) → decode_after false (escape t) ≡ t
unfolding escaped
escape-decoded [] = refl
escape-decoded (x ∷ t) = go (eqb x 92) (eqb x 124) refl refl (escape-decoded t)
  where
    go :
        (a b : Bool) → eqb x 92 ≡ a → eqb x 124 ≡ b → decode_after false (escape t) ≡ t
        → decode_after false (on a (92 ∷ 105 ∷ escape t) (on b (92 ∷ 112 ∷ escape t) (x ∷ escape t))) ≡ x ∷ t
    go true b p q r = rw r (ap (λ (y : ℕ). y ∷ t) (sym (eqb-true x 92 p)))
    go false true p q r = rw r (ap (λ (y : ℕ). y ∷ t) (sym (eqb-true x 124 q)))
    go false false p q r = rw p (ap (λ (l : List ℕ). x ∷ l) r)

-- ---- over any width

module _ (w : ℕ) where
  -- what the test of a text says
  pub is-text-to : (t : List ℕ) → 1 ≤ length t → length t ≤ w → all_text t ≡ true → is_text_to w t ≡ true
  is-text-to t h k g = rw (in-range 1 w (length t) h k, g)

  pub text-to-is : (t : List ℕ) → is_text_to w t ≡ true → (1 ≤ length t) × (length t ≤ w) × (all_text t ≡ true)
  text-to-is t e =
      let b = and-pass (within 1 w (length t)) (all_text t) e in
      let r = within-true 1 w (length t) b.0 in
      (r.0, r.1, b.1)

  pub escape-kept : (t : List ℕ) → is_text_to w t ≡ true → text_to w (escape t) ≡ Some (padded_to w t)
  unfolding decode
  escape-kept t e = rw (escape-decoded t, e)

  -- whether a text is kept, and which, by the test of what its field stands for
  pub ok-to : (f : List ℕ) → is_some (text_to w f) ≡ is_text_to w (decode f)
  ok-to f = go (is_text_to w (decode f))
    where
      go : (b : Bool) → is_some (given_to w b (decode f)) ≡ b
      go true = refl
      go false = refl

  pub read-to : (f : List ℕ) → is_text_to w (decode f) ≡ true → text_to w f ≡ Some (padded_to w (decode f))
  read-to f e = rw e

  pub kept-to : (f t : List ℕ) → text_to w f ≡ Some t → (is_text_to w (decode f) ≡ true) × (t ≡ padded_to w (decode f))
  kept-to f t e = go (is_text_to w (decode f)) refl e
    where
      go :
          (b : Bool) → is_text_to w (decode f) ≡ b → given_to w b (decode f) ≡ Some t
          → (is_text_to w (decode f) ≡ true) × (t ≡ padded_to w (decode f))
      go true p q = (p, sym (same_Some _ _ q))
      go false p q = absurd (none-some _ q)

  pub refused-to : (f : List ℕ) → is_some (text_to w f) ≡ false → unwrap_or (text_to w f) (replicate w 0) ≡ replicate w 0
  refused-to f e = rw (sym (ok-to f) ∙ e)

  pub padded-long : (t : List ℕ) → length t ≤ w → length (padded_to w t) ≡ w
  padded-long t h =
      length-append t (replicate (w - length t) 0) ∙ omega (arith, length-replicate {A = ℕ} (w - length t) 0)

  pub text-long : (f : List ℕ) → length (unwrap_or (text_to w f) (replicate w 0)) ≡ w
  text-long f = go (is_text_to w (decode f)) refl
    where
      go : (b : Bool) → is_text_to w (decode f) ≡ b → length (unwrap_or (given_to w b (decode f)) (replicate w 0)) ≡ w
      go true e = padded-long (decode f) (text-to-is (decode f) e).1
      go false e = length-replicate {A = ℕ} w 0

-- ---- kept in ten bytes

pub is-text : (t : List ℕ) → 1 ≤ length t → length t ≤ 10 → all_text t ≡ true → is_text t ≡ true
is-text = is-text-to 10

pub text-is : (t : List ℕ) → is_text t ≡ true → (1 ≤ length t) × (length t ≤ 10) × (all_text t ≡ true)
text-is = text-to-is 10

pub text-read : (f : List ℕ) → is_text (decode f) ≡ true → text f ≡ Some (padded (decode f))
unfolding text
text-read f e = read-to 10 f e

pub kept-bytes : (f t : List ℕ) → text f ≡ Some t → (is_text (decode f) ≡ true) × (t ≡ padded (decode f))
unfolding text
kept-bytes f t e = kept-to 10 f t e

pub padded-length : (t : List ℕ) → length t ≤ 10 → length (padded t) ≡ 10
padded-length = padded-long 10

pub text-length : (f t : List ℕ) → text f ≡ Some t → length t ≡ 10
text-length f t e = let k = kept-bytes f t e in ap length k.1 ∙ padded-length (decode f) (text-is (decode f) k.0).1

-- ---- told apart

-- no text holds a zero byte, so zero bytes behind it tell where it ends
never-zero : (x : ℕ) → within 32 126 x ≡ true → 0 ≡ x → ⊥
never-zero x h e = omega (arith, within-true 32 126 x h)

none-zero : (m n x : ℕ) (u : List ℕ) → within 32 126 x ≡ true → replicate m 0 ≡ x ∷ u ++ replicate n 0 → ⊥
none-zero zero n x u h e = let z : ◌≡◌ {A = ℕ} 0 1 = cc in omega arith
none-zero (suc m) n x u h e = let z : 0 ≡ x = cc in never-zero x h z

pub told-apart :
    (t u : List ℕ) (m n : ℕ) → all_text t ≡ true → all_text u ≡ true → t ++ replicate m 0 ≡ u ++ replicate n 0 → t ≡ u
told-apart [] [] m n g h e = refl
told-apart [] (x ∷ u) m n g h e = absurd (none-zero m n x u (and-pass (within 32 126 x) (all_text u) h).0 e)
told-apart (x ∷ t) [] m n g h e = absurd (none-zero n m x t (and-pass (within 32 126 x) (all_text t) g).0 (sym e))
told-apart (x ∷ t) (y ∷ u) m n g h e =
    let p : x ≡ y = cc in
    let q : t ++ replicate m 0 ≡ u ++ replicate n 0 = cc in
    let r = told-apart t u m n (and-pass (within 32 126 x) (all_text t) g).1 (and-pass (within 32 126 y) (all_text u) h).1 q in
    cc

-- ---- a text by its facts

abbrev pub InText : List ℕ → Type 0
InText t = Each (λ (b : ℕ). (32 ≤ b) × (b ≤ 126)) t

pub all-each : (t : List ℕ) → all_text t ≡ true → InText t
all-each [] e = tt
all-each (x ∷ t) e = let b = and-pass (within 32 126 x) (all_text t) e in (within-true 32 126 x b.0, all-each t b.1)

pub each_all : (t : List ℕ) → InText t → all_text t ≡ true
each_all [] h = refl
each_all (x ∷ t) h = rw (in-range 32 126 x h.0.0 h.0.1, each_all t h.1)

module _ (w : ℕ) (t : List ℕ) where
  pub test-facts : is_text_to w t ≡ true → TextFacts w t
  test-facts e = let p = text-to-is w t e in record { least = p.0; most = p.1; bytes = all-each t p.2 }

  pub facts-test : TextFacts w t → is_text_to w t ≡ true
  facts-test f = is-text-to w t f.least f.most (each_all t f.bytes)
