-- The state of a reader of a text, its moves and its ends. Assumes nothing.
use mathlib.Core.Path.{◌≡◌, ◌∙◌, refl, sym, ap, subst}
use mathlib.Core.Bool.{Bool, true, false}
use mathlib.Core.List.{List, [], ◌∷◌, ◌++◌, append-nil}
use Prim.Native.Nat.{ℕ, suc, ◌+◌, ◌-◌, ◌<◌, ◌≤◌}
use native.Mathlib.Omega.{arith}
use native.Mathlib.Numerals.{add-one}
use lib.Dec.{eqb}
use lib.ListN.{length, get_or, drop, set, replicate, length-append}
use lib.Seq.{drop-cons, drop-length, append_snoc, set_at}
use Rattle.std.specs.Prelude.{Option, Some, None}
use Rattle.texts.specs.declared.Step.{Step}
use Rattle.texts.specs.declared.Step.TheVariants.{Mark, Byte}
use Rattle.std.specs.Option.{unwrap_or}
use Rattle.lists.specs.Logic.{on, within}
use Rattle.turbo.specs.Escape.{escaped, decode_after, decode}
use Rattle.texts.specs.Texts.{all_text, padded, text_given, text}
use Rattle.lists.proofs.LogicLaws.{and-false, and-pass, in-range, above-range}
use Rattle.texts.specs.inner.Steps.{kept_step, step_of}

-- what a step tells of l, the bytes that the field stands for from here on, where rest is left of the field
abbrev Told : Option Step → List ℕ → List ℕ → Type 0
Told (Some Mark) l rest = l ≡ decode_after true rest
Told (Some (Byte v)) l rest = (l ≡ v ∷ decode_after false rest) × (within 32 126 v ≡ true)
Told None l rest = (v : ℕ) × (l ≡ v ∷ decode_after false rest) × (within 32 126 v ≡ false)

kept-told : (x : ℕ) (rest : List ℕ) → Told (kept_step x) (x ∷ decode_after false rest) rest
kept-told x rest = go (within 32 126 x) refl
  where
    go : (t : Bool) → within 32 126 x ≡ t → Told (on t (Some (Byte x)) None) (x ∷ decode_after false rest) rest
    go true e = (refl, e)
    go false e = (x, refl, e)

step-told : (after : Bool) (b : ℕ) (rest : List ℕ) → Told (step_of after b) (decode_after after (b ∷ rest)) rest
unfolding step_of
step-told true b rest = kept-told (unwrap_or (escaped b) 0) rest
step-told false b rest = go (eqb b 92)
  where
    go : (t : Bool) → Told (on t (Some Mark) (kept_step b)) (on t (decode_after true rest) (b ∷ decode_after false rest)) rest
    go true = refl
    go false = kept-told b rest

told : (f : List ℕ) (i : ℕ) (after : Bool) (s : Option Step) → i < length f → step_of after (get_or f i 0) ≡ s
    → Told s (decode_after after (drop i f)) (drop (i + 1) f)
told f i after s h e =
    subst (λ (s : Option Step). Told s (decode_after after (drop i f)) (drop (i + 1) f)) e
    (rw (add-one, drop-cons f i 0 h) (step-told after (get_or f i 0) (drop (suc i) f)))

-- what is kept so far, and what is left
pub record Reading (f out : List ℕ) (n : ℕ) (after : Bool) (i : ℕ) : Type 0 where
  pub kept : List ℕ
  pub laid : out ≡ padded kept
  pub count : length kept ≡ n
  pub few : n ≤ 10
  pub place : i ≤ length f
  pub left : decode f ≡ kept ++ decode_after after (drop i f)
  pub good : all_text kept ≡ true

pub begin : (f : List ℕ) → Reading f (replicate 10 0) 0 false 0
unfolding decode
begin f =
    record { kept = []; laid = refl; count = refl; few = omega arith; place = omega arith; left = refl; good = refl }

text-more : (t : List ℕ) (v : ℕ) → all_text t ≡ true → within 32 126 v ≡ true → all_text (t ++ (v ∷ [])) ≡ true
text-more [] v e h = rw h
text-more (x ∷ t) v e h =
    let b = and-pass (within 32 126 x) (all_text t) e in
    rw (b.0, text-more t v b.1 h)

text-never : (t : List ℕ) (v : ℕ) (l : List ℕ) → within 32 126 v ≡ false → all_text (t ++ v ∷ l) ≡ false
text-never [] v l h = rw h
text-never (x ∷ t) v l h = rw (text-never t v l h) (and-false (within 32 126 x))

put : (t : List ℕ) (v : ℕ) → length t < 10 → set (padded t) (length t) v ≡ padded (t ++ (v ∷ []))
put t v h =
    let e : 10 - length t ≡ suc (10 - length (t ++ (v ∷ []))) = omega (arith, length-append t (v ∷ [])) in
    ap (λ (k : ℕ). set (t ++ replicate k 0) (length t) v) e
    ∙ set_at t 0 (replicate (10 - length (t ++ (v ∷ []))) 0) v (length t) refl
    ∙ sym (append_snoc t v (replicate (10 - length (t ++ (v ∷ []))) 0))

-- the outcomes, by what the field stands for
outcome-none : (f : List ℕ) → decode f ≡ [] → None ≡ text f
unfolding text
outcome-none f e = rw e

outcome-never : (f t : List ℕ) (v : ℕ) (l : List ℕ) → decode f ≡ t ++ v ∷ l → within 32 126 v ≡ false → None ≡ text f
unfolding text
outcome-never f t v l e h = rw (e, text-never t v l h, and-false (within 1 10 (length (t ++ v ∷ l))))

outcome-long : (f t : List ℕ) (v : ℕ) (l : List ℕ) → decode f ≡ t ++ v ∷ l → length t ≡ 10 → None ≡ text f
unfolding text
outcome-long f t v l e h = rw (e, above-range 1 10 (length (t ++ v ∷ l)) (omega (arith, length-append t (v ∷ l))))

outcome-is : (f t : List ℕ) → decode f ≡ t → 1 ≤ length t → length t ≤ 10 → all_text t ≡ true → text_given true t ≡ text f
unfolding text
outcome-is f t e h k g = rw (e, in-range 1 10 (length t) h k, g)

module _ (f out : List ℕ) (n : ℕ) (after : Bool) (i : ℕ) (r : Reading f out n after i) where
  module _ (h : i < length f) where
    pub move-mark : step_of after (get_or f i 0) ≡ Some Mark → Reading f out n true (i + 1)
    move-mark e =
        record {
          kept = r.kept;
          laid = r.laid;
          count = r.count;
          few = r.few;
          place = omega arith;
          left = r.left ∙ ap (λ (l : List ℕ). r.kept ++ l) (told f i after (Some Mark) h e);
          good = r.good;
        }

    pub move-byte : (v : ℕ) → step_of after (get_or f i 0) ≡ Some (Byte v) → (n ≡ 10 → ⊥) → Reading f (set out n v) (n + 1) false (i + 1)
    move-byte v e d =
        let t = told f i after (Some (Byte v)) h e in
        let few = r.few in
        let count = r.count in
        record {
          kept = r.kept ++ (v ∷ []);
          laid = rw (r.laid, ← r.count) (put r.kept v (omega arith));
          count = omega (arith, length-append r.kept (v ∷ []));
          few = omega arith;
          place = omega arith;
          left = r.left ∙ ap (λ (l : List ℕ). r.kept ++ l) t.0 ∙ sym (append_snoc r.kept v (decode_after false (drop (i + 1) f)));
          good = text-more r.kept v r.good t.1;
        }

    pub end-long : (v : ℕ) → step_of after (get_or f i 0) ≡ Some (Byte v) → n ≡ 10 → None ≡ text f
    end-long v e d =
        outcome-long f r.kept v (decode_after false (drop (i + 1) f))
        (r.left ∙ ap (λ (l : List ℕ). r.kept ++ l) (told f i after (Some (Byte v)) h e).0) (r.count ∙ d)

    pub end-bad : step_of after (get_or f i 0) ≡ None → None ≡ text f
    end-bad e =
        let t = told f i after None h e in
        outcome-never f r.kept t.0 (decode_after false (drop (i + 1) f))
        (r.left ∙ ap (λ (l : List ℕ). r.kept ++ l) t.1) t.2

  module _ (h : length f ≤ i) where
    at-end : decode f ≡ r.kept ++ decode_after after []
    at-end =
        let place = r.place in
        let e : i ≡ length f = omega arith in
        r.left ∙ ap (λ (k : ℕ). r.kept ++ decode_after after (drop k f)) e ∙ ap (λ (l : List ℕ). r.kept ++ decode_after after l) (drop-length f)

    pub end-open : after ≡ true → None ≡ text f
    end-open e =
        outcome-never f r.kept 0 [] (at-end ∙ ap (λ (b : Bool). r.kept ++ decode_after b []) e) refl

    closed : after ≡ false → decode f ≡ r.kept
    closed e = at-end ∙ ap (λ (b : Bool). r.kept ++ decode_after b []) e ∙ append-nil r.kept

    pub end_none : after ≡ false → n ≡ 0 → None ≡ text f
    end_none e d = outcome-none f (closed e ∙ none r.kept (r.count ∙ d))
      where
        none : (l : List ℕ) → length l ≡ 0 → l ≡ []
        none [] p = refl
        none (x ∷ l) p = absurd (omega arith)

    pub end_is : after ≡ false → (n ≡ 0 → ⊥) → Some out ≡ text f
    end_is e d =
        let few = r.few in
        let count = r.count in
        ap Some r.laid
        ∙ outcome-is f r.kept (closed e) (omega arith) (omega arith) r.good
