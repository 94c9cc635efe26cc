-- A dossier cut into parts, fed and ended: what the one call leaves. Assumes nothing.
use Prim.Native.Nat.{ℕ, zero, suc, ◌+◌, ◌-◌, ◌*◌, ◌/◌, ◌≤◌, ◌<◌}
use mathlib.Core.Path.{◌≡◌, refl, sym, ap, ◌∙◌}
use mathlib.Core.List.{List, [], ◌∷◌, ◌++◌}
use native.Mathlib.Omega.{arith}
use lib.ListN.{length, take, drop, length-drop, take-append-drop}
use Rattle.lists.specs.Rows.{flat}
use Rattle.passage.specs.Layout.{body_wide}
use Rattle.columns.specs.Tables.{form_of}
use Rattle.reader.proofs.AnswerLaws.{rows_few}
use Rattle.feeds.specs.Kept.{begun_by}
use Rattle.feeds.specs.Feeding.{Feeding, feeding, feed_leaves}
use Rattle.feeds_whole.specs.Parts.{Lent, lent, lent_after, fed_parts, fed_from}
use Rattle.feeds_whole.proofs.CallLaws.{parts-are-whole}
use Rattle.calls.specs.declared.Counts.{Counts}
use Rattle.calls.specs.declared.Outcome.{Outcome}
use Rattle.calls.specs.Answers.{numbers}
use Rattle.calls.specs.Leaves.{leaves}
use Rattle.calls.specs.Message.{message_leaves}
use Rattle.calls.specs.End.{most_rows, EndLeaves, end_with, end_leaves}
use Rattle.boards_messages.specs.inner.Cut.{cut_for, cut}

-- ---- cutting

pub cut-none : (size : ℕ) (d : List ℕ) → length d ≡ 0 → cut size d ≡ []
unfolding cut cut_for
cut-none size [] e = refl
cut-none size (b ∷ d) e = absurd (omega (arith, e))

shorter : (size b : ℕ) (d : List ℕ) → 0 < size → length (drop size (b ∷ d)) ≤ length d
shorter size b d h = omega (arith, h, length-drop size (b ∷ d))

-- parts enough: more make no difference
cut-enough : (n m size : ℕ) (d : List ℕ) → 0 < size → length d ≤ n → length d ≤ m → cut_for n size d ≡ cut_for m size d
unfolding cut_for
cut-enough zero zero size d h e f = refl
cut-enough zero (suc m) size [] h e f = refl
cut-enough zero (suc m) size (b ∷ d) h e f = absurd (omega (arith, e))
cut-enough (suc n) zero size [] h e f = refl
cut-enough (suc n) zero size (b ∷ d) h e f = absurd (omega (arith, f))
cut-enough (suc n) (suc m) size [] h e f = refl
cut-enough (suc n) (suc m) size (b ∷ d) h e f =
    let s = shorter size b d h in
    ap (λ (x : List (List ℕ)). take size (b ∷ d) ∷ x) (cut-enough n m size (drop size (b ∷ d)) h (omega (arith, e, s)) (omega (arith, f, s)))

cut-first : (size : ℕ) (d : List ℕ) → 0 < size → 0 < length d → cut size d ≡ take size d ∷ cut size (drop size d)
unfolding cut cut_for
cut-first size [] h e = absurd (omega (arith, e))
cut-first size (b ∷ d) h e =
    ap (λ (x : List (List ℕ)). take size (b ∷ d) ∷ x) (cut-enough (length d) (length (drop size (b ∷ d))) size (drop size (b ∷ d)) h (shorter size b d h) (omega arith))

flat-for : (n size : ℕ) (d : List ℕ) → 0 < size → length d ≤ n → flat (cut_for n size d) ≡ d
unfolding cut_for flat
flat-for zero size [] h e = refl
flat-for zero size (b ∷ d) h e = absurd (omega (arith, e))
flat-for (suc n) size [] h e = refl
flat-for (suc n) size (b ∷ d) h e =
    let s = shorter size b d h in
    ap (λ (x : List ℕ). take size (b ∷ d) ++ x) (flat-for n size (drop size (b ∷ d)) h (omega (arith, e, s))) ∙ take-append-drop size (b ∷ d)

flat-cut : (size : ℕ) (d : List ℕ) → 0 < size → flat (cut size d) ≡ d
unfolding cut
flat-cut size d h = flat-for (length d) size d h (omega arith)

-- ---- feeding

one_less : (n : ℕ) → 0 < n → n - 1 + 1 ≡ n
one_less n h = omega (arith, h)

-- a part more
pub fed-turn : (register : List ℕ) (size : ℕ) (rest part next : List ℕ) (kept line staging kept' line' staging' : List ℕ) (r : ℕ) (w : Lent)
    → 0 < size
    → 0 < length rest
    → part ≡ take size rest
    → next ≡ drop (size - 1 + 1) rest
    → feeding r kept' line' staging' ≡ feed_leaves part register staging line kept
    → fed_parts register (lent kept line staging) (cut size rest) ≡ w
    → fed_parts register (lent kept' line' staging') (cut size next) ≡ w
unfolding fed_parts
fed-turn register size rest part next kept line staging kept' line' staging' r w h k e f g i =
    ap (λ (x : List ℕ). fed_parts register (lent kept' line' staging') (cut size x)) (f ∙ ap (λ (n : ℕ). drop n rest) (one_less size h))
    ∙ ap (λ (x : Feeding). fed_parts register (lent_after x) (cut size (drop size rest))) (g ∙ ap (λ (x : List ℕ). feed_leaves x register staging line kept) e)
    ∙ ap (λ (x : List (List ℕ)). fed_parts register (lent kept line staging) x) (sym (cut-first size rest h k))
    ∙ i

-- none is left
pub fed-done : (register : List ℕ) (size : ℕ) (rest : List ℕ) (m w : Lent) → length rest ≤ 0 → fed_parts register m (cut size rest) ≡ w → m ≡ w
unfolding fed_parts
fed-done register size rest m w h i = sym (ap (fed_parts register m) (cut-none size rest (omega (arith, h)))) ∙ i

-- ---- the end

rows_fit : (n k : ℕ) → n ≤ 2427 → most_rows * body_wide ≤ k → k / body_wide < n → ⊥
rows_fit n k few room short = omega (arith, few, room, short)

-- no message has more rows than there is room for: so 14 does not come up, and the end leaves what the one call leaves
module _ (dossier register : List ℕ) (size sender form : ℕ) (line staging book table : List ℕ) (c : Counts) (low : sender < 256) (small : form < 4294967296) (some : 0 < size) (room : most_rows * body_wide ≤ length staging) where
  m : Lent
  m = fed_from register sender form line staging (cut size dossier)

  l : EndLeaves
  l = end_leaves register m.staging book table c m.kept

  not_short : (numbers l.outcome.answer).0 ≡ 14 → ⊥
  unfolding m l
  not_short e =
      let s = (parts-are-whole (cut size dossier) register line staging book table sender form c low small).1.0 e in
      rows_fit s.2.0 (length staging) (rows_few (form_of form) register sender (flat (cut size dossier)) s.2.0 s.2.1).1 room s.2.2

  pub as-whole : (r : Outcome) (kept₁ kept₂ line₂ staging₂ book₃ table₃ kept₃ : List ℕ)
      → kept₁ ≡ begun_by sender form
      → lent kept₂ line₂ staging₂ ≡ fed_parts register (lent kept₁ line staging) (cut size dossier)
      → end_with r book₃ table₃ kept₃ ≡ end_leaves register staging₂ book table c kept₂
      → leaves r book₃ table₃ ≡ message_leaves dossier sender form register book table c
  unfolding m l
  as-whole r kept₁ kept₂ line₂ staging₂ book₃ table₃ kept₃ e f g =
      let same = (parts-are-whole (cut size dossier) register line staging book table sender form c low small).0 not_short in
      let fed : lent kept₂ line₂ staging₂ ≡ m = f ∙ ap (λ (x : List ℕ). fed_parts register (lent x line staging) (cut size dossier)) e in
      let at : end_with r book₃ table₃ kept₃ ≡ l = g ∙ ap (λ (x : Lent). end_leaves register x.staging book table c x.kept) fed in
      leaves-are r l.outcome book₃ l.book table₃ l.table (ap (λ (x : EndLeaves). x.outcome) at) (ap (λ (x : EndLeaves). x.book) at) (ap (λ (x : EndLeaves). x.table) at)
      ∙ leaves-are l.outcome _ l.book _ l.table _ same.0 same.1 same.2
      ∙ ap (λ (x : List ℕ). message_leaves x sender form register book table c) (flat-cut size dossier some)
    where
      leaves-are : (o o' : Outcome) (b b' t t' : List ℕ) → o ≡ o' → b ≡ b' → t ≡ t' → leaves o b t ≡ leaves o' b' t'
      leaves-are o o' b b' t t' p q u i = record { outcome = p i; book = q i; table = u i }
