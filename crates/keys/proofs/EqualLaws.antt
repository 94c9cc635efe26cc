-- Sorted rows are known by what each key gets. Assumes nothing.
use mathlib.Core.Path.{◌≡◌, refl, sym, ◌∙◌}
use mathlib.Core.Bool.{true}
use mathlib.Core.Logic.{inl, inr}
use mathlib.Core.List.{List, [], ◌∷◌}
use Prim.Native.Nat.{ℕ, ◌<◌}
use native.Mathlib.Nat.{not-suc-le-zero}
use lib.ListN.{length}
use Rattle.lists.specs.Each.{Each}
use Rattle.std.specs.declared.cmp.Ordering.TheVariants.{Less}
use Rattle.passage.specs.Layout.{key_of}
use Rattle.keys.specs.Keys.{cmp}
use Rattle.keys.specs.Sorted.{rises_from, sorted_rows, get}
use Rattle.keys.proofs.KeyLaws.{cmp-same, cmp-refl, flipped, Cases, cases}
use Rattle.keys.proofs.SortedLaws.{sorted_tail, sorted_rises}
use Rattle.keys.proofs.PutLaws.{get_none, get-less, get-same, get-more, get-low, get-above}

-- no row is empty
abbrev pub Filled : List (List ℕ) → Type 0
Filled rs = Each (λ (r : List ℕ). 0 < length r) rs

pub filled-not : {A : Type 0} (r : List ℕ) → 0 < length r → r ≡ [] → A
filled-not r h e = absurd (not-suc-le-zero (rw e at h))

pub rows-equal : (ps qs : List (List ℕ)) → sorted_rows ps ≡ true → sorted_rows qs ≡ true → Filled ps → Filled qs → ((k : List ℕ) → get k ps ≡ get k qs) → ps ≡ qs
rows-equal [] [] ha hb fa fb g = refl
rows-equal [] (b ∷ qs) ha hb fa fb g = filled-not b fb.0 (sym (get-same (key_of b) b qs (cmp-refl (key_of b))) ∙ sym (g (key_of b)) ∙ get_none (key_of b))
rows-equal (a ∷ ps) [] ha hb fa fb g = filled-not a fa.0 (sym (get-same (key_of a) a ps (cmp-refl (key_of a))) ∙ g (key_of a) ∙ get_none (key_of a))
rows-equal (a ∷ ps) (b ∷ qs) ha hb fa fb g = go (rows-equal ps qs (sorted_tail a ps ra) (sorted_tail b qs rb) fa.1 fb.1) (cases (cmp (key_of a) (key_of b)))
  where
    ra : rises_from a ps ≡ true
    ra = sorted_rises a ps ha

    rb : rises_from b qs ≡ true
    rb = sorted_rises b qs hb

    rest : key_of a ≡ key_of b → (k : List ℕ) → Cases (cmp (key_of a) k) → get k ps ≡ get k qs
    rest e k (inl l) = sym (get-less k a ps l) ∙ g k ∙ get-less k b qs (rw (← e) l)
    rest e k (inr (inl l)) = get-low a k ps ra l ∙ sym (get-low b k qs rb (rw (← e) l))
    rest e k (inr (inr l)) = get-above a k ps ra l ∙ sym (get-above b k qs rb (rw (← e) l))

    go : (((k : List ℕ) → get k ps ≡ get k qs) → ps ≡ qs) → Cases (cmp (key_of a) (key_of b)) → a ∷ ps ≡ b ∷ qs
    go ih (inl l) =
        filled-not a fa.0 (sym (get-same (key_of a) a ps (cmp-refl (key_of a))) ∙ g (key_of a) ∙ get-more (key_of a) b qs (flipped (key_of a) (key_of b) Less l))
    go ih (inr (inr l)) =
        filled-not b fb.0 (sym (get-same (key_of b) b qs (cmp-refl (key_of b))) ∙ sym (g (key_of b)) ∙ get-more (key_of b) a ps l)
    go ih (inr (inl l)) =
        let e : key_of a ≡ key_of b = cmp-same (key_of a) (key_of b) l in
        let h : a ≡ b = sym (get-same (key_of b) a ps l) ∙ g (key_of b) ∙ get-same (key_of b) b qs (cmp-refl (key_of b)) in
        let t : ps ≡ qs = ih (λ k. rest e k (cases (cmp (key_of a) k))) in
        rw (h, t)
