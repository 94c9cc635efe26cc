-- Rows of some keys alone: what a key gets of them, and that keeping and taking updates go in either order. Assumes nothing.
use mathlib.Core.Path.{◌≡◌, refl, sym, ap, ◌∙◌}
use mathlib.Core.Bool.{Bool, true, false}
use mathlib.Core.Logic.{◌⊎◌, inl, inr}
use mathlib.Core.List.{List, [], ◌∷◌}
use Prim.Native.Nat.{ℕ, ◌<◌}
use native.Mathlib.Omega.{arith}
use lib.ListN.{length}
use Rattle.lists.specs.Logic.{on}
use Rattle.lists.specs.Each.{Each}
use Rattle.lists.specs.Text.{same}
use Rattle.lists.proofs.TextLaws.{same-equal}
use Rattle.passage.specs.Layout.{key_of}
use Rattle.std.specs.declared.cmp.Ordering.TheVariants.{Less}
use Rattle.keys.specs.Keys.{cmp}
use Rattle.keys.specs.Sorted.{rises_from, sorted_rows, get}
use Rattle.keys.specs.Replay.{Rule, taken_all, replayed}
use Rattle.keys.proofs.KeyLaws.{cmp-same, cmp-trans, Cases, cases}
use Rattle.keys.proofs.SortedLaws.{rises-head, rises-tail, sorted_tail, sorted_rises, sorted-cons}
use Rattle.keys.proofs.PutLaws.{get_none, get-less, get-same, get-more, get-above}
use Rattle.keys.proofs.EqualLaws.{Filled, rows-equal}
use Rattle.keys.proofs.ReplayLaws.{RowOf, sorted-taken_all, get-taken_all, each-taken_all}
use Rattle.keys.specs.Kept.{kept}

-- rows that rise from r rise from what is below r
pub rises-lower : (q r : List ℕ) (rs : List (List ℕ)) → cmp (key_of q) (key_of r) ≡ Less → rises_from r rs ≡ true → rises_from q rs ≡ true
unfolding rises_from
rises-lower q r [] l h = refl
rises-lower q r (s ∷ rs) l h = rw (cmp-trans (key_of q) (key_of r) (key_of s) l (rises-head r s rs h)) (rises-tail r s rs h)

module _ (P : List ℕ → Bool) where
  kept-yes : (r : List ℕ) (rs : List (List ℕ)) → P (key_of r) ≡ true → kept P (r ∷ rs) ≡ r ∷ kept P rs
  unfolding kept
  kept-yes r rs e = rw e

  kept-no : (r : List ℕ) (rs : List (List ℕ)) → P (key_of r) ≡ false → kept P (r ∷ rs) ≡ kept P rs
  unfolding kept
  kept-no r rs e = rw e

  pub each-kept : (Q : List ℕ → Type 0) (rs : List (List ℕ)) → Each Q rs → Each Q (kept P rs)
  unfolding kept
  each-kept Q [] h = tt
  each-kept Q (r ∷ rs) h = go (P (key_of r)) (each-kept Q rs h.1)
    where
      go : (t : Bool) → Each Q (kept P rs) → Each Q (on t (r ∷ kept P rs) (kept P rs))
      go true ih = (h.0, ih)
      go false ih = ih

  -- each that is kept has P
  pub kept-has : (rs : List (List ℕ)) → Each (λ (r : List ℕ). P (key_of r) ≡ true) (kept P rs)
  unfolding kept
  kept-has [] = tt
  kept-has (r ∷ rs) = go (P (key_of r)) refl (kept-has rs)
    where
      go : (t : Bool) → P (key_of r) ≡ t → Each (λ (x : List ℕ). P (key_of x) ≡ true) (kept P rs) → Each (λ (x : List ℕ). P (key_of x) ≡ true) (on t (r ∷ kept P rs) (kept P rs))
      go true e ih = (e, ih)
      go false e ih = ih

  -- where all have P, all are kept
  pub kept-all : (rs : List (List ℕ)) → Each (λ (r : List ℕ). P (key_of r) ≡ true) rs → kept P rs ≡ rs
  unfolding kept
  kept-all [] h = refl
  kept-all (r ∷ rs) h = rw h.0 (ap (λ (l : List (List ℕ)). r ∷ l) (kept-all rs h.1))

  -- where none has P, none is
  pub kept-none : (rs : List (List ℕ)) → Each (λ (r : List ℕ). P (key_of r) ≡ false) rs → kept P rs ≡ []
  unfolding kept
  kept-none [] h = refl
  kept-none (r ∷ rs) h = rw h.0 (kept-none rs h.1)

  rises-kept : (q : List ℕ) (rs : List (List ℕ)) → rises_from q rs ≡ true → rises_from q (kept P rs) ≡ true
  unfolding kept rises_from
  rises-kept q [] h = refl
  rises-kept q (r ∷ rs) h = go (P (key_of r)) (rises-kept r rs (rises-tail q r rs h)) (rises-kept q rs (rises-lower q r rs (rises-head q r rs h) (rises-tail q r rs h)))
    where
      go : (t : Bool) → rises_from r (kept P rs) ≡ true → rises_from q (kept P rs) ≡ true → rises_from q (on t (r ∷ kept P rs) (kept P rs)) ≡ true
      go true a b = rw (rises-head q r rs h) a
      go false a b = b

  pub sorted-kept : (rs : List (List ℕ)) → sorted_rows rs ≡ true → sorted_rows (kept P rs) ≡ true
  unfolding kept sorted_rows
  sorted-kept [] h = refl
  sorted-kept (r ∷ rs) h = go (P (key_of r)) (rises-kept r rs h) (sorted-kept rs (sorted_tail r rs h))
    where
      go : (t : Bool) → rises_from r (kept P rs) ≡ true → sorted_rows (kept P rs) ≡ true → sorted_rows (on t (r ∷ kept P rs) (kept P rs)) ≡ true
      go true a b = sorted-cons r (kept P rs) a
      go false a b = b

  -- a key that has P gets what it got; another gets nothing
  module _ (k : List ℕ) where
    nothing : (t : Bool) → ◌≡◌ {A = List ℕ} (on t [] []) []
    nothing true = refl
    nothing false = refl

    pub get-kept : (rs : List (List ℕ)) → sorted_rows rs ≡ true → get k (kept P rs) ≡ on (P k) (get k rs) []
    unfolding kept
    get-kept [] h = rw (get_none k) (sym (nothing (P k)))
    get-kept (r ∷ rs) h = go (P (key_of r)) refl (cases (cmp (key_of r) k)) (get-kept rs (sorted_tail r rs (sorted_rises r rs h)))
      where
        rises : rises_from r rs ≡ true
        rises = sorted_rises r rs h

        go : (t : Bool) → P (key_of r) ≡ t → Cases (cmp (key_of r) k) → get k (kept P rs) ≡ on (P k) (get k rs) [] → get k (on t (r ∷ kept P rs) (kept P rs)) ≡ on (P k) (get k (r ∷ rs)) []
        go true e (inl l) ih = rw (get-less k r (kept P rs) l, get-less k r rs l) ih
        go true e (inr (inl l)) ih =
            let q : P k ≡ true = ap P (sym (cmp-same (key_of r) k l)) ∙ e in
            rw (get-same k r (kept P rs) l, get-same k r rs l, q)
        go true e (inr (inr l)) ih = rw (get-more k r (kept P rs) l, get-more k r rs l) (sym (nothing (P k)))
        go false e (inl l) ih = rw (get-less k r rs l) ih
        go false e (inr (inl l)) ih =
            let q : P k ≡ false = ap P (sym (cmp-same (key_of r) k l)) ∙ e in
            ih ∙ rw q
        go false e (inr (inr l)) ih = ih ∙ rw (get-more k r rs l, get-above r k rs rises l)

    step : (rule : Rule) (held u : List ℕ) (us : List (List ℕ)) (s : Bool) → same (key_of u) k ≡ s → replayed rule k held (u ∷ us) ≡ replayed rule k (on s (rule held u) held) us
    unfolding replayed
    step rule held u us s f = ap (λ (t : Bool). replayed rule k (on t (rule held u) held) us) f

    -- a key that has P is replayed from the updates that are kept; another has none
    pub replayed-kept : (rule : Rule) → P k ≡ true → (held : List ℕ) (us : List (List ℕ)) → replayed rule k held (kept P us) ≡ replayed rule k held us
    unfolding kept replayed
    replayed-kept rule p held [] = refl
    replayed-kept rule p held (u ∷ us) = go (λ h. replayed-kept rule p h us) (P (key_of u)) refl (same (key_of u) k) refl ∙ sym (step rule held u us (same (key_of u) k) refl)
      where
        go : ((h : List ℕ) → replayed rule k h (kept P us) ≡ replayed rule k h us) → (t : Bool) → P (key_of u) ≡ t → (s : Bool) → same (key_of u) k ≡ s → replayed rule k held (on t (u ∷ kept P us) (kept P us)) ≡ replayed rule k (on s (rule held u) held) us
        go ih true e s f = step rule held u (kept P us) s f ∙ ih (on s (rule held u) held)
        go ih false e true f = let q : P k ≡ false = ap P (sym (same-equal (key_of u) k f)) ∙ e in let z : ◌≡◌ {A = Bool} true false = sym p ∙ q in absurd (let y : ◌≡◌ {A = ℕ} 0 1 = cc in omega arith)
        go ih false e false f = ih held

    pub replayed-none : (rule : Rule) → P k ≡ false → (held : List ℕ) (us : List (List ℕ)) → replayed rule k held (kept P us) ≡ held
    unfolding kept replayed
    replayed-none rule p held [] = refl
    replayed-none rule p held (u ∷ us) = go (replayed-none rule p held us) (P (key_of u)) refl (same (key_of u) k) refl
      where
        go : replayed rule k held (kept P us) ≡ held → (t : Bool) → P (key_of u) ≡ t → (s : Bool) → same (key_of u) k ≡ s → replayed rule k held (on t (u ∷ kept P us) (kept P us)) ≡ held
        go ih true e true f = let q : P k ≡ true = ap P (sym (same-equal (key_of u) k f)) ∙ e in let z : ◌≡◌ {A = Bool} true false = sym q ∙ p in absurd (let y : ◌≡◌ {A = ℕ} 0 1 = cc in omega arith)
        go ih true e false f = step rule held u (kept P us) false f ∙ ih
        go ih false e s f = ih

-- ---- keeping and taking updates go in either order

module _ (rule : Rule) (U Q : List ℕ → Type 0) (keeps : (held u : List ℕ) → U u → RowOf (key_of u) held → key_of (rule held u) ≡ key_of u)
    (gives : (held u : List ℕ) → U u → (held ≡ []) ⊎ Q held → Q (rule held u)) (full : (r : List ℕ) → Q r → 0 < length r) where
  pub each-full : (rs : List (List ℕ)) → Each Q rs → Filled rs
  each-full [] h = tt
  each-full (r ∷ rs) h = (full r h.0, each-full rs h.1)

  pub kept-taken : (P : List ℕ → Bool) (us rs : List (List ℕ)) → Each U us → Each Q rs → sorted_rows rs ≡ true
      → taken_all rule (kept P us) (kept P rs) ≡ kept P (taken_all rule us rs)
  kept-taken P us rs hu hq s =
      rows-equal (taken_all rule (kept P us) (kept P rs)) (kept P (taken_all rule us rs))
      (sorted-taken_all rule (kept P us) (kept P rs) (sorted-kept P rs s))
      (sorted-kept P (taken_all rule us rs) (sorted-taken_all rule us rs s))
      (each-full (taken_all rule (kept P us) (kept P rs)) (each-taken_all rule U Q gives (kept P us) (kept P rs) (each-kept P U us hu) (each-kept P Q rs hq)))
      (each-full (kept P (taken_all rule us rs)) (each-kept P Q (taken_all rule us rs) (each-taken_all rule U Q gives us rs hu hq)))
      (λ k. got k (P k) refl)
    where
      got : (k : List ℕ) (t : Bool) → P k ≡ t → get k (taken_all rule (kept P us) (kept P rs)) ≡ get k (kept P (taken_all rule us rs))
      got k true e =
          get-taken_all rule U keeps k (kept P us) (kept P rs) (each-kept P U us hu)
          ∙ ap (λ (l : List ℕ). replayed rule k l (kept P us)) (get-kept P k rs s ∙ rw e)
          ∙ replayed-kept P k rule e (get k rs) us
          ∙ sym (get-taken_all rule U keeps k us rs hu)
          ∙ sym (get-kept P k (taken_all rule us rs) (sorted-taken_all rule us rs s) ∙ rw e)
      got k false e =
          get-taken_all rule U keeps k (kept P us) (kept P rs) (each-kept P U us hu)
          ∙ ap (λ (l : List ℕ). replayed rule k l (kept P us)) (get-kept P k rs s ∙ rw e)
          ∙ replayed-none P k rule e [] us
          ∙ sym (get-kept P k (taken_all rule us rs) (sorted-taken_all rule us rs s) ∙ rw e)
