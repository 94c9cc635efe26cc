-- What updates make of rows, over any row rule, and what a key's row becomes. A row rule owes these laws, and nothing that is proved of many
-- updates, of messages or of runs asks more of it; it may return the held row as it is:
-- `keeps`: of none, or of a row with the update's key, it makes a row with the update's key;
-- `gives`: of none, or of a row that has Q, it makes a row that has Q; Q is asked for whole rows and for rows in range;
-- a whole row is not empty, so no law asks that of its own. Assumes nothing.
use mathlib.Core.Path.{◌≡◌, refl, sym, ap, subst, ◌∙◌}
use mathlib.Core.Bool.{Bool, true, false, ◌||◌}
use mathlib.Core.Logic.{◌⊎◌, inl, inr}
use mathlib.Core.List.{List, [], ◌∷◌, ◌++◌}
use Prim.Native.Nat.{ℕ, suc, ◌+◌, ◌≤◌, ◌<◌}
use native.Mathlib.Omega.{arith}
use lib.ListN.{length}
use Rattle.lists.specs.Logic.{on}
use Rattle.lists.specs.Each.{Each}
use Rattle.lists.specs.Text.{same}
use Rattle.lists.proofs.TextLaws.{same-equal}
use Rattle.passage.specs.Layout.{key_of}
use Rattle.std.specs.declared.cmp.Ordering.TheVariants.{Equal}
use Rattle.keys.specs.Keys.{cmp}
use Rattle.keys.specs.Sorted.{sorted_rows, get, put}
use Rattle.keys.specs.Replay.{Rule, taken, taken_all, replayed, becoming, reworked}
use Rattle.keys.proofs.KeyLaws.{cmp-is-same}
use Rattle.keys.proofs.PutLaws.{get-put, get-put-other, sorted-put, get-remove, get_remove_other, sorted-remove}
use Rattle.keys.proofs.CountLaws.{put-least, put-most, each-put, each-remove, each-get, get_key}
use Rattle.keys.proofs.EqualLaws.{Filled, filled-not, rows-equal}

-- ---- lists of bytes: empty or not, the same or not

cons-not : {A : Type 0} (x : ℕ) (l : List ℕ) → x ∷ l ≡ [] → A
cons-not x l e = filled-not (x ∷ l) (omega arith) e

pub empty-or : (l : List ℕ) → (l ≡ []) ⊎ (l ≡ [] → ⊥)
empty-or [] = inl refl
empty-or (x ∷ l) = inr (cons-not x l)

-- two lists that `same` tells apart are not in the order Equal
pub not_same : (a b : List ℕ) → same a b ≡ false → cmp a b ≡ Equal → ⊥
not_same a b e f = let z : ◌≡◌ {A = Bool} true false = sym (cmp-is-same a b f) ∙ e in let y : ◌≡◌ {A = ℕ} 0 1 = cc in absurd (omega arith)

-- r is no row, or the row of key k
abbrev pub RowOf : List ℕ → List ℕ → Type 0
RowOf k r = (r ≡ []) ⊎ (key_of r ≡ k)

-- what is held of a key is none, or the row of that key
pub get-own : (k : List ℕ) (rs : List (List ℕ)) → RowOf k (get k rs)
get-own k rs = go (empty-or (get k rs))
  where
    go : (get k rs ≡ []) ⊎ (get k rs ≡ [] → ⊥) → RowOf k (get k rs)
    go (inl e) = inl e
    go (inr n) = inr (get_key k rs n)

-- ---- what each row has

-- two properties at once
pub each_both : (P Q : List ℕ → Type 0) (l : List (List ℕ)) → Each P l → Each Q l → Each (λ (r : List ℕ). P r × Q r) l
each_both P Q [] h k = tt
each_both P Q (r ∷ l) h k = ((h.0, k.0), each_both P Q l h.1 k.1)

-- what is held of a key is none, or has what each row has
pub get_has : (Q : List ℕ → Type 0) (k : List ℕ) (rs : List (List ℕ)) → Each Q rs → (get k rs ≡ []) ⊎ Q (get k rs)
get_has Q k rs h = go (empty-or (get k rs))
  where
    go : (get k rs ≡ []) ⊎ (get k rs ≡ [] → ⊥) → (get k rs ≡ []) ⊎ Q (get k rs)
    go (inl e) = inl e
    go (inr n) = inr (each-get Q k rs h n)

-- ---- any rule

module _ (rule : Rule) where
  pub taken_all-append : (us vs rs : List (List ℕ)) → taken_all rule (us ++ vs) rs ≡ taken_all rule vs (taken_all rule us rs)
  unfolding taken_all
  taken_all-append [] vs rs = refl
  taken_all-append (u ∷ us) vs rs = taken_all-append us vs (taken rule u rs)

  pub taken_all-snoc : (us : List (List ℕ)) (u : List ℕ) (rs : List (List ℕ)) → taken_all rule (us ++ u ∷ []) rs ≡ taken rule u (taken_all rule us rs)
  unfolding taken_all
  taken_all-snoc us u rs = taken_all-append us (u ∷ []) rs

  pub replayed-append : (k held : List ℕ) (us vs : List (List ℕ)) → replayed rule k held (us ++ vs) ≡ replayed rule k (replayed rule k held us) vs
  unfolding replayed
  replayed-append k held [] vs = refl
  replayed-append k held (u ∷ us) vs = replayed-append k (on (same (key_of u) k) (rule held u) held) us vs

  -- updates of other keys change nothing
  pub replayed-skip : (k held : List ℕ) (us : List (List ℕ)) → Each (λ (u : List ℕ). same (key_of u) k ≡ false) us → replayed rule k held us ≡ held
  unfolding replayed
  replayed-skip k held [] h = refl
  replayed-skip k held (u ∷ us) h = rw h.0 (replayed-skip k held us h.1)

  pub sorted-taken : (u : List ℕ) (rs : List (List ℕ)) → sorted_rows rs ≡ true → sorted_rows (taken rule u rs) ≡ true
  unfolding taken
  sorted-taken u rs h = sorted-put (rule (get (key_of u) rs) u) rs h

  pub sorted-taken_all : (us rs : List (List ℕ)) → sorted_rows rs ≡ true → sorted_rows (taken_all rule us rs) ≡ true
  unfolding taken_all
  sorted-taken_all [] rs h = h
  sorted-taken_all (u ∷ us) rs h = sorted-taken_all us (taken rule u rs) (sorted-taken u rs h)

  pub length-taken-least : (u : List ℕ) (rs : List (List ℕ)) → length rs ≤ length (taken rule u rs)
  unfolding taken
  length-taken-least u rs = put-least (rule (get (key_of u) rs) u) rs

  pub length-taken-most : (u : List ℕ) (rs : List (List ℕ)) → length (taken rule u rs) ≤ suc (length rs)
  unfolding taken
  length-taken-most u rs = put-most (rule (get (key_of u) rs) u) rs

  pub length-taken_all-least : (us rs : List (List ℕ)) → length rs ≤ length (taken_all rule us rs)
  unfolding taken_all
  length-taken_all-least [] rs = omega arith
  length-taken_all-least (u ∷ us) rs =
      let a = length-taken-least u rs in
      let b = length-taken_all-least us (taken rule u rs) in
      omega arith

  pub length-taken_all-most : (us rs : List (List ℕ)) → length (taken_all rule us rs) ≤ length rs + length us
  unfolding taken_all
  length-taken_all-most [] rs = omega arith
  length-taken_all-most (u ∷ us) rs =
      let a = length-taken-most u rs in
      let b = length-taken_all-most us (taken rule u rs) in
      omega arith

-- ---- a rule that keeps the key of each update that has P, of none or of a row with that key

module _ (rule : Rule) (P : List ℕ → Type 0) (keeps : (held u : List ℕ) → P u → RowOf (key_of u) held → key_of (rule held u) ≡ key_of u) where
  -- the key of the row that is put
  made-key : (u : List ℕ) (rs : List (List ℕ)) → P u → key_of (rule (get (key_of u) rs) u) ≡ key_of u
  made-key u rs p = keeps (get (key_of u) rs) u p (get-own (key_of u) rs)

  pub get-taken-here : (u : List ℕ) (rs : List (List ℕ)) → P u → get (key_of u) (taken rule u rs) ≡ rule (get (key_of u) rs) u
  unfolding taken
  get-taken-here u rs p =
      let r : List ℕ = rule (get (key_of u) rs) u in
      ap (λ (k : List ℕ). get k (put r rs)) (sym (made-key u rs p)) ∙ get-put r rs

  pub get-taken-other : (k u : List ℕ) (rs : List (List ℕ)) → P u → (cmp (key_of u) k ≡ Equal → ⊥) → get k (taken rule u rs) ≡ get k rs
  unfolding taken
  get-taken-other k u rs p n = get-put-other k (rule (get (key_of u) rs) u) rs (λ e. n (ap (λ (j : List ℕ). cmp j k) (sym (made-key u rs p)) ∙ e))

  pub get-taken : (k u : List ℕ) (rs : List (List ℕ)) → P u → get k (taken rule u rs) ≡ on (same (key_of u) k) (rule (get k rs) u) (get k rs)
  get-taken k u rs p = go (same (key_of u) k) refl
    where
      go : (t : Bool) → same (key_of u) k ≡ t → get k (taken rule u rs) ≡ on t (rule (get k rs) u) (get k rs)
      go true e = let h : key_of u ≡ k = same-equal (key_of u) k e in rw (← h) (get-taken-here u rs p)
      go false e = get-taken-other k u rs p (not_same (key_of u) k e)

  -- a key's row after updates is the replay of that key
  pub get-taken_all : (k : List ℕ) (us rs : List (List ℕ)) → Each P us → get k (taken_all rule us rs) ≡ replayed rule k (get k rs) us
  unfolding taken_all replayed
  get-taken_all k [] rs h = refl
  get-taken_all k (u ∷ us) rs h = get-taken_all k us (taken rule u rs) h.1 ∙ ap (λ (l : List ℕ). replayed rule k l us) (get-taken k u rs h.0)

  -- a replayed row is none, or has the key
  pub replayed-key : (k held : List ℕ) (us : List (List ℕ)) → Each P us → RowOf k held → RowOf k (replayed rule k held us)
  unfolding replayed
  replayed-key k held [] h e = e
  replayed-key k held (u ∷ us) h e = replayed-key k (on (same (key_of u) k) (rule held u) held) us h.1 (go (same (key_of u) k) refl)
    where
      go : (t : Bool) → same (key_of u) k ≡ t → RowOf k (on t (rule held u) held)
      go true s = let i : key_of u ≡ k = same-equal (key_of u) k s in inr (keeps held u h.0 (subst (λ (j : List ℕ). RowOf j held) (sym i) e) ∙ i)
      go false s = e

-- ---- a rule that gives Q, from nothing or from what has Q, to each update that has P

module _ (rule : Rule) (P Q : List ℕ → Type 0) (gives : (held u : List ℕ) → P u → (held ≡ []) ⊎ Q held → Q (rule held u)) where
  pub each-taken : (u : List ℕ) (rs : List (List ℕ)) → P u → Each Q rs → Each Q (taken rule u rs)
  unfolding taken
  each-taken u rs p h = each-put Q (rule (get (key_of u) rs) u) rs (gives (get (key_of u) rs) u p (get_has Q (key_of u) rs h)) h

  pub each-taken_all : (us rs : List (List ℕ)) → Each P us → Each Q rs → Each Q (taken_all rule us rs)
  unfolding taken_all
  each-taken_all [] rs p h = h
  each-taken_all (u ∷ us) rs p h = each-taken_all us (taken rule u rs) p.1 (each-taken u rs p.0 h)

  pub replayed-has : (k held : List ℕ) (us : List (List ℕ)) → Each P us → (held ≡ []) ⊎ Q held → (replayed rule k held us ≡ []) ⊎ Q (replayed rule k held us)
  unfolding replayed
  replayed-has k held [] p h = h
  replayed-has k held (u ∷ us) p h = replayed-has k (on (same (key_of u) k) (rule held u) held) us p.1 (go (same (key_of u) k))
    where
      go : (t : Bool) → (on t (rule held u) held ≡ []) ⊎ Q (on t (rule held u) held)
      go true = inr (gives held u p.0 h)
      go false = h

-- ---- rows worked out again

-- k is one of these keys
unfoldable pub among : List ℕ → List (List ℕ) → Bool
among k [] = false
among k (j ∷ ks) = same j k || among k ks

pub among-append : (k : List ℕ) (xs ys : List (List ℕ)) → among k (xs ++ ys) ≡ (among k xs || among k ys)
unfolding among
among-append k [] ys = refl
among-append k (x ∷ xs) ys = go (same x k) (among-append k xs ys)
  where
    go : (t : Bool) → among k (xs ++ ys) ≡ (among k xs || among k ys) → (t || among k (xs ++ ys)) ≡ ((t || among k xs) || among k ys)
    go true ih = refl
    go false ih = ih

pub sorted-place : (k r : List ℕ) (rs : List (List ℕ)) → sorted_rows rs ≡ true → sorted_rows (becoming k r rs) ≡ true
sorted-place k [] rs h = sorted-remove k rs h
sorted-place k (b ∷ r) rs h = sorted-put (b ∷ r) rs h

pub each-place : (Q : List ℕ → Type 0) (k r : List ℕ) (rs : List (List ℕ)) → (r ≡ []) ⊎ Q r → Each Q rs → Each Q (becoming k r rs)
each-place Q k [] rs q h = each-remove Q k rs h
each-place Q k (b ∷ r) rs (inl e) h = cons-not b r e
each-place Q k (b ∷ r) rs (inr q) h = each-put Q (b ∷ r) rs q h

pub get-place-here : (k r : List ℕ) (rs : List (List ℕ)) → sorted_rows rs ≡ true → RowOf k r → get k (becoming k r rs) ≡ r
get-place-here k [] rs h o = get-remove k rs h
get-place-here k (b ∷ r) rs h (inl e) = cons-not b r e
get-place-here k (b ∷ r) rs h (inr e) = ap (λ (j : List ℕ). get j (put (b ∷ r) rs)) (sym e) ∙ get-put (b ∷ r) rs

pub get-place-other : (j k r : List ℕ) (rs : List (List ℕ)) → sorted_rows rs ≡ true → RowOf k r → (cmp k j ≡ Equal → ⊥) → get j (becoming k r rs) ≡ get j rs
get-place-other j k [] rs h o n = get_remove_other j k rs h n
get-place-other j k (b ∷ r) rs h (inl e) n = cons-not b r e
get-place-other j k (b ∷ r) rs h (inr e) n = get-put-other j (b ∷ r) rs (λ s. n (ap (λ (i : List ℕ). cmp i j) (sym e) ∙ s))

module _ (f : List ℕ → List ℕ) where
  pub sorted-reworked : (ks rs : List (List ℕ)) → sorted_rows rs ≡ true → sorted_rows (reworked f ks rs) ≡ true
  unfolding reworked
  sorted-reworked [] rs h = h
  sorted-reworked (k ∷ ks) rs h = sorted-reworked ks (becoming k (f k) rs) (sorted-place k (f k) rs h)

  pub each-reworked : (Q : List ℕ → Type 0) → ((k : List ℕ) → (f k ≡ []) ⊎ Q (f k)) → (ks rs : List (List ℕ)) → Each Q rs → Each Q (reworked f ks rs)
  unfolding reworked
  each-reworked Q q [] rs h = h
  each-reworked Q q (k ∷ ks) rs h = each-reworked Q q ks (becoming k (f k) rs) (each-place Q k (f k) rs (q k) h)

  filled-from : (k : List ℕ) → (f k ≡ []) ⊎ (0 < length (f k))
  filled-from k = go (f k)
    where
      go : (l : List ℕ) → (l ≡ []) ⊎ (0 < length l)
      go [] = inl refl
      go (x ∷ l) = inr (omega arith)

  pub filled-reworked : (ks rs : List (List ℕ)) → Filled rs → Filled (reworked f ks rs)
  filled-reworked = each-reworked (λ (r : List ℕ). 0 < length r) filled-from

  module _ (own : (k : List ℕ) → RowOf k (f k)) where
    -- the keys get what f gives, each other key what it had
    pub get-reworked : (k : List ℕ) (ks rs : List (List ℕ)) → sorted_rows rs ≡ true → get k (reworked f ks rs) ≡ on (among k ks) (f k) (get k rs)
    unfolding reworked among
    get-reworked k [] rs h = refl
    get-reworked k (j ∷ ks) rs h = get-reworked k ks (becoming j (f j) rs) (sorted-place j (f j) rs h) ∙ go (same j k) refl (among k ks)
      where
        go : (t : Bool) → same j k ≡ t → (s : Bool) → on s (f k) (get k (becoming j (f j) rs)) ≡ on (t || s) (f k) (get k rs)
        go true e true = refl
        go true e false = let i : j ≡ k = same-equal j k e in rw i (get-place-here k (f k) rs h (own k))
        go false e true = refl
        go false e false = get-place-other k j (f j) rs h (own j) (not_same j k e)

    -- only which keys are named matters, neither their order nor how often
    pub reworked-members : (js ks rs : List (List ℕ)) → sorted_rows rs ≡ true → Filled rs → ((k : List ℕ) → among k js ≡ among k ks) → reworked f js rs ≡ reworked f ks rs
    reworked-members js ks rs h full e =
        rows-equal (reworked f js rs) (reworked f ks rs) (sorted-reworked js rs h) (sorted-reworked ks rs h) (filled-reworked js rs full) (filled-reworked ks rs full)
        (λ k. get-reworked k js rs h ∙ ap (λ (t : Bool). on t (f k) (get k rs)) (e k) ∙ sym (get-reworked k ks rs h))
