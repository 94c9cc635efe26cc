-- The second reckoning, key by key, gives the replay. The row rule enters by its laws alone. Assumes nothing.
use mathlib.Core.Path.{◌≡◌, refl, sym, ap, subst, ◌∙◌}
use mathlib.Core.Bool.{Bool, true, false, ◌||◌}
use mathlib.Core.Logic.{◌⊎◌, inl, inr}
use mathlib.Core.List.{List, [], ◌∷◌, ◌++◌, map}
use Prim.Native.Nat.{ℕ, ◌<◌}
use native.Mathlib.Omega.{arith}
use lib.ListN.{length}
use lib.Seq.{take-take}
use Rattle.lists.specs.Logic.{on}
use Rattle.lists.specs.Each.{Each}
use Rattle.lists.specs.Text.{same}
use Rattle.lists.specs.Part.{part}
use Rattle.lists.proofs.LogicLaws.{or-fail}
use Rattle.lists.proofs.TextLaws.{same-equal}
use Rattle.passage.specs.Layout.{key_wide, key_of}
use Rattle.keys.specs.Keys.{cmp}
use Rattle.keys.specs.Sorted.{rises_from, sorted_rows, get, put, put_all}
use Rattle.keys.specs.Replay.{Rule, taken_all, replayed}
use Rattle.keys.proofs.KeyLaws.{cmp-same, cmp-refl, Cases, cases, same-cmp, less-not-same, more-not-same}
use Rattle.keys.proofs.SortedLaws.{rises-head, rises-tail, sorted_tail, sorted_rises}
use Rattle.keys.proofs.RiseLaws.{sorted-keys}
use Rattle.keys.proofs.PutLaws.{get_none, get-less, get-same, get-more, get-above, get-put, get-put-other, sorted-put}
use Rattle.keys.proofs.CountLaws.{each-put}
use Rattle.keys.proofs.EqualLaws.{Filled, filled-not, rows-equal}
use Rattle.keys.proofs.ReplayLaws.{RowOf, not_same, among, among-append, replayed-skip, sorted-taken_all, get-taken_all, each-taken_all}
use Rattle.book.specs.Rules.{standing, plan_rows, row_for}
use Rattle.book.specs.Reckoned.{keys_in, reckoned}
use Rattle.keys.proofs.KeptLaws.{rises-lower, each-full}

-- a key's key is itself
pub key-key : (r : List ℕ) → key_of (key_of r) ≡ key_of r
unfolding part
key-key r = take-take key_wide key_wide r (omega arith)

-- ---- keys put in order

pub get-put_all : (k : List ℕ) (js ks : List (List ℕ)) → Each (λ (j : List ℕ). key_of j ≡ j) js → get k (put_all js ks) ≡ on (among k js) k (get k ks)
unfolding put_all among
get-put_all k [] ks h = refl
get-put_all k (j ∷ js) ks h = get-put_all k js (put j ks) h.1 ∙ go (same j k) refl (among k js)
  where
    go : (t : Bool) → same j k ≡ t → (s : Bool) → on s k (get k (put j ks)) ≡ on (t || s) k (get k ks)
    go true e true = refl
    go true e false = let i : j ≡ k = same-equal j k e in subst (λ (x : List ℕ). get x (put j ks) ≡ x) i (ap (λ (x : List ℕ). get x (put j ks)) (sym h.0) ∙ get-put j ks)
    go false e true = refl
    go false e false = get-put-other k j ks (λ s. not_same j k e (ap (λ (x : List ℕ). cmp x k) (sym h.0) ∙ s))

sorted-put_all : (js ks : List (List ℕ)) → sorted_rows ks ≡ true → sorted_rows (put_all js ks) ≡ true
unfolding put_all
sorted-put_all [] ks h = h
sorted-put_all (j ∷ js) ks h = sorted-put_all js (put j ks) (sorted-put j ks h)

filled-put_all : (js ks : List (List ℕ)) → Filled js → Filled ks → Filled (put_all js ks)
unfolding put_all
filled-put_all [] ks p h = h
filled-put_all (j ∷ js) ks p h = filled-put_all js (put j ks) p.1 (each-put (λ (r : List ℕ). 0 < length r) j ks p.0 h)

-- ---- rows by their keys

map_both : {f g : List ℕ → List ℕ} → ((k : List ℕ) → f k ≡ g k) → (l : List (List ℕ)) → map f l ≡ map g l
map_both e [] = refl
map_both {f} {g} e (x ∷ l) = ap (λ (y : List ℕ). y ∷ map f l) (e x) ∙ ap (λ (m : List (List ℕ)). g x ∷ m) (map_both e l)

-- sorted rows are what their keys get
got-below : (s : List ℕ) (rs qs : List (List ℕ)) → rises_from s qs ≡ true → map (λ (k : List ℕ). get k (s ∷ rs)) (map key_of qs) ≡ map (λ (k : List ℕ). get k rs) (map key_of qs)
got-below s rs [] h = refl
got-below s rs (q ∷ qs) h =
    let l = rises-head s q qs h in
    rw (get-less (key_of q) s rs l) (ap (λ (m : List (List ℕ)). get (key_of q) rs ∷ m) (got-below s rs qs (rises-lower s q qs l (rises-tail s q qs h))))

pub rows-by-key : (rs : List (List ℕ)) → sorted_rows rs ≡ true → map (λ (k : List ℕ). get k rs) (map key_of rs) ≡ rs
rows-by-key [] h = refl
rows-by-key (s ∷ rs) h =
    rw (get-same (key_of s) s rs (cmp-refl (key_of s)))
    (ap (λ (m : List (List ℕ)). s ∷ m) (got-below s rs rs (sorted_rises s rs h) ∙ rows-by-key rs (sorted_tail s rs (sorted_rises s rs h))))

-- what a key gets of the keys of rows: itself, if it gets a row
abbrev pub some : List ℕ → Bool
some [] = false
some (x ∷ l) = true

some-filled : (r : List ℕ) → 0 < length r → some r ≡ true
some-filled [] h = absurd (omega arith)
some-filled (x ∷ r) h = refl

keys-are : (rs : List (List ℕ)) → Each (λ (j : List ℕ). key_of j ≡ j) (map key_of rs)
keys-are [] = tt
keys-are (r ∷ rs) = (key-key r, keys-are rs)

keys-append : (xs ys : List (List ℕ)) → Each (λ (j : List ℕ). key_of j ≡ j) xs → Each (λ (j : List ℕ). key_of j ≡ j) ys → Each (λ (j : List ℕ). key_of j ≡ j) (xs ++ ys)
keys-append [] ys h k = k
keys-append (x ∷ xs) ys h k = (h.0, keys-append xs ys h.1 k)

pub get-keys : (k : List ℕ) (rs : List (List ℕ)) → Filled rs → get k (map key_of rs) ≡ on (some (get k rs)) k []
get-keys k [] f = rw (get_none k)
get-keys k (r ∷ rs) f = go (cases (cmp (key_of r) k)) (get-keys k rs f.1)
  where
    at : cmp (key_of (key_of r)) k ≡ cmp (key_of r) k
    at = ap (λ (j : List ℕ). cmp j k) (key-key r)

    go : Cases (cmp (key_of r) k) → get k (map key_of rs) ≡ on (some (get k rs)) k [] → get k (key_of r ∷ map key_of rs) ≡ on (some (get k (r ∷ rs))) k []
    go (inl l) ih = rw (get-less k (key_of r) (map key_of rs) (at ∙ l), get-less k r rs l) ih
    go (inr (inl l)) ih = rw (get-same k (key_of r) (map key_of rs) (at ∙ l), get-same k r rs l, some-filled r f.0) (cmp-same (key_of r) k l)
    go (inr (inr l)) ih = rw (get-more k (key_of r) (map key_of rs) (at ∙ l), get-more k r rs l)

-- rows have a key if one of them does
get_absent : (k : List ℕ) (rs : List (List ℕ)) → among k (map key_of rs) ≡ false → get k rs ≡ []
unfolding among
get_absent k [] e = get_none k
get_absent k (r ∷ rs) e =
    let f = or-fail (same (key_of r) k) (among k (map key_of rs)) e in
    go (cases (cmp (key_of r) k)) f.0 (get_absent k rs f.1)
  where
    go : Cases (cmp (key_of r) k) → same (key_of r) k ≡ false → get k rs ≡ [] → get k (r ∷ rs) ≡ []
    go (inl l) f ih = rw (get-less k r rs l) ih
    go (inr (inl l)) f ih = absurd (not_same (key_of r) k f l)
    go (inr (inr l)) f ih = rw (get-more k r rs l)

absent-skips : (k : List ℕ) (us : List (List ℕ)) → among k (map key_of us) ≡ false → Each (λ (u : List ℕ). same (key_of u) k ≡ false) us
unfolding among
absent-skips k [] e = tt
absent-skips k (u ∷ us) e = let f = or-fail (same (key_of u) k) (among k (map key_of us)) e in (f.0, absent-skips k us f.1)

key-filled : (r : List ℕ) → 0 < length r → 0 < length (key_of r)
unfolding part
key-filled [] h = absurd (omega arith)
key-filled (x ∷ r) h = omega arith

keys_filled : (rs : List (List ℕ)) → Filled rs → Filled (map key_of rs)
keys_filled [] h = tt
keys_filled (r ∷ rs) h = (key-filled r h.0, keys_filled rs h.1)

filled-append : (xs ys : List (List ℕ)) → Filled xs → Filled ys → Filled (xs ++ ys)
filled-append [] ys h k = k
filled-append (x ∷ xs) ys h k = (h.0, filled-append xs ys h.1 k)

-- rows of which one has the key give it
get-there : (Q : List ℕ → Type 0) → ((r : List ℕ) → Q r → 0 < length r) → (k : List ℕ) (rs : List (List ℕ)) → sorted_rows rs ≡ true → Each Q rs → among k (map key_of rs) ≡ true → Q (get k rs)
unfolding among
get-there Q full k [] s h e = absurd (let z : ◌≡◌ {A = ℕ} 0 1 = cc in omega arith)
get-there Q full k (r ∷ rs) s h e = go (cases (cmp (key_of r) k)) (same (key_of r) k) refl e (λ f. get-there Q full k rs (sorted_tail r rs (sorted_rises r rs s)) h.1 f)
  where
    go : Cases (cmp (key_of r) k) → (t : Bool) → same (key_of r) k ≡ t → (t || among k (map key_of rs)) ≡ true → (among k (map key_of rs) ≡ true → Q (get k rs)) → Q (get k (r ∷ rs))
    go (inr (inl l)) t q f ih = rw (get-same k r rs l) h.0
    go (inl l) true q f ih = absurd (less-not-same (cmp (key_of r) k) l (same-cmp (key_of r) k q))
    go (inl l) false q f ih = rw (get-less k r rs l) (ih f)
    go (inr (inr l)) true q f ih = absurd (more-not-same (cmp (key_of r) k) l (same-cmp (key_of r) k q))
    go (inr (inr l)) false q f ih = filled-not (get k rs) (full (get k rs) (ih f)) (get-above r k rs (sorted_rises r rs s) l)

module _ (rule : Rule) (U Q : List ℕ → Type 0) (keeps : (held u : List ℕ) → U u → RowOf (key_of u) held → key_of (rule held u) ≡ key_of u)
    (gives : (held u : List ℕ) → U u → (held ≡ []) ⊎ Q held → Q (rule held u)) (full : (r : List ℕ) → Q r → 0 < length r) where
  -- a key that has a row, or an update of its own, has one in the end
  replayed-q : (k held : List ℕ) (vs : List (List ℕ)) → Each U vs → Q held → Q (replayed rule k held vs)
  unfolding replayed
  replayed-q k held [] h q = q
  replayed-q k held (v ∷ vs) h q = replayed-q k (on (same (key_of v) k) (rule held v) held) vs h.1 (go (same (key_of v) k))
    where
      go : (t : Bool) → Q (on t (rule held v) held)
      go true = gives held v h.0 (inr q)
      go false = q

  replayed-new : (k held : List ℕ) (vs : List (List ℕ)) → Each U vs → (held ≡ []) ⊎ Q held → among k (map key_of vs) ≡ true → Q (replayed rule k held vs)
  unfolding replayed among
  replayed-new k held [] h o e = absurd (let z : ◌≡◌ {A = ℕ} 0 1 = cc in omega arith)
  replayed-new k held (v ∷ vs) h o e = go (same (key_of v) k) e (λ f. replayed-new k held vs h.1 o f)
    where
      go : (t : Bool) → (t || among k (map key_of vs)) ≡ true → (among k (map key_of vs) ≡ true → Q (replayed rule k held vs)) → Q (replayed rule k (on t (rule held v) held) vs)
      go true f ih = replayed-q k (rule held v) vs h.1 (gives held v h.0 o)
      go false f ih = ih f

  module _ (bodies us : List (List ℕ)) (plan-rows : Each Q (plan_rows bodies)) (plan-sorted : sorted_rows (plan_rows bodies) ≡ true) (updates : Each U (standing us)) (whole : Filled (standing us)) where
    abbrev replayed-rows : List (List ℕ)
    replayed-rows = taken_all rule (standing us) (plan_rows bodies)

    abbrev names : List (List ℕ)
    names = map key_of (plan_rows bodies) ++ map key_of (standing us)

    ordered : sorted_rows replayed-rows ≡ true
    ordered = sorted-taken_all rule (standing us) (plan_rows bodies) plan-sorted

    filled : Filled replayed-rows
    filled = each-full rule U Q keeps gives full replayed-rows (each-taken_all rule U Q gives (standing us) (plan_rows bodies) updates plan-rows)

    got : (k : List ℕ) → get k replayed-rows ≡ replayed rule k (get k (plan_rows bodies)) (standing us)
    got k = get-taken_all rule U keeps k (standing us) (plan_rows bodies) updates

    -- a key has a row exactly where the plan or a standing update names it
    named : (k : List ℕ) → some (get k replayed-rows) ≡ among k names
    named k = ap some (got k) ∙ go (among k (map key_of (plan_rows bodies))) refl (among k (map key_of (standing us))) refl ∙ sym (among-append k (map key_of (plan_rows bodies)) (map key_of (standing us)))
      where
        row : List ℕ
        row = replayed rule k (get k (plan_rows bodies)) (standing us)

        go : (s : Bool) → among k (map key_of (plan_rows bodies)) ≡ s → (t : Bool) → among k (map key_of (standing us)) ≡ t
            → some (replayed rule k (get k (plan_rows bodies)) (standing us)) ≡ (among k (map key_of (plan_rows bodies)) || among k (map key_of (standing us)))
        go true e t f = rw e (some-filled row (full row (replayed-q k (get k (plan_rows bodies)) (standing us) updates (get-there Q full k (plan_rows bodies) plan-sorted plan-rows e))))
        go false e true f = rw (e, f) (some-filled row (full row (replayed-new k (get k (plan_rows bodies)) (standing us) updates (inl (get_absent k (plan_rows bodies) e)) f)))
        go false e false f = rw (e, f) (ap some (replayed-skip rule k (get k (plan_rows bodies)) (standing us) (absent-skips k (standing us) f) ∙ get_absent k (plan_rows bodies) e))

    keys-same : keys_in bodies us ≡ map key_of replayed-rows
    unfolding keys_in sorted_rows
    keys-same =
        rows-equal (put_all names []) (map key_of replayed-rows)
        (sorted-put_all names [] refl) (sorted-keys key_of key-key replayed-rows ∙ ordered)
        (filled-put_all names [] (filled-append (map key_of (plan_rows bodies)) (map key_of (standing us)) (keys_filled (plan_rows bodies) (each-full rule U Q keeps gives full (plan_rows bodies) plan-rows)) (keys_filled (standing us) whole)) tt)
        (keys_filled replayed-rows filled)
        (λ k. get-put_all k names [] (keys-append (map key_of (plan_rows bodies)) (map key_of (standing us)) (keys-are (plan_rows bodies)) (keys-are (standing us)))
        ∙ ap (λ (t : Bool). on t k (get k [])) (sym (named k)) ∙ ap (λ (l : List ℕ). on (some (get k replayed-rows)) k l) (get_none k) ∙ sym (get-keys k replayed-rows filled))

    -- the second reckoning gives the replay
    pub reckoned-is : reckoned rule bodies us ≡ replayed-rows
    unfolding reckoned row_for
    reckoned-is = ap (map (row_for rule bodies us)) keys-same ∙ map_both (λ k. sym (got k)) (map key_of replayed-rows) ∙ rows-by-key replayed-rows ordered
