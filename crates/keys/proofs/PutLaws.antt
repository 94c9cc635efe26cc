-- What callers want of `put`, `get` and `remove`. Only the laws that name `sorted_rows` ask it. Assumes nothing.
use mathlib.Core.Path.{◌≡◌, refl, sym, ap, ◌∙◌}
use mathlib.Core.Bool.{true}
use mathlib.Core.Logic.{inl, inr}
use mathlib.Core.List.{List, [], ◌∷◌}
use Prim.Native.Nat.{ℕ, suc, ◌≤◌, ◌<◌}
use native.Mathlib.Omega.{arith}
use lib.ListN.{length, get_or, set}
use Rattle.std.specs.declared.cmp.Ordering.{Ordering}
use Rattle.std.specs.declared.cmp.Ordering.TheVariants.{Less, Equal, Greater}
use Rattle.std.specs.Prelude.{Result, Ok, Err}
use Rattle.lists.specs.Rows.{rows_of, insert_at, remove_at}
use Rattle.passage.specs.Layout.{key_of}
use Rattle.keys.specs.Keys.{cmp, by_order}
use Rattle.keys.specs.Sorted.{rises_from, sorted_rows, lookup_from, lookup, put, remove, get}
use Rattle.lists.proofs.RowLaws.{length-rows_of}
use Rattle.keys.proofs.KeyLaws.{cmp-trans, cmp-same, cmp-refl, flipped, Cases, cases}
use Rattle.keys.proofs.SortedLaws.{rises-head, rises-tail, sorted_tail, sorted_rises}

-- one step of each function
module _ (r s : List ℕ) (rs : List (List ℕ)) where
  pub put-less : cmp (key_of s) (key_of r) ≡ Less → put r (s ∷ rs) ≡ s ∷ put r rs
  unfolding put
  put-less e = rw e

  pub put_same : cmp (key_of s) (key_of r) ≡ Equal → put r (s ∷ rs) ≡ r ∷ rs
  unfolding put
  put_same e = rw e

  pub put-more : cmp (key_of s) (key_of r) ≡ Greater → put r (s ∷ rs) ≡ r ∷ s ∷ rs
  unfolding put
  put-more e = rw e

module _ (k s : List ℕ) (rs : List (List ℕ)) where
  pub get-less : cmp (key_of s) k ≡ Less → get k (s ∷ rs) ≡ get k rs
  unfolding get
  get-less e = rw e

  pub get-same : cmp (key_of s) k ≡ Equal → get k (s ∷ rs) ≡ s
  unfolding get
  get-same e = rw e

  pub get-more : cmp (key_of s) k ≡ Greater → get k (s ∷ rs) ≡ []
  unfolding get
  get-more e = rw e

  pub remove-less : cmp (key_of s) k ≡ Less → remove k (s ∷ rs) ≡ s ∷ remove k rs
  unfolding remove
  remove-less e = rw e

  pub remove-same : cmp (key_of s) k ≡ Equal → remove k (s ∷ rs) ≡ rs
  unfolding remove
  remove-same e = rw e

  pub remove-more : cmp (key_of s) k ≡ Greater → remove k (s ∷ rs) ≡ s ∷ rs
  unfolding remove
  remove-more e = rw e

pub get_none : (k : List ℕ) → get k [] ≡ []
unfolding get
get_none k = refl

pub put-none : (r : List ℕ) → put r [] ≡ r ∷ []
unfolding put
put-none r = refl

pub remove-none : (k : List ℕ) → remove k [] ≡ []
unfolding remove
remove-none k = refl

-- the row that was put is got
pub get-put : (r : List ℕ) (rs : List (List ℕ)) → get (key_of r) (put r rs) ≡ r
unfolding put
get-put r [] = get-same (key_of r) r [] (cmp-refl (key_of r))
get-put r (s ∷ rs) = go (get-put r rs) (cases (cmp (key_of s) (key_of r)))
  where
    go : get (key_of r) (put r rs) ≡ r → Cases (cmp (key_of s) (key_of r)) → get (key_of r) (put r (s ∷ rs)) ≡ r
    go ih (inl e) = rw (put-less r s rs e, get-less (key_of r) s (put r rs) e) ih
    go ih (inr (inl e)) = rw (put_same r s rs e) (get-same (key_of r) r rs (cmp-refl (key_of r)))
    go ih (inr (inr e)) = rw (put-more r s rs e) (get-same (key_of r) r (s ∷ rs) (cmp-refl (key_of r)))

-- each other row stays
pub get-put-other : (k r : List ℕ) (rs : List (List ℕ)) → (cmp (key_of r) k ≡ Equal → ⊥) → get k (put r rs) ≡ get k rs
unfolding put
get-put-other k r [] n = go (cases (cmp (key_of r) k))
  where
    go : Cases (cmp (key_of r) k) → get k (r ∷ []) ≡ get k []
    go (inl e) = get-less k r [] e
    go (inr (inl e)) = absurd (n e)
    go (inr (inr e)) = get-more k r [] e ∙ sym (get_none k)
get-put-other k r (s ∷ rs) n = go (get-put-other k r rs n) (cases (cmp (key_of r) k)) (cases (cmp (key_of s) (key_of r))) (cases (cmp (key_of s) k))
  where
    first : get k (put r rs) ≡ get k rs → cmp (key_of s) (key_of r) ≡ Less → Cases (cmp (key_of s) k) → get k (put r (s ∷ rs)) ≡ get k (s ∷ rs)
    first ih e (inl f) = rw (put-less r s rs e, get-less k s (put r rs) f, get-less k s rs f) ih
    first ih e (inr (inl f)) = rw (put-less r s rs e, get-same k s (put r rs) f, get-same k s rs f)
    first ih e (inr (inr f)) = rw (put-less r s rs e, get-more k s (put r rs) f, get-more k s rs f)

    go : get k (put r rs) ≡ get k rs → Cases (cmp (key_of r) k) → Cases (cmp (key_of s) (key_of r)) → Cases (cmp (key_of s) k) → get k (put r (s ∷ rs)) ≡ get k (s ∷ rs)
    go ih (inr (inl e)) a b = absurd (n e)
    go ih (inl g) (inl e) b = first ih e b
    go ih (inr (inr g)) (inl e) b = first ih e b
    go ih (inl g) (inr (inl e)) b =
        let f : cmp (key_of s) k ≡ Less = ap (λ (a : List ℕ). cmp a k) (cmp-same (key_of s) (key_of r) e) ∙ g in
        rw (put_same r s rs e, get-less k r rs g, get-less k s rs f)
    go ih (inr (inr g)) (inr (inl e)) b =
        let f : cmp (key_of s) k ≡ Greater = ap (λ (a : List ℕ). cmp a k) (cmp-same (key_of s) (key_of r) e) ∙ g in
        rw (put_same r s rs e, get-more k r rs g, get-more k s rs f)
    go ih (inl g) (inr (inr e)) b = rw (put-more r s rs e, get-less k r (s ∷ rs) g)
    go ih (inr (inr g)) (inr (inr e)) b =
        let f : cmp (key_of s) k ≡ Greater = flipped k (key_of s) Less (cmp-trans k (key_of r) (key_of s) (flipped (key_of r) k Greater g) (flipped (key_of s) (key_of r) Greater e)) in
        rw (put-more r s rs e, get-more k r (s ∷ rs) g, get-more k s rs f)

-- a row taken out again
pub remove-put : (r : List ℕ) (rs : List (List ℕ)) → remove (key_of r) (put r rs) ≡ remove (key_of r) rs
unfolding put
remove-put r [] = remove-same (key_of r) r [] (cmp-refl (key_of r)) ∙ sym (remove-none (key_of r))
remove-put r (s ∷ rs) = go (remove-put r rs) (cases (cmp (key_of s) (key_of r)))
  where
    go : remove (key_of r) (put r rs) ≡ remove (key_of r) rs → Cases (cmp (key_of s) (key_of r)) → remove (key_of r) (put r (s ∷ rs)) ≡ remove (key_of r) (s ∷ rs)
    go ih (inl e) = rw (put-less r s rs e, remove-less (key_of r) s (put r rs) e, remove-less (key_of r) s rs e, ih)
    go ih (inr (inl e)) = rw (put_same r s rs e, remove-same (key_of r) r rs (cmp-refl (key_of r)), remove-same (key_of r) s rs e)
    go ih (inr (inr e)) = rw (put-more r s rs e, remove-same (key_of r) r (s ∷ rs) (cmp-refl (key_of r)), remove-more (key_of r) s rs e)

-- the later of two rows with one key stands
pub put-put : (a b : List ℕ) (rs : List (List ℕ)) → key_of a ≡ key_of b → put a (put b rs) ≡ put a rs
unfolding put
put-put a b [] k = put_same a b [] (ap (λ (x : List ℕ). cmp (key_of b) x) k ∙ cmp-refl (key_of b))
put-put a b (s ∷ rs) k = go (put-put a b rs k) (cases (cmp (key_of s) (key_of b)))
  where
    go : put a (put b rs) ≡ put a rs → Cases (cmp (key_of s) (key_of b)) → put a (put b (s ∷ rs)) ≡ put a (s ∷ rs)
    go ih (inl e) = let f : cmp (key_of s) (key_of a) ≡ Less = rw k e in rw (put-less b s rs e, put-less a s (put b rs) f, put-less a s rs f, ih)
    go ih (inr (inl e)) =
        let f : cmp (key_of s) (key_of a) ≡ Equal = rw k e in
        let g : cmp (key_of b) (key_of a) ≡ Equal = rw k (cmp-refl (key_of b)) in
        rw (put_same b s rs e, put_same a b rs g, put_same a s rs f)
    go ih (inr (inr e)) =
        let f : cmp (key_of s) (key_of a) ≡ Greater = rw k e in
        let g : cmp (key_of b) (key_of a) ≡ Equal = rw k (cmp-refl (key_of b)) in
        rw (put-more b s rs e, put_same a b (s ∷ rs) g, put-more a s rs f)

-- two rows with different keys, in either order
less-comm : (a b : List ℕ) (rs : List (List ℕ)) → cmp (key_of a) (key_of b) ≡ Less → put a (put b rs) ≡ put b (put a rs)
unfolding put
less-comm a b [] h = put-more a b [] (flipped (key_of a) (key_of b) Less h) ∙ sym (put-less b a [] h)
less-comm a b (s ∷ rs) h = go (less-comm a b rs h) (cases (cmp (key_of s) (key_of a))) (cases (cmp (key_of s) (key_of b)))
  where
    go : put a (put b rs) ≡ put b (put a rs) → Cases (cmp (key_of s) (key_of a)) → Cases (cmp (key_of s) (key_of b)) → put a (put b (s ∷ rs)) ≡ put b (put a (s ∷ rs))
    go ih (inl e) c =
        let f : cmp (key_of s) (key_of b) ≡ Less = cmp-trans (key_of s) (key_of a) (key_of b) e h in
        rw (put-less b s rs f, put-less a s (put b rs) e, put-less a s rs e, put-less b s (put a rs) f, ih)
    go ih (inr (inl e)) c =
        let f : cmp (key_of s) (key_of b) ≡ Less = ap (λ (x : List ℕ). cmp x (key_of b)) (cmp-same (key_of s) (key_of a) e) ∙ h in
        rw (put-less b s rs f, put_same a s (put b rs) e, put_same a s rs e, put-less b a rs h)
    go ih (inr (inr e)) (inl f) = rw (put-less b s rs f, put-more a s (put b rs) e, put-more a s rs e, put-less b a (s ∷ rs) h, put-less b s rs f)
    go ih (inr (inr e)) (inr (inl f)) = rw (put_same b s rs f, put-more a b rs (flipped (key_of a) (key_of b) Less h), put-more a s rs e, put-less b a (s ∷ rs) h, put_same b s rs f)
    go ih (inr (inr e)) (inr (inr f)) = rw (put-more b s rs f, put-more a b (s ∷ rs) (flipped (key_of a) (key_of b) Less h), put-more a s rs e, put-less b a (s ∷ rs) h, put-more b s rs f)

pub put-comm : (a b : List ℕ) (rs : List (List ℕ)) → (cmp (key_of a) (key_of b) ≡ Equal → ⊥) → put a (put b rs) ≡ put b (put a rs)
put-comm a b rs n = go (cases (cmp (key_of a) (key_of b)))
  where
    go : Cases (cmp (key_of a) (key_of b)) → put a (put b rs) ≡ put b (put a rs)
    go (inl e) = less-comm a b rs e
    go (inr (inl e)) = absurd (n e)
    go (inr (inr e)) = sym (less-comm b a rs (flipped (key_of a) (key_of b) Greater e))

-- the order that rises-head speaks of, as rises_from computes it
rises-cons : (r s : List ℕ) (rs : List (List ℕ)) → cmp (key_of r) (key_of s) ≡ Less → rises_from s rs ≡ true → rises_from r (s ∷ rs) ≡ true
unfolding rises_from
rises-cons r s rs e h = rw (e, h)

rises-key : (r s : List ℕ) (rs : List (List ℕ)) → key_of s ≡ key_of r → rises_from s rs ≡ true → rises_from r rs ≡ true
unfolding rises_from
rises-key r s [] k h = refl
rises-key r s (x ∷ rs) k h = rw (← k) h

single : (r : List ℕ) → rises_from r [] ≡ true
unfolding rises_from
single r = refl

rises-put : (q r : List ℕ) (rs : List (List ℕ)) → rises_from q rs ≡ true → cmp (key_of q) (key_of r) ≡ Less → rises_from q (put r rs) ≡ true
unfolding put
rises-put q r [] h l = rises-cons q r [] l (single r)
rises-put q r (s ∷ rs) h l = go (rises-put s r rs (rises-tail q s rs h)) (cases (cmp (key_of s) (key_of r)))
  where
    go : (cmp (key_of s) (key_of r) ≡ Less → rises_from s (put r rs) ≡ true) → Cases (cmp (key_of s) (key_of r)) → rises_from q (put r (s ∷ rs)) ≡ true
    go ih (inl e) = rw (put-less r s rs e) (rises-cons q s (put r rs) (rises-head q s rs h) (ih e))
    go ih (inr (inl e)) = rw (put_same r s rs e) (rises-cons q r rs l (rises-key r s rs (cmp-same (key_of s) (key_of r) e) (rises-tail q s rs h)))
    go ih (inr (inr e)) =
        rw (put-more r s rs e) (rises-cons q r (s ∷ rs) l (rises-cons r s rs (flipped (key_of s) (key_of r) Greater e) (rises-tail q s rs h)))

pub sorted-put : (r : List ℕ) (rs : List (List ℕ)) → sorted_rows rs ≡ true → sorted_rows (put r rs) ≡ true
unfolding sorted_rows put
sorted-put r [] h = single r
sorted-put r (s ∷ rs) h = go (cases (cmp (key_of s) (key_of r)))
  where
    go : Cases (cmp (key_of s) (key_of r)) → sorted_rows (put r (s ∷ rs)) ≡ true
    go (inl e) = rw (put-less r s rs e) (rises-put s r rs h e)
    go (inr (inl e)) = rw (put_same r s rs e) (rises-key r s rs (cmp-same (key_of s) (key_of r) e) h)
    go (inr (inr e)) = rw (put-more r s rs e) (rises-cons r s rs (flipped (key_of s) (key_of r) Greater e) h)

rises-skip : (q s : List ℕ) (rs : List (List ℕ)) → rises_from q (s ∷ rs) ≡ true → rises_from q rs ≡ true
unfolding rises_from
rises-skip q s [] h = refl
rises-skip q s (x ∷ rs) h = rises-cons q x rs (cmp-trans (key_of q) (key_of s) (key_of x) (rises-head q s (x ∷ rs) h) (rises-head s x rs (rises-tail q s (x ∷ rs) h))) (rises-tail s x rs (rises-tail q s (x ∷ rs) h))

rises-remove : (q k : List ℕ) (rs : List (List ℕ)) → rises_from q rs ≡ true → rises_from q (remove k rs) ≡ true
rises-remove q k [] h = rw (remove-none k) h
rises-remove q k (s ∷ rs) h = go (rises-remove s k rs (rises-tail q s rs h)) (cases (cmp (key_of s) k))
  where
    go : rises_from s (remove k rs) ≡ true → Cases (cmp (key_of s) k) → rises_from q (remove k (s ∷ rs)) ≡ true
    go ih (inl e) = rw (remove-less k s rs e) (rises-cons q s (remove k rs) (rises-head q s rs h) ih)
    go ih (inr (inl e)) = rw (remove-same k s rs e) (rises-skip q s rs h)
    go ih (inr (inr e)) = rw (remove-more k s rs e) h

pub sorted-remove : (k : List ℕ) (rs : List (List ℕ)) → sorted_rows rs ≡ true → sorted_rows (remove k rs) ≡ true
unfolding sorted_rows
sorted-remove k [] h = rw (remove-none k) h
sorted-remove k (s ∷ rs) h = go (cases (cmp (key_of s) k))
  where
    go : Cases (cmp (key_of s) k) → sorted_rows (remove k (s ∷ rs)) ≡ true
    go (inl e) = rw (remove-less k s rs e) (rises-remove s k rs h)
    go (inr (inl e)) = rw (remove-same k s rs e) (sorted_tail s rs h)
    go (inr (inr e)) = rw (remove-more k s rs e) h

-- ---- what is got after a removal

-- a key at or below a row is not above it
pub get-low : (s k : List ℕ) (rs : List (List ℕ)) → rises_from s rs ≡ true → cmp (key_of s) k ≡ Equal → get k rs ≡ []
get-low s k [] h e = get_none k
get-low s k (x ∷ rs) h e = get-more k x rs (flipped k (key_of x) Less (rw (← (cmp-same (key_of s) k e)) (rises-head s x rs h)))

pub get-above : (s k : List ℕ) (rs : List (List ℕ)) → rises_from s rs ≡ true → cmp (key_of s) k ≡ Greater → get k rs ≡ []
get-above s k [] h e = get_none k
get-above s k (x ∷ rs) h e = get-more k x rs (flipped k (key_of x) Less (cmp-trans k (key_of s) (key_of x) (flipped (key_of s) k Greater e) (rises-head s x rs h)))

-- the row that was removed is gone
pub get-remove : (k : List ℕ) (rs : List (List ℕ)) → sorted_rows rs ≡ true → get k (remove k rs) ≡ []
get-remove k [] h = rw (remove-none k) (get_none k)
get-remove k (s ∷ rs) h = go (get-remove k rs (sorted_tail s rs (sorted_rises s rs h))) (cases (cmp (key_of s) k))
  where
    go : get k (remove k rs) ≡ [] → Cases (cmp (key_of s) k) → get k (remove k (s ∷ rs)) ≡ []
    go ih (inl e) = rw (remove-less k s rs e, get-less k s (remove k rs) e) ih
    go ih (inr (inl e)) = rw (remove-same k s rs e) (get-low s k rs (sorted_rises s rs h) e)
    go ih (inr (inr e)) = rw (remove-more k s rs e) (get-more k s rs e)

-- each other row stays
pub get_remove_other : (j k : List ℕ) (rs : List (List ℕ)) → sorted_rows rs ≡ true → (cmp k j ≡ Equal → ⊥) → get j (remove k rs) ≡ get j rs
get_remove_other j k [] h n = rw remove-none
get_remove_other j k (s ∷ rs) h n = go (get_remove_other j k rs (sorted_tail s rs (sorted_rises s rs h)) n) (cases (cmp (key_of s) k)) (cases (cmp (key_of s) j))
  where
    go : get j (remove k rs) ≡ get j rs → Cases (cmp (key_of s) k) → Cases (cmp (key_of s) j) → get j (remove k (s ∷ rs)) ≡ get j (s ∷ rs)
    go ih (inl e) (inl f) = rw (remove-less k s rs e, get-less j s (remove k rs) f, get-less j s rs f) ih
    go ih (inl e) (inr (inl f)) = rw (remove-less k s rs e, get-same j s (remove k rs) f, get-same j s rs f)
    go ih (inl e) (inr (inr f)) = rw (remove-less k s rs e, get-more j s (remove k rs) f, get-more j s rs f)
    go ih (inr (inl e)) (inl f) = rw (remove-same k s rs e, get-less j s rs f)
    go ih (inr (inl e)) (inr (inl f)) = absurd (n (rw (cmp-same (key_of s) k e) at f))
    go ih (inr (inl e)) (inr (inr f)) = rw (remove-same k s rs e, get-more j s rs f) (get-above s j rs (sorted_rises s rs h) f)
    go ih (inr (inr e)) f = rw (remove-more k s rs e)

-- ---- by the place that `lookup` gives

abbrev pub next : Result ℕ ℕ → Result ℕ ℕ
next (Ok i) = Ok (suc i)
next (Err i) = Err (suc i)

abbrev pub put_by : Result ℕ ℕ → List ℕ → List (List ℕ) → List (List ℕ)
put_by (Ok i) r rs = set rs i r
put_by (Err i) r rs = insert_at i r rs

abbrev pub remove_by : Result ℕ ℕ → List (List ℕ) → List (List ℕ)
remove_by (Ok i) rs = remove_at i rs
remove_by (Err i) rs = rs

next-order : (o : Ordering) (f a b : Result ℕ ℕ) → next (by_order o f a b) ≡ by_order o (next f) (next a) (next b)
next-order Less f a b = refl
next-order Equal f a b = refl
next-order Greater f a b = refl

pub lookup-next : (i : ℕ) (k : List ℕ) (rs : List (List ℕ)) → lookup_from (suc i) k rs ≡ next (lookup_from i k rs)
unfolding lookup_from
lookup-next i k [] = refl
lookup-next i k (s ∷ rs) = rw (lookup-next (suc i) k rs) (sym (next-order (cmp (key_of s) k) (lookup_from (suc i) k rs) (Ok i) (Err i)))

put_next : (f : Result ℕ ℕ) (r s : List ℕ) (rs : List (List ℕ)) → put_by (next f) r (s ∷ rs) ≡ s ∷ put_by f r rs
put_next (Ok i) r s rs = refl
put_next (Err i) r s rs = refl

remove-next : (f : Result ℕ ℕ) (s : List ℕ) (rs : List (List ℕ)) → remove_by (next f) (s ∷ rs) ≡ s ∷ remove_by f rs
remove-next (Ok i) s rs = refl
remove-next (Err i) s rs = refl

pub put-lookup : (r : List ℕ) (rs : List (List ℕ)) → put r rs ≡ put_by (lookup (key_of r) rs) r rs
unfolding put lookup lookup_from
put-lookup r [] = refl
put-lookup r (s ∷ rs) = go (cmp (key_of s) (key_of r)) (put-lookup r rs)
  where
    go : (o : Ordering) → put r rs ≡ put_by (lookup_from 0 (key_of r) rs) r rs → by_order o (s ∷ put r rs) (r ∷ rs) (r ∷ s ∷ rs) ≡ put_by (by_order o (lookup_from 1 (key_of r) rs) (Ok 0) (Err 0)) r (s ∷ rs)
    go Less ih = rw (lookup-next 0 (key_of r) rs, put_next (lookup_from 0 (key_of r) rs) r s rs, ih)
    go Equal ih = refl
    go Greater ih = refl

pub remove-lookup : (k : List ℕ) (rs : List (List ℕ)) → remove k rs ≡ remove_by (lookup k rs) rs
unfolding remove lookup lookup_from
remove-lookup k [] = refl
remove-lookup k (s ∷ rs) = go (cmp (key_of s) k) (remove-lookup k rs)
  where
    go : (o : Ordering) → remove k rs ≡ remove_by (lookup_from 0 k rs) rs → by_order o (s ∷ remove k rs) rs (s ∷ rs) ≡ remove_by (by_order o (lookup_from 1 k rs) (Ok 0) (Err 0)) (s ∷ rs)
    go Less ih = rw (lookup-next 0 k rs, remove-next (lookup_from 0 k rs) s rs, ih)
    go Equal ih = refl
    go Greater ih = refl

-- a place that is found is below the count; one where a key is missing is at most the count
abbrev pub Within : Result ℕ ℕ → ℕ → Type 0
Within (Ok i) n = i < n
Within (Err i) n = i ≤ n

within-next : (f : Result ℕ ℕ) (n : ℕ) → Within f n → Within (next f) (suc n)
within-next (Ok i) n h = omega arith
within-next (Err i) n h = omega arith

pub lookup-within : (k : List ℕ) (rs : List (List ℕ)) → Within (lookup k rs) (length rs)
unfolding lookup lookup_from
lookup-within k [] = omega arith
lookup-within k (s ∷ rs) = go (cmp (key_of s) k) (lookup-within k rs)
  where
    go : (o : Ordering) → Within (lookup_from 0 k rs) (length rs) → Within (by_order o (lookup_from 1 k rs) (Ok 0) (Err 0)) (suc (length rs))
    go Less ih = rw (lookup-next 0 k rs) (within-next (lookup_from 0 k rs) (length rs) ih)
    go Equal ih = omega arith
    go Greater ih = omega arith

-- the same for rows of bytes
module _ (w n i : ℕ) (k t : List ℕ) where
  pub found_below : lookup k (rows_of w n t) ≡ Ok i → i < n
  found_below e = rw (e, length-rows_of) at (lookup-within k (rows_of w n t))

  pub missing-within : lookup k (rows_of w n t) ≡ Err i → i ≤ n
  missing-within e = rw (e, length-rows_of) at (lookup-within k (rows_of w n t))

pub put-at : (r : List ℕ) (rs : List (List ℕ)) (f : Result ℕ ℕ) → lookup (key_of r) rs ≡ f → put r rs ≡ put_by f r rs
put-at r rs f e = put-lookup r rs ∙ ap (λ (g : Result ℕ ℕ). put_by g r rs) e

pub remove-at : (k : List ℕ) (rs : List (List ℕ)) (f : Result ℕ ℕ) → lookup k rs ≡ f → remove k rs ≡ remove_by f rs
remove-at k rs f e = remove-lookup k rs ∙ ap (λ (g : Result ℕ ℕ). remove_by g rs) e

-- what is got, by its place
abbrev pub get_by : Result ℕ ℕ → List (List ℕ) → List ℕ
get_by (Ok i) rs = get_or rs i []
get_by (Err i) rs = []

get-next : (f : Result ℕ ℕ) (s : List ℕ) (rs : List (List ℕ)) → get_by (next f) (s ∷ rs) ≡ get_by f rs
get-next (Ok i) s rs = refl
get-next (Err i) s rs = refl

pub get-lookup : (k : List ℕ) (rs : List (List ℕ)) → get k rs ≡ get_by (lookup k rs) rs
unfolding get lookup lookup_from
get-lookup k [] = refl
get-lookup k (s ∷ rs) = go (cmp (key_of s) k) (get-lookup k rs)
  where
    go : (o : Ordering) → get k rs ≡ get_by (lookup_from 0 k rs) rs → by_order o (get k rs) s [] ≡ get_by (by_order o (lookup_from 1 k rs) (Ok 0) (Err 0)) (s ∷ rs)
    go Less ih = rw (lookup-next 0 k rs, get-next (lookup_from 0 k rs) s rs) ih
    go Equal ih = refl
    go Greater ih = refl

pub get_at : (k : List ℕ) (rs : List (List ℕ)) (f : Result ℕ ℕ) → lookup k rs ≡ f → get k rs ≡ get_by f rs
get_at k rs f e = get-lookup k rs ∙ ap (λ (g : Result ℕ ℕ). get_by g rs) e

-- the row at a place that is found has the key
abbrev Has : List ℕ → Result ℕ ℕ → List (List ℕ) → Type 0
Has k (Ok i) rs = key_of (get_or rs i []) ≡ k
Has k (Err i) rs = Unit {0}

has-next : (k : List ℕ) (f : Result ℕ ℕ) (s : List ℕ) (rs : List (List ℕ)) → Has k f rs → Has k (next f) (s ∷ rs)
has-next k (Ok i) s rs h = h
has-next k (Err i) s rs h = tt

lookup-has : (k : List ℕ) (rs : List (List ℕ)) → Has k (lookup k rs) rs
unfolding lookup lookup_from
lookup-has k [] = tt
lookup-has k (s ∷ rs) = go (cases (cmp (key_of s) k)) (lookup-has k rs)
  where
    go : Cases (cmp (key_of s) k) → Has k (lookup_from 0 k rs) rs → Has k (by_order (cmp (key_of s) k) (lookup_from 1 k rs) (Ok 0) (Err 0)) (s ∷ rs)
    go (inl e) ih = rw (e, lookup-next 0 k rs) (has-next k (lookup_from 0 k rs) s rs ih)
    go (inr (inl e)) ih = rw e (cmp-same (key_of s) k e)
    go (inr (inr e)) ih = rw e tt

pub found-key : (k : List ℕ) (rs : List (List ℕ)) (i : ℕ) → lookup k rs ≡ Ok i → key_of (get_or rs i []) ≡ k
found-key k rs i e = rw e at (lookup-has k rs)
