-- The rows of an owner stand together, from where the least key that it can have would stand. Assumes nothing.
use mathlib.Core.Path.{◌≡◌, refl, sym, ap, ◌∙◌}
use mathlib.Core.Bool.{Bool, true, false}
use mathlib.Core.List.{List, [], ◌∷◌, ◌++◌}
use mathlib.Core.Logic.{◌⊎◌, inl, inr}
use Prim.Native.Nat.{ℕ, zero, suc, ◌+◌, ◌-◌, ◌*◌, ◌≤◌, ◌<◌}
use native.Mathlib.Omega.{arith}
use lib.ListN.{length, take, drop, get_or, replicate, length-replicate}
use Rattle.lists.specs.Part.{part, onto, over}
use Rattle.lists.specs.Text.{same}
use Rattle.lists.proofs.OverLaws.{length_over, onto-fits}
use Rattle.lists.proofs.PartLaws.{part-is, part-all, part-add, part-part, length_part}
use Rattle.lists.proofs.ReadLaws.{part-written}
use Rattle.lists.proofs.RowLaws.{row-at, length-rows_of}
use Rattle.lists.proofs.TextLaws.{same-equal, same_refl}
use Rattle.passage.specs.Layout.{key_of, owner_of, text_wide, key_wide, row_wide}
use Rattle.std.specs.declared.cmp.Ordering.{Ordering}
use Rattle.std.specs.declared.cmp.Ordering.TheVariants.{Less, Equal, Greater}
use Rattle.std.specs.Prelude.{Result, Ok, Err}
use Rattle.keys.specs.Keys.{cmp, by_order}
use Rattle.keys.specs.Sorted.{lookup_from, lookup}
use Rattle.keys.proofs.KeyLaws.{tri, by_byte-eq, by_byte-gt, cmp-same, cmp-trans, flipped, cases}
use Rattle.keys.proofs.SortedLaws.{sorted-pair}
use Rattle.table.specs.Rules.{rows, table_sound}
use Rattle.table.proofs.SoundLaws.{sound-sorted, sound-fits}
use Rattle.board.specs.inner.First.{place_found, first_owned}

-- ---- keys that begin alike

never : {A : Type 0} (o : Ordering) → o ≡ Less → o ≡ Greater → A
never o p q = let z : ◌≡◌ {A = ℕ} 0 1 = cc in absurd (omega arith)

zeros-least : (m : ℕ) (xs : List ℕ) → m ≤ length xs → cmp xs (replicate m 0) ≡ Less → ⊥
unfolding cmp
zeros-least zero [] h e = let z : ◌≡◌ {A = ℕ} 0 1 = cc in absurd (omega arith)
zeros-least zero (x ∷ xs) h e = let z : ◌≡◌ {A = ℕ} 0 1 = cc in absurd (omega arith)
zeros-least (suc m) [] h e = absurd (omega arith)
zeros-least (suc m) (x ∷ xs) h e = go (zeros-least m xs (omega arith)) (tri x 0)
  where
    go : (cmp xs (replicate m 0) ≡ Less → ⊥) → (x < 0) ⊎ ((x ≡ 0) ⊎ (0 < x)) → ⊥
    go ih (inl k) = absurd (omega arith)
    go ih (inr (inl k)) = ih (sym (by_byte-eq x 0 _ k) ∙ e)
    go ih (inr (inr k)) = never _ e (by_byte-gt x 0 _ k)

-- no key that begins with o is below o and zeros
least_start : (o ys : List ℕ) (m : ℕ) → m ≤ length (o ++ ys) → cmp (o ++ ys) (onto o (replicate m 0)) ≡ Less → ⊥
unfolding cmp onto
least_start [] ys m h e = zeros-least m ys h e
least_start (v ∷ o) ys zero h e = let z : ◌≡◌ {A = ℕ} 0 1 = cc in absurd (omega arith)
least_start (v ∷ o) ys (suc m) h e = least_start o ys m (omega arith) (sym (by_byte-eq v v _ refl) ∙ e)

-- what stands between two that begin with o begins with o
between : (o x z b : List ℕ) → cmp (o ++ x) b ≡ Less → cmp b (o ++ z) ≡ Less → take (length o) b ≡ o
unfolding cmp
between [] x z b e f = refl
between (v ∷ o) x z [] e f = let n : ◌≡◌ {A = ℕ} 0 1 = cc in absurd (omega arith)
between (v ∷ o) x z (y ∷ b) e f = go (between o x z b) (tri v y)
  where
    go : (cmp (o ++ x) b ≡ Less → cmp b (o ++ z) ≡ Less → take (length o) b ≡ o) → (v < y) ⊎ ((v ≡ y) ⊎ (y < v)) → y ∷ take (length o) b ≡ v ∷ o
    go ih (inl h) = never _ f (by_byte-gt y v _ h)
    go ih (inr (inl h)) = let r = ih (sym (by_byte-eq v y _ h) ∙ e) (sym (by_byte-eq y v _ (sym h)) ∙ f) in cc
    go ih (inr (inr h)) = never _ e (by_byte-gt v y _ h)

-- ---- the place of a key

place-before : (i : ℕ) (k : List ℕ) (rs : List (List ℕ)) (j : ℕ) → i + j < place_found (lookup_from i k rs) → cmp (key_of (get_or rs j [])) k ≡ Less
unfolding lookup_from
place-before i k [] j h = absurd (omega arith)
place-before i k (r ∷ rs) j h = go (cmp (key_of r) k) refl j (place-before (suc i) k rs) h
  where
    go : (o : Ordering) → cmp (key_of r) k ≡ o → (j : ℕ) → ((j : ℕ) → suc i + j < place_found (lookup_from (suc i) k rs) → cmp (key_of (get_or rs j [])) k ≡ Less)
        → i + j < place_found (by_order o (lookup_from (suc i) k rs) (Ok i) (Err i)) → cmp (key_of (get_or (r ∷ rs) j [])) k ≡ Less
    go Less e zero ih l = e
    go Less e (suc j) ih l = ih j (omega arith)
    go Equal e j ih l = absurd (omega arith)
    go Greater e j ih l = absurd (omega arith)

place-least : (i : ℕ) (k : List ℕ) (rs : List (List ℕ)) → i ≤ place_found (lookup_from i k rs)
unfolding lookup_from
place-least i k [] = omega arith
place-least i k (r ∷ rs) = go (cmp (key_of r) k) (place-least (suc i) k rs)
  where
    go : (o : Ordering) → suc i ≤ place_found (lookup_from (suc i) k rs) → i ≤ place_found (by_order o (lookup_from (suc i) k rs) (Ok i) (Err i))
    go Less ih = omega arith
    go Equal ih = omega arith
    go Greater ih = omega arith

place-most : (i : ℕ) (k : List ℕ) (rs : List (List ℕ)) → place_found (lookup_from i k rs) ≤ i + length rs
unfolding lookup_from
place-most i k [] = omega arith
place-most i k (r ∷ rs) = go (cmp (key_of r) k) (place-most (suc i) k rs)
  where
    go : (o : Ordering) → place_found (lookup_from (suc i) k rs) ≤ suc i + length rs → place_found (by_order o (lookup_from (suc i) k rs) (Ok i) (Err i)) ≤ i + length (r ∷ rs)
    go Less ih = omega arith
    go Equal ih = omega arith
    go Greater ih = omega arith

place_here : (i : ℕ) (k : List ℕ) (rs : List (List ℕ)) (j : ℕ) → place_found (lookup_from i k rs) ≡ i + j → j < length rs → cmp (key_of (get_or rs j [])) k ≡ Less → ⊥
unfolding lookup_from
place_here i k [] j h l e = absurd (omega arith)
place_here i k (r ∷ rs) j h l e = go (cmp (key_of r) k) refl j (place_here (suc i) k rs) (place-least (suc i) k rs) h l e
  where
    go : (o : Ordering) → cmp (key_of r) k ≡ o → (j : ℕ) → ((j : ℕ) → place_found (lookup_from (suc i) k rs) ≡ suc i + j → j < length rs → cmp (key_of (get_or rs j [])) k ≡ Less → ⊥)
        → suc i ≤ place_found (lookup_from (suc i) k rs)
        → place_found (by_order o (lookup_from (suc i) k rs) (Ok i) (Err i)) ≡ i + j → j < length (r ∷ rs) → cmp (key_of (get_or (r ∷ rs) j [])) k ≡ Less → ⊥
    go Less q zero ih m h l e = absurd (omega arith)
    go Less q (suc j) ih m h l e = ih j (omega arith) (omega arith) e
    go Equal q zero ih m h l e = let z : ◌≡◌ {A = ℕ} 0 1 = cc in absurd (omega arith)
    go Equal q (suc j) ih m h l e = absurd (omega arith)
    go Greater q zero ih m h l e = let z : ◌≡◌ {A = ℕ} 0 1 = cc in absurd (omega arith)
    go Greater q (suc j) ih m h l e = absurd (omega arith)

-- ---- keys of a sound table rise

rise : (rs : List (List ℕ)) (i d : ℕ) → ((k : ℕ) → k + 1 < length rs → cmp (key_of (get_or rs k [])) (key_of (get_or rs (k + 1) [])) ≡ Less) → i + 1 + d < length rs
    → cmp (key_of (get_or rs i [])) (key_of (get_or rs (i + 1 + d) [])) ≡ Less
rise rs i zero s h = let e : i + 1 + 0 ≡ i + 1 = omega arith in rw e (s i (omega arith))
rise rs i (suc d) s h =
    let e : i + 1 + suc d ≡ i + 1 + d + 1 = omega arith in
    rw e (cmp-trans _ _ _ (rise rs i d s (omega arith)) (s (i + 1 + d) (omega arith)))

pub keys-rise : (n : ℕ) (t : List ℕ) (i j : ℕ) → table_sound n t ≡ true → i < j → j < n → cmp (key_of (part (i * row_wide) row_wide t)) (key_of (part (j * row_wide) row_wide t)) ≡ Less
keys-rise n t i j s h k =
    let e : i + 1 + (j - (i + 1)) ≡ j = omega arith in
    let w : length (rows n t) ≡ n = length-rows_of row_wide n t in
    let p = rise (rows n t) i (j - (i + 1)) (λ k l. sorted-pair (rows n t) k (sound-sorted n t s) l) (omega arith) in
    rw (← (row-at row_wide n i t (omega arith)), ← (row-at row_wide n j t k)) (rw e at p)

-- ---- the rows of an owner

-- the least key, as the code lends it
least-key : (owner : List ℕ) → part 0 key_wide (over 0 owner (replicate key_wide 0)) ≡ over 0 owner (replicate key_wide 0)
least-key owner =
    let l : length (over 0 owner (replicate key_wide 0)) ≡ key_wide = length_over 0 owner (replicate key_wide 0) ∙ length-replicate {A = ℕ} key_wide 0 in
    ap (λ (m : ℕ). part 0 m (over 0 owner (replicate key_wide 0))) (sym l) ∙ part-all (over 0 owner (replicate key_wide 0))

pub first-is : (owner k : List ℕ) (rs : List (List ℕ)) (f : Result ℕ ℕ) → k ≡ over 0 owner (replicate key_wide 0) → f ≡ lookup (part 0 key_wide k) rs → place_found f ≡ first_owned owner rs
unfolding first_owned
first-is owner k rs f e g = ap place_found (g ∙ ap (λ (x : List ℕ). lookup (part 0 key_wide x) rs) e ∙ ap (λ (x : List ℕ). lookup x rs) (least-key owner))

module _ (owner t : List ℕ) (n : ℕ) (s : table_sound n t ≡ true) (w : length owner ≡ text_wide) where
  abbrev row : ℕ → List ℕ
  row j = part (j * row_wide) row_wide t

  abbrev least : List ℕ
  least = over 0 owner (replicate key_wide 0)

  abbrev rest : ℕ → List ℕ
  rest j = part text_wide (key_wide - text_wide) (row j)

  key-starts : (j : ℕ) → same (owner_of (row j)) owner ≡ true → key_of (row j) ≡ owner ++ rest j
  key-starts j e = part-add 0 text_wide (key_wide - text_wide) (row j) ∙ ap (λ (o : List ℕ). o ++ rest j) (same-equal (owner_of (row j)) owner e)

  starts-same : (j : ℕ) → part 0 (length owner) (key_of (row j)) ≡ owner → same (owner_of (row j)) owner ≡ true
  starts-same j e =
      let p : owner_of (row j) ≡ owner = sym (part-part 0 text_wide 0 key_wide (row j) (omega arith)) ∙ ap (λ (m : ℕ). part 0 m (key_of (row j))) (sym w) ∙ e in
      rw p (same_refl owner)

  key-length : (j : ℕ) → j < n → length (key_of (row j)) ≡ key_wide
  key-length j h =
      let m = sound-fits n t s in
      let l : length (row j) ≡ row_wide = length_part (j * row_wide) row_wide t (omega arith) in
      length_part 0 key_wide (row j) (omega arith)

  least-starts : least ≡ owner ++ drop (length owner) (replicate key_wide 0)
  unfolding over
  least-starts = onto-fits owner (replicate key_wide 0) (let l = length-replicate {A = ℕ} key_wide 0 in omega arith)

  not-below : (j : ℕ) → j < n → same (owner_of (row j)) owner ≡ true → cmp (key_of (row j)) least ≡ Less → ⊥
  unfolding over
  not-below j h e f =
      let l = key-length j h in
      let k = key-starts j e in
      let m : length (owner ++ rest j) ≡ key_wide = ap length (sym k) ∙ l in
      least_start owner (rest j) key_wide (omega arith) (rw k at f)

  pub first-most : first_owned owner (rows n t) ≤ n
  unfolding first_owned lookup
  first-most = let l = length-rows_of row_wide n t in let m = place-most 0 least (rows n t) in omega arith

  below : (j : ℕ) → j < first_owned owner (rows n t) → cmp (key_of (row j)) least ≡ Less
  unfolding first_owned lookup
  below j h = let m = first-most in rw (row-at row_wide n j t (omega arith)) at (place-before 0 least (rows n t) j (omega arith))

  -- no row before the first is the owner's
  pub first-before : (j : ℕ) → j < first_owned owner (rows n t) → same (owner_of (row j)) owner ≡ false
  first-before j h = go (same (owner_of (row j)) owner) refl
    where
      go : (b : Bool) → same (owner_of (row j)) owner ≡ b → b ≡ false
      go true e = let m = first-most in absurd (not-below j (omega arith) e (below j h))
      go false e = refl

  first-here : first_owned owner (rows n t) < n → cmp (key_of (row (first_owned owner (rows n t)))) least ≡ Less → ⊥
  unfolding first_owned lookup
  first-here h e =
      let l = length-rows_of row_wide n t in
      let a = first_owned owner (rows n t) in
      place_here 0 least (rows n t) a (omega arith) (omega arith) (rw (row-at row_wide n a t h) e)

  above : (i : ℕ) → first_owned owner (rows n t) ≤ i → i < n → cmp (key_of (row i)) least ≡ Less → ⊥
  above i h k e = go (tri (first_owned owner (rows n t)) i)
    where
      go : (first_owned owner (rows n t) < i) ⊎ ((first_owned owner (rows n t) ≡ i) ⊎ (i < first_owned owner (rows n t))) → ⊥
      go (inl l) = first-here (omega arith) (cmp-trans _ (key_of (row i)) _ (keys-rise n t (first_owned owner (rows n t)) i s l k) e)
      go (inr (inl l)) = first-here (omega arith) (rw l e)
      go (inr (inr l)) = absurd (omega arith)

  -- a row between the first and a row of the owner is the owner's
  within : (i j : ℕ) → first_owned owner (rows n t) ≤ i → i < j → j < n → same (owner_of (row j)) owner ≡ true → same (owner_of (row i)) owner ≡ true
  within i j h k l e = starts-same i (go (cases (cmp least (key_of (row i)))))
    where
      go : (cmp least (key_of (row i)) ≡ Less) ⊎ ((cmp least (key_of (row i)) ≡ Equal) ⊎ (cmp least (key_of (row i)) ≡ Greater)) → part 0 (length owner) (key_of (row i)) ≡ owner
      go (inl f) =
          part-is 0 (length owner) (key_of (row i))
          ∙ between owner (drop (length owner) (replicate key_wide 0)) (rest j) (key_of (row i)) (rw least-starts at f) (rw (key-starts j e) at (keys-rise n t i j s k l))
      go (inr (inl f)) =
          ap (part 0 (length owner)) (sym (cmp-same least (key_of (row i)) f))
          ∙ part-written 0 owner (replicate key_wide 0) (let q = length-replicate {A = ℕ} key_wide 0 in omega arith)
      go (inr (inr f)) = absurd (above i h (omega arith) (flipped least (key_of (row i)) Greater f))

  -- from a row behind the first that is not the owner's, no row is
  pub first-behind : (i j : ℕ) → first_owned owner (rows n t) ≤ i → same (owner_of (row i)) owner ≡ false → i ≤ j → j < n → same (owner_of (row j)) owner ≡ false
  first-behind i j h d k l = go (same (owner_of (row j)) owner) refl (tri i j)
    where
      go : (b : Bool) → same (owner_of (row j)) owner ≡ b → (i < j) ⊎ ((i ≡ j) ⊎ (j < i)) → b ≡ false
      go false e c = refl
      go true e (inl c) = sym (within i j h c l e) ∙ d
      go true e (inr (inl c)) = sym e ∙ ap (λ (m : ℕ). same (owner_of (row m)) owner) (sym c) ∙ d
      go true e (inr (inr c)) = absurd (omega arith)
