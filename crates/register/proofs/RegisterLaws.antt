-- The register, read pair by pair. Assumes nothing.
use mathlib.Core.Path.{◌≡◌, ◌∙◌, refl, sym, ap}
use mathlib.Core.Bool.{Bool, true, false, not, ◌||◌}
use mathlib.Core.List.{List, [], ◌∷◌, ◌++◌}
use mathlib.Core.Logic.{inl, inr, ⊎_elim}
use Prim.Native.Nat.{ℕ, zero, suc, ◌+◌, ◌-◌, ◌*◌, ◌/◌, ◌%◌, ◌≤◌, ◌<◌, suc-le-suc}
use native.Mathlib.Nat.{le_of_suc-le-suc, not-suc-le-zero}
use native.Mathlib.Numerals.{add-one}
use native.Mathlib.Omega.{arith}
use borrow.Author.Tests.{eq-eqb, ne_eqb, eqb-true, eqb-false, not-true, le-leb, leb-true}
use lib.Dec.{eqb, leb}
use lib.ListN.{length, take, drop, get_or, length-append}
use lib.Seq.{take_all, take_at, drop_at, drop-cons}
use Rattle.std.specs.Bool.{MatchBool}
use Rattle.lists.specs.Text.{same}
use Rattle.lists.specs.Part.{part}
use Rattle.lists.specs.Rows.{rows_of, flat}
use Rattle.lists.proofs.LogicLaws.{and-false, and-pass, or-pass, pass-or, or_assoc, not-then}
use Rattle.lists.proofs.TextLaws.{same_refl, same-equal}
use Rattle.lists.proofs.PartLaws.{part-cons}
use Rattle.lists.proofs.RowLaws.{rows_of-step, rows_of-start, length-rows_of, rows_of-append, flat-rows_of, row-at}
use Rattle.lists.proofs.WideLaws.{wide-rows_of, rows_of-flat}
use Rattle.passage.specs.Layout.{text_wide}
use Rattle.register.specs.Register.{pair_wide, most_pairs, pairs, has_pair, grants, register_sound}

-- a lent part of n bytes
pub lent-part : (a e n : ℕ) (l : List ℕ) → e - a ≡ n → take (e - a) (drop a l) ≡ part a n l
unfolding part
lent-part a e n l h = rw h

-- ---- one pair: its sender, then its owner

module _ (pair : List ℕ) (sender : ℕ) (owner : List ℕ) (long : 0 < length pair) where
  pub pair-other : (get_or pair 0 0 ≡ sender → ⊥) → same pair (sender ∷ owner) ≡ false
  unfolding same
  pair-other h = rw (drop-cons pair 0 0 long, ne_eqb (get_or pair 0 0) sender h)

  pub pair_same : get_or pair 0 0 ≡ sender → same pair (sender ∷ owner) ≡ same (drop 1 pair) owner
  unfolding same
  pair_same e = rw (drop-cons pair 0 0 long, eq-eqb (get_or pair 0 0) sender e)

-- ---- all pairs

module _ (register : List ℕ) (sender : ℕ) (owner : List ℕ) where
  pub grants-desk : sender ≡ 0 → grants register sender owner ≡ false
  unfolding grants
  grants-desk e = rw (eq-eqb sender 0 e)

  pub grants-is : (sender ≡ 0 → ⊥) → grants register sender owner ≡ has_pair (pairs register) sender owner
  unfolding grants
  grants-is h = rw (ne_eqb sender 0 h)

pub grants-none : (sender : ℕ) (owner : List ℕ) → grants [] sender owner ≡ false
unfolding grants has_pair rows_of
grants-none sender owner = and-false (not (eqb sender 0))

-- ---- a sender is registered exactly where some pair says so

module _ (sender : ℕ) (owner : List ℕ) where
  among-has : (ps : List (List ℕ)) (i : ℕ) → i < length ps → get_or ps i [] ≡ sender ∷ owner → has_pair ps sender owner ≡ true
  unfolding has_pair
  among-has [] i h e = absurd (not-suc-le-zero h)
  among-has (p ∷ ps) zero h e = rw e (pass-or (same (sender ∷ owner) (sender ∷ owner)) (has_pair ps sender owner) (inl (same_refl (sender ∷ owner))))
  among-has (p ∷ ps) (suc i) h e = pass-or (same p (sender ∷ owner)) (has_pair ps sender owner) (inr (among-has ps i (le_of_suc-le-suc h) e))

  among-at : (ps : List (List ℕ)) → has_pair ps sender owner ≡ true → (i : ℕ) × (i < length ps) × (get_or ps i [] ≡ sender ∷ owner)
  unfolding has_pair
  among-at [] e = absurd (let z : ◌≡◌ {A = ℕ} 0 1 = cc in omega arith)
  among-at (p ∷ ps) e =
      ⊎_elim
      (λ s. (0, omega arith, same-equal p (sender ∷ owner) s))
      (λ s. let r = among-at ps s in (suc r.0, suc-le-suc r.1, r.2))
      (or-pass (same p (sender ∷ owner)) (has_pair ps sender owner) e)

  among-append : (ps qs : List (List ℕ)) → has_pair (ps ++ qs) sender owner ≡ (has_pair ps sender owner || has_pair qs sender owner)
  unfolding has_pair
  among-append [] qs = refl
  among-append (p ∷ ps) qs = rw (among-append ps qs) (sym (or_assoc (same p (sender ∷ owner)) (has_pair ps sender owner) (has_pair qs sender owner)))

  among-skip : (ps : List (List ℕ)) (p : List ℕ) (qs : List (List ℕ)) → same p (sender ∷ owner) ≡ false → has_pair (ps ++ (p ∷ qs)) sender owner ≡ has_pair (ps ++ qs) sender owner
  unfolding has_pair
  among-skip ps p qs e = rw (among-append ps (p ∷ qs), among-append ps qs, e)

module _ (register : List ℕ) (sender : ℕ) (owner : List ℕ) where
  abbrev Has : Type 0
  Has = (i : ℕ) × (i < length register / pair_wide) × (part (i * pair_wide) pair_wide register ≡ sender ∷ owner)

  pub grants-has : grants register sender owner ≡ true → (sender ≡ 0 → ⊥) × Has
  unfolding grants
  grants-has e =
      let p = and-pass (not (eqb sender 0)) (has_pair (pairs register) sender owner) e in
      let n = length register / pair_wide in
      let a = among-at sender owner (pairs register) p.1 in
      let h : a.0 < n = rw (length-rows_of pair_wide n register) at a.1 in
      (eqb-false sender 0 (not-true (eqb sender 0) p.0), (a.0, h, sym (row-at pair_wide n a.0 register h) ∙ a.2))

  pub has-grants : (sender ≡ 0 → ⊥) → Has → grants register sender owner ≡ true
  has-grants h p =
      let n = length register / pair_wide in
      grants-is register sender owner h
      ∙ among-has sender owner (pairs register) p.0 (rw (length-rows_of pair_wide n register) p.1) (row-at pair_wide n p.0 register p.1 ∙ p.2)

  -- what a walk over the pairs tells: that one is of this sender and owner, or that none is
  pub granted : (b : Bool) → (sender ≡ 0 → ⊥) → MatchBool b Has ((i : ℕ) → i < length register / pair_wide → same (part (i * pair_wide) pair_wide register) (sender ∷ owner) ≡ false)
      → b ≡ grants register sender owner
  granted true n h = sym (has-grants n h)
  granted false n h = sym (not-then (grants register sender owner) false (λ e. let p = (grants-has e).1 in sym (h p.0 p.1) ∙ rw p.2 (same_refl (sender ∷ owner))) refl)

-- ---- a pair of the desk changes nothing, wherever it stands

-- the first rows do not see what stands behind them
rows_of-front : (w n : ℕ) (t u : List ℕ) → length t ≡ n * w → rows_of w n (t ++ u) ≡ rows_of w n t
rows_of-front w n t u e =
    let h : n * w ≤ length t = omega arith in
    let f : flat (rows_of w n t) ≡ t = flat-rows_of w n t ∙ take_all (n * w) t (omega arith) in
    rw (length-rows_of w n t, f) at (rows_of-flat w (rows_of w n t) u (wide-rows_of w n t h))

module _ (front rest : List ℕ) (k : ℕ) (whole : length front ≡ k * pair_wide) where
  abbrev m : ℕ
  m = length rest / pair_wide

  pairs-without : pairs (front ++ rest) ≡ rows_of pair_wide k front ++ rows_of pair_wide m rest
  pairs-without =
      let n : length (front ++ rest) / pair_wide ≡ k + m = omega (arith, length-append front rest) in
      rw (n, rows_of-append pair_wide k m (front ++ rest), rows_of-front pair_wide k front rest whole, drop_at front rest (k * pair_wide) whole)

  pairs-with : (pair : List ℕ) → length pair ≡ pair_wide → pairs (front ++ (pair ++ rest)) ≡ rows_of pair_wide k front ++ (pair ∷ rows_of pair_wide m rest)
  unfolding rows_of
  pairs-with pair e =
      let n : length (front ++ (pair ++ rest)) / pair_wide ≡ k + suc m = omega (arith, length-append front (pair ++ rest), length-append pair rest) in
      rw (
        n,
        rows_of-append pair_wide k (suc m) (front ++ (pair ++ rest)),
        rows_of-front pair_wide k front (pair ++ rest) whole,
        drop_at front (pair ++ rest) (k * pair_wide) whole,
        take_at pair rest pair_wide e,
        drop_at pair rest pair_wide e,
      )

  pub desk-pair : (owner : List ℕ) → length owner ≡ text_wide → (sender : ℕ) (o : List ℕ)
      → grants (front ++ (0 ∷ owner ++ rest)) sender o ≡ grants (front ++ rest) sender o
  unfolding grants has_pair same
  desk-pair owner e sender o = go (eqb sender 0) refl
    where
      go : (z : Bool) → eqb sender 0 ≡ z → grants (front ++ (0 ∷ owner ++ rest)) sender o ≡ grants (front ++ rest) sender o
      go true h = rw h
      go false h =
          let d : same (0 ∷ owner) (sender ∷ o) ≡ false = rw (ne_eqb 0 sender (λ z. eqb-false sender 0 h (sym z))) in
          rw (h, pairs-with (0 ∷ owner) (ap suc e), pairs-without) (among-skip sender o (rows_of pair_wide k front) (0 ∷ owner) (rows_of pair_wide m rest) d)

-- ---- soundness is a matter of the length

module _ (register : List ℕ) where
  pub sound-length : register_sound register ≡ true → (k : ℕ) × (length register ≡ k * 11) × (length register ≤ 704)
  unfolding register_sound
  sound-length e =
      let p = and-pass (eqb (length register % pair_wide) 0) (leb (length register) (most_pairs * pair_wide)) e in
      let m : length register % 11 ≡ 0 = eqb-true _ _ p.0 in
      let l : length register ≤ 704 = leb-true _ _ p.1 in
      (length register / 11, omega arith, l)

  pub length-sound : (k : ℕ) → length register ≡ k * 11 → length register ≤ 704 → register_sound register ≡ true
  unfolding register_sound
  length-sound k e l =
      let m : length register % 11 ≡ 0 = omega arith in
      rw (eq-eqb (length register % pair_wide) 0 m) (le-leb (length register) (most_pairs * pair_wide) l)
