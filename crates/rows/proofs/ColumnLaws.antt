-- Laws of what is given column by column, of the first wrong column, and of a row's bytes by its cells. Assumes nothing.
use mathlib.Core.Path.{◌≡◌, refl, sym, ap, ◌∙◌}
use mathlib.Core.Bool.{Bool, true, false}
use mathlib.Core.List.{List, [], ◌∷◌, ◌++◌, append_assoc}
use mathlib.Core.Logic.{◌⊎◌, inl, inr, ⊎_elim}
use Prim.Native.Nat.{ℕ, zero, suc, ◌+◌, ◌≤◌, ◌<◌}
use native.Mathlib.Omega.{arith}
use borrow.Author.Tests.{eq-eqb, ne_eqb, lt-ltb, le-ltb, ltb-true, ltb-false}
use lib.Dec.{eqb, ltb}
use lib.ListN.{length, get_or, set}
use Rattle.lists.specs.Logic.{on}
use Rattle.lists.specs.Rows.{flat}
use Rattle.lists.specs.Part.{onto, over, some}
use Rattle.columns.specs.Tables.{Column, lesser}
use Rattle.columns.specs.Layout.{total}
use Rattle.columns.proofs.PartLaws.{begins, Fit}
use Rattle.rows.specs.Reading.{per_column, first_wrong}

module _ (f : Column → ℕ → List ℕ) where
  pub per-length : (cs : List Column) (ps : List ℕ) → length cs ≤ length ps → length (per_column f cs ps) ≡ length cs
  unfolding per_column
  per-length [] ps h = refl
  per-length (c ∷ cs) [] h = absurd (omega arith)
  per-length (c ∷ cs) (p ∷ ps) h = ap suc (per-length cs ps (omega arith))

  pub per-at : (cs : List Column) (ps : List ℕ) (d : Column) (k : ℕ) → length cs ≤ length ps → k < length cs → get_or (per_column f cs ps) k [] ≡ f (get_or cs k d) (get_or ps k 0)
  unfolding per_column
  per-at [] ps d k h m = absurd (omega arith)
  per-at (c ∷ cs) [] d k h m = absurd (omega arith)
  per-at (c ∷ cs) (p ∷ ps) d zero h m = refl
  per-at (c ∷ cs) (p ∷ ps) d (suc k) h m = per-at cs ps d k (omega arith) (omega arith)

-- ---- the first wrong column

-- cell j is wrong, and every wrong one stands behind it
abbrev pub IsFirst : List (List ℕ) → List ℕ → ℕ → Type 0
IsFirst xs ps j =
    (j < length xs)
    × (some (get_or xs j []) ≡ false)
    × ((k : ℕ) → k < length xs → some (get_or xs k []) ≡ false → get_or ps j 0 ≤ get_or ps k 0)

abbrev pub AllRight : List (List ℕ) → Type 0
AllRight xs = (k : ℕ) → k < length xs → some (get_or xs k []) ≡ true

-- all cells are right and it is 0, or it is the first wrong one's
abbrev pub WrongIs : List (List ℕ) → List ℕ → ℕ → Type 0
WrongIs xs ps w = ((w ≡ 0) × AllRight xs) ⊎ ((j : ℕ) × (w ≡ get_or ps j 0 + 1) × IsFirst xs ps j)

not-both : (t : Bool) → t ≡ true → t ≡ false → ⊥
not-both t e f = let z : ◌≡◌ {A = ℕ} 0 1 = cc in omega arith

module _ (x : List ℕ) (xs : List (List ℕ)) (p : ℕ) (ps : List ℕ) (w : ℕ) where
  wrong-right : some x ≡ true → WrongIs xs ps w → WrongIs (x ∷ xs) (p ∷ ps) w
  wrong-right e (inl (z, a)) = inl (z, λ k h. go k h)
    where
      go : (k : ℕ) → k < suc (length xs) → some (get_or (x ∷ xs) k []) ≡ true
      go zero h = e
      go (suc k) h = a k (omega arith)
  wrong-right e (inr (j, z, (m, a, b))) = inr (suc j, z, (omega arith, a, λ k h q. go k h q))
    where
      go : (k : ℕ) → k < suc (length xs) → some (get_or (x ∷ xs) k []) ≡ false → get_or ps j 0 ≤ get_or (p ∷ ps) k 0
      go zero h q = absurd (not-both _ e q)
      go (suc k) h q = b k (omega arith) q

  wrong-here : some x ≡ false → WrongIs xs ps w → WrongIs (x ∷ xs) (p ∷ ps) (lesser (p + 1) w)
  wrong-here e (inl (z, a)) = rw z (inr (0, refl, (omega arith, e, λ k h q. go k h q)))
    where
      go : (k : ℕ) → k < suc (length xs) → some (get_or (x ∷ xs) k []) ≡ false → p ≤ get_or (p ∷ ps) k 0
      go zero h q = omega arith
      go (suc k) h q = absurd (not-both _ (a k (omega arith)) q)
  wrong-here e (inr (j, z, (m, a, b))) = go (ltb (p + 1) w) refl
    where
      first : p + 1 < w → (k : ℕ) → k < suc (length xs) → some (get_or (x ∷ xs) k []) ≡ false → p ≤ get_or (p ∷ ps) k 0
      first l zero h q = omega arith
      first l (suc k) h q = let r = b k (omega arith) q in omega arith

      later : w ≤ p + 1 → (k : ℕ) → k < suc (length xs) → some (get_or (x ∷ xs) k []) ≡ false → get_or ps j 0 ≤ get_or (p ∷ ps) k 0
      later l zero h q = omega arith
      later l (suc k) h q = b k (omega arith) q

      n : eqb w 0 ≡ false
      n = ne_eqb w 0 (λ q. omega arith)

      go : (t : Bool) → ltb (p + 1) w ≡ t → WrongIs (x ∷ xs) (p ∷ ps) (lesser (p + 1) w)
      go true t = rw (n, t) (inr (0, refl, (omega arith, e, first (ltb-true _ _ t))))
      go false t = rw (n, t) (inr (suc j, z, (omega arith, a, later (ltb-false _ _ t))))

pub wrong-is : (xs : List (List ℕ)) (ps : List ℕ) → length xs ≤ length ps → WrongIs xs ps (first_wrong xs ps)
unfolding first_wrong
wrong-is [] ps h = inl (refl, λ k m. absurd (omega arith))
wrong-is (x ∷ xs) [] h = absurd (omega arith)
wrong-is (x ∷ xs) (p ∷ ps) h = go (some x) refl (wrong-is xs ps (omega arith))
  where
    go : (t : Bool) → some x ≡ t → WrongIs xs ps (first_wrong xs ps) → WrongIs (x ∷ xs) (p ∷ ps) (on t (first_wrong xs ps) (lesser (p + 1) (first_wrong xs ps)))
    go true e r = wrong-right x xs p ps (first_wrong xs ps) e r
    go false e r = wrong-here x xs p ps (first_wrong xs ps) e r

module _ (xs : List (List ℕ)) (ps : List ℕ) (h : length xs ≤ length ps) where
  pub wrong-none : AllRight xs → first_wrong xs ps ≡ 0
  wrong-none a = ⊎_elim (λ r. r.0) (λ r. absurd (not-both _ (a r.0 r.2.0) r.2.1)) (wrong-is xs ps h)

  pub wrong_first : (j : ℕ) → IsFirst xs ps j → first_wrong xs ps ≡ get_or ps j 0 + 1
  wrong_first j (m, a, b) =
      ⊎_elim
      (λ r. absurd (not-both _ (r.1 j m) a))
      (λ r. let x = b r.0 r.2.0 r.2.1 in let y = r.2.2 j m a in let z = r.1 in omega arith)
      (wrong-is xs ps h)

-- ---- a row's bytes by its cells

over-behind : (x y v : List ℕ) (m : ℕ) → over (length x + m) v (x ++ y) ≡ x ++ over m v y
unfolding over
over-behind [] y v m = let e : 0 + m ≡ m = omega arith in rw e
over-behind (b ∷ x) y v m = let e : suc (length x) + m ≡ suc (length x + m) = omega arith in rw e (ap (λ (l : List ℕ). b ∷ l) (over-behind x y v m))

over-same : (x y v : List ℕ) → length v ≡ length x → over 0 v (x ++ y) ≡ v ++ y
unfolding over onto
over-same [] y [] e = refl
over-same [] y (c ∷ v) e = absurd (omega arith)
over-same (b ∷ x) y [] e = absurd (omega arith)
over-same (b ∷ x) y (c ∷ v) e = ap (λ (l : List ℕ). c ∷ l) (over-same x y v (omega arith))

-- a cell written over one as long, in a row of cells of the widths ws
pub flat-set :
    (ws : List ℕ) (xs : List (List ℕ)) (z : List ℕ) (j : ℕ) (v : List ℕ) → Fit ws xs → j < length ws → length v ≡ get_or ws j 0
    → over (begins ws j) v (flat xs ++ z) ≡ flat (set xs j v) ++ z
unfolding flat total
flat-set [] [] z j v f h e = absurd (omega arith)
flat-set [] (x ∷ xs) z j v f h e = absurd f
flat-set (w ∷ ws) [] z j v f h e = absurd f
flat-set (w ∷ ws) (x ∷ xs) z zero v f h e =
    let l : length v ≡ length x = e ∙ sym f.0 in
    rw (append_assoc x (flat xs) z, append_assoc v (flat xs) z) (over-same x (flat xs ++ z) v l)
flat-set (w ∷ ws) (x ∷ xs) z (suc j) v f h e =
    rw (append_assoc x (flat xs) z, append_assoc x (flat (set xs j v)) z, ← f.0)
    (over-behind x (flat xs ++ z) v (begins ws j) ∙ ap (λ (l : List ℕ). x ++ l) (flat-set ws xs z j v f.1 (omega arith) e))

-- cells that each have their width
pub fit-each : (ws : List ℕ) (xs : List (List ℕ)) → length xs ≡ length ws → ((k : ℕ) → k < length ws → length (get_or xs k []) ≡ get_or ws k 0) → Fit ws xs
fit-each [] [] e h = tt
fit-each [] (x ∷ xs) e h = absurd (omega arith)
fit-each (w ∷ ws) [] e h = absurd (omega arith)
fit-each (w ∷ ws) (x ∷ xs) e h = (h 0 (omega arith), fit-each ws xs (omega arith) (λ k m. h (suc k) (omega arith)))
