-- A plan passage joins exactly where a pass time and a validity that match give it, and as often. Assumes nothing.
use Prim.Native.Nat.{ℕ, ◌+◌}
use native.Mathlib.Omega.{arith}
use mathlib.Core.Path.{◌≡◌, refl, ap, ◌∙◌}
use mathlib.Core.Bool.{Bool, true, false, ◌&&◌}
use mathlib.Core.List.{List, [], ◌∷◌, ◌++◌}
use mathlib.Core.Logic.{◌⊎◌, inl, inr, ⊎_elim, ◌↔◌}
use Rattle.lists.specs.Logic.{on}
use Rattle.plan.specs.Passes.{plan_body}
use Rattle.plan.specs.Rules.{matches, joined_with, joined}
use Rattle.plan.specs.Claims.{Some, tally, tally_pairs}

module _ (P : List ℕ → Type 0) where
  some-front : (xs ys : List (List ℕ)) → Some P xs → Some P (xs ++ ys)
  some-front [] ys s = absurd s
  some-front (x ∷ xs) ys s = ⊎_elim inl (λ r. inr (some-front xs ys r)) s

  some_back : (xs ys : List (List ℕ)) → Some P ys → Some P (xs ++ ys)
  some_back [] ys s = s
  some_back (x ∷ xs) ys s = inr (some_back xs ys s)

  some-split : (xs ys : List (List ℕ)) → Some P (xs ++ ys) → Some P xs ⊎ Some P ys
  some-split [] ys s = inr s
  some-split (x ∷ xs) ys s = ⊎_elim (λ e. inl (inl e)) (λ r. ⊎_elim (λ q. inl (inr q)) inr (some-split xs ys r)) s

module _ (b : List ℕ) where
  abbrev Is : List ℕ → Type 0
  Is x = x ≡ b

  -- the validity v gives b with the pass time p
  abbrev Gives : List ℕ → List ℕ → Type 0
  Gives p v = (matches p v ≡ true) × (plan_body p v ≡ b)

  with-given : (p : List ℕ) (vs : List (List ℕ)) → Some Is (joined_with p vs) → Some (Gives p) vs
  unfolding joined_with
  with-given p [] s = absurd s
  with-given p (v ∷ vs) s = go (matches p v) refl s (with-given p vs)
    where
      go : (t : Bool) → matches p v ≡ t → Some Is (on t (plan_body p v ∷ joined_with p vs) (joined_with p vs)) → (Some Is (joined_with p vs) → Some (Gives p) vs) → Gives p v ⊎ Some (Gives p) vs
      go true e q ih = ⊎_elim (λ i. inl (e, i)) (λ r. inr (ih r)) q
      go false e q ih = inr (ih q)

  given-with : (p : List ℕ) (vs : List (List ℕ)) → Some (Gives p) vs → Some Is (joined_with p vs)
  unfolding joined_with
  given-with p [] s = absurd s
  given-with p (v ∷ vs) s = ⊎_elim (λ g. rw g.0 (inl g.1)) (λ r. go (matches p v) (given-with p vs r)) s
    where
      go : (t : Bool) → Some Is (joined_with p vs) → Some Is (on t (plan_body p v ∷ joined_with p vs) (joined_with p vs))
      go true q = inr q
      go false q = q

  joined-given : (ps vs : List (List ℕ)) → Some Is (joined ps vs) → Some (λ (p : List ℕ). Some (Gives p) vs) ps
  unfolding joined
  joined-given [] vs s = absurd s
  joined-given (p ∷ ps) vs s = ⊎_elim (λ q. inl (with-given p vs q)) (λ r. inr (joined-given ps vs r)) (some-split Is (joined_with p vs) (joined ps vs) s)

  given-joined : (ps vs : List (List ℕ)) → Some (λ (p : List ℕ). Some (Gives p) vs) ps → Some Is (joined ps vs)
  unfolding joined
  given-joined [] vs s = absurd s
  given-joined (p ∷ ps) vs s = ⊎_elim (λ q. some-front Is (joined_with p vs) (joined ps vs) (given-with p vs q)) (λ r. some_back Is (joined_with p vs) (joined ps vs) (given-joined ps vs r)) s

pub joined-exactly : (ps vs : List (List ℕ)) (b : List ℕ) → Some (λ (x : List ℕ). x ≡ b) (joined ps vs) ↔ Some (λ (p : List ℕ). Some (λ (v : List ℕ). (matches p v ≡ true) × (plan_body p v ≡ b)) vs) ps
joined-exactly ps vs b = (joined-given b ps vs, given-joined b ps vs)

-- ---- how many join

module _ (kind : List ℕ → Bool) where
  tally-append : (xs ys : List (List ℕ)) → tally kind (xs ++ ys) ≡ tally kind xs + tally kind ys
  tally-append [] ys = omega arith
  tally-append (x ∷ xs) ys = let e = tally-append xs ys in omega arith

  -- a pair that matches and gives one of that kind
  abbrev giving : List ℕ → List ℕ → Bool
  giving p v = matches p v && kind (plan_body p v)

  with-counted : (p : List ℕ) (vs : List (List ℕ)) → tally kind (joined_with p vs) ≡ tally (giving p) vs
  unfolding joined_with
  with-counted p [] = refl
  with-counted p (v ∷ vs) = go (matches p v) (with-counted p vs)
    where
      go : (t : Bool) → tally kind (joined_with p vs) ≡ tally (giving p) vs → tally kind (on t (plan_body p v ∷ joined_with p vs) (joined_with p vs)) ≡ on (t && kind (plan_body p v)) 1 0 + tally (giving p) vs
      go true e = ap (λ (n : ℕ). on (kind (plan_body p v)) 1 0 + n) e
      go false e = omega arith

  pub joined-counted : (ps vs : List (List ℕ)) → tally kind (joined ps vs) ≡ tally_pairs giving ps vs
  unfolding joined
  joined-counted [] vs = refl
  joined-counted (p ∷ ps) vs =
      tally-append (joined_with p vs) (joined ps vs) ∙ ap (λ (n : ℕ). n + tally kind (joined ps vs)) (with-counted p vs) ∙ ap (λ (n : ℕ). tally (giving p) vs + n) (joined-counted ps vs)
