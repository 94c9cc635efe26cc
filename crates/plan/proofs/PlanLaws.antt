-- All pass times, one by one. Assumes nothing.
use Prim.Native.Nat.{ℕ, ◌+◌, ◌*◌, ◌-◌, ◌≤◌, ◌<◌}
use native.Mathlib.Omega.{arith}
use native.Mathlib.Decide.{dec_le}
use mathlib.Core.Path.{◌≡◌, refl, sym, ap, ◌∙◌}
use mathlib.Core.List.{List, [], ◌∷◌, ◌++◌, append-nil, append_assoc}
use lib.ListN.{length, take, drop, length-append, take-append-drop}
use lib.Seq.{take_all, take-append-le, take-append-add, length-take-le}
use Rattle.lists.specs.Part.{part, over}
use Rattle.lists.specs.Rows.{rows_of, flat, Wide}
use Rattle.lists.proofs.EachLaws.{each_append}
use Rattle.lists.proofs.OverLaws.{over-nil, over-then}
use Rattle.lists.proofs.RowLaws.{rows_of-append, flat_append, take-rows_of}
use Rattle.lists.proofs.WideLaws.{length-flat, wide-rows_of}
use Rattle.passage.specs.Layout.{body_wide}
use Rattle.reader.specs.Passes.{pass_wide, validity_wide}
use Rattle.plan.specs.Rules.{joined_with, joined}
use Rattle.plan.proofs.MatchLaws.{wide-joined}

joined-append : (xs ys vs : List (List ℕ)) → joined (xs ++ ys) vs ≡ joined xs vs ++ joined ys vs
unfolding joined
joined-append [] ys vs = refl
joined-append (x ∷ xs) ys vs = ap (λ (l : List (List ℕ)). joined_with x vs ++ l) (joined-append xs ys vs) ∙ sym (append_assoc (joined_with x vs) (joined xs vs) (joined ys vs))

-- every plan passage is as wide as a body
pub wide-all : (ps vs : List (List ℕ)) → Wide pass_wide ps → Wide validity_wide vs → Wide body_wide (joined ps vs)
unfolding joined
wide-all [] vs h k = tt
wide-all (p ∷ ps) vs h k = each_append (λ (b : List ℕ). length b ≡ body_wide) (joined_with p vs) (joined ps vs) (wide-joined p h.0 vs k) (wide-all ps vs h.1 k)

-- n elements and one more are taken, or there are no more than n
more-or-all : (n : ℕ) (l : List (List ℕ)) → Dec (length l ≤ n) → length (take (n + 1) l) ≤ n → length l ≤ n
more-or-all n l (yes h) e = h
more-or-all n l (no h) e = let t = length-take-le (n + 1) l (omega (arith, h)) in absurd (omega arith)

module _ (ps vs : List ℕ) (np nv most : ℕ) (out₀ : List ℕ) where
  abbrev validities : List (List ℕ)
  validities = rows_of validity_wide nv vs

  -- what joins of the first i pass times
  abbrev so_far : ℕ → List (List ℕ)
  so_far i = joined (rows_of pass_wide i ps) validities

  -- the first i pass times are done: k plan passages, no more than may be, and they are written
  pub record Planned (out : List ℕ) (k i : ℕ) : Type 0 where
    pub within : i ≤ np
    pub few : k ≤ most
    pub count : k ≡ length (so_far i)
    pub laid : out ≡ over 0 (flat (so_far i)) out₀

  abbrev Told : ℕ → List ℕ → Type 0
  Told r out = (r ≡ length (take (most + 1) (so_far np))) × (out ≡ over 0 (flat (take most (so_far np))) out₀)

  pub plan-start : Planned out₀ 0 0
  unfolding rows_of joined flat
  plan-start = record { within = omega arith; few = omega arith; count = refl; laid = sym (over-nil 0 out₀) }

  pub plan-end : (out : List ℕ) (k i : ℕ) → Planned out k i → np ≤ i → Told k out
  plan-end out k i g l =
      let e : i ≡ np = let w = g.within in omega arith in
      let c : k ≡ length (so_far np) = g.count ∙ ap (λ (n : ℕ). length (so_far n)) e in
      let f = g.few in
      (rw (take_all (most + 1) (so_far np) (omega arith)) c, rw (take_all most (so_far np) (omega arith), ← e) g.laid)

  module _ (hp : np * pass_wide ≤ length ps) (hv : nv * validity_wide ≤ length vs) (out : List ℕ) (k i : ℕ) (g : Planned out k i) (l : i < np) where
    abbrev found : List (List ℕ)
    found = joined_with (part (i * pass_wide) pass_wide ps) validities

    one_more : so_far (i + 1) ≡ so_far i ++ found
    unfolding rows_of joined part
    one_more =
        ap (λ (rs : List (List ℕ)). joined rs validities) (rows_of-append pass_wide i 1 ps) ∙ joined-append (rows_of pass_wide i ps) (rows_of pass_wide 1 (drop (i * pass_wide) ps)) validities
        ∙ ap (λ (rs : List (List ℕ)). so_far i ++ rs) (append-nil found)

    abbrev later : List (List ℕ)
    later = joined (drop (i + 1) (rows_of pass_wide np ps)) validities

    whole : so_far np ≡ (so_far i ++ found) ++ later
    whole =
        let r = rows_of pass_wide np ps in
        ap (λ (rs : List (List ℕ)). joined rs validities) (sym (take-append-drop (i + 1) r) ∙ ap (λ (rs : List (List ℕ)). rs ++ drop (i + 1) r) (take-rows_of pass_wide np (i + 1) ps (omega arith)))
        ∙ joined-append (rows_of pass_wide (i + 1) ps) (drop (i + 1) r) validities
        ∙ ap (λ (rs : List (List ℕ)). rs ++ later) one_more

    -- what is written behind the passages so far
    laid_more : (xs : List (List ℕ)) (out' : List ℕ) → out' ≡ over (k * body_wide) (flat xs) out → out' ≡ over 0 (flat (so_far i ++ xs)) out₀
    laid_more xs out' o =
        let w : Wide body_wide (so_far i) = wide-all (rows_of pass_wide i ps) validities (wide-rows_of pass_wide i ps (omega arith)) (wide-rows_of validity_wide nv vs hv) in
        let e : k * body_wide ≡ 0 + length (flat (so_far i)) = omega (arith, g.count, length-flat body_wide (so_far i) w) in
        o ∙ ap (λ (n : ℕ). over n (flat xs) out) e ∙ ap (over (0 + length (flat (so_far i))) (flat xs)) g.laid ∙ over-then 0 (flat (so_far i)) (flat xs) out₀
        ∙ ap (λ (x : List ℕ). over 0 x out₀) (sym (flat_append (so_far i) xs))

    module _ (k' : ℕ) (out' : List ℕ) (c : k' ≡ k + length (take (most + 1 - k) found)) (o : out' ≡ over (k * body_wide) (flat (take (most - k) found)) out) where
      count' : k' ≡ k + length (take (most - k + 1) found)
      count' = let f = g.few in let e : most + 1 - k ≡ most - k + 1 = omega arith in c ∙ ap (λ (n : ℕ). k + length (take n found)) e

      pub plan-turn : k' ≤ most → Planned out' k' (i + 1)
      plan-turn b =
          let f = g.few in
          let a : length found ≤ most - k = more-or-all (most - k) found (dec_le (length found) (most - k)) (let z = count' in omega arith) in
          let t : take (most + 1 - k) found ≡ found = take_all (most + 1 - k) found (omega arith) in
          record {
            within = omega arith;
            few = b;
            count = c ∙ ap (λ (xs : List (List ℕ)). k + length xs) t ∙ ap (λ (n : ℕ). n + length found) g.count ∙ sym (length-append (so_far i) found) ∙ ap length (sym one_more);
            laid = rw one_more (laid_more found out' (o ∙ ap (λ (xs : List (List ℕ)). over (k * body_wide) (flat xs) out) (take_all (most - k) found a)));
          }

      pub plan-full : most < k' → Told k' out'
      plan-full b =
          let f = g.few in
          let d = g.count in
          let n = length (so_far i) in
          let a : most - k < length found = long in
          let s = length-append (so_far i) found in
          let x : most + 1 ≡ n + (most + 1 - k) = omega arith in
          let y : most ≡ n + (most - k) = omega arith in
          let p : take (most + 1) (so_far np) ≡ so_far i ++ take (most + 1 - k) found =
          ap (take (most + 1)) whole ∙ take-append-le (most + 1) (so_far i ++ found) later (omega arith) ∙ ap (λ (m : ℕ). take m (so_far i ++ found)) x ∙ take-append-add (so_far i) found (most + 1 - k) in
          let q : take most (so_far np) ≡ so_far i ++ take (most - k) found =
          ap (take most) whole ∙ take-append-le most (so_far i ++ found) later (omega arith) ∙ ap (λ (m : ℕ). take m (so_far i ++ found)) y ∙ take-append-add (so_far i) found (most - k) in
          (c ∙ ap (λ (m : ℕ). m + length (take (most + 1 - k) found)) d ∙ sym (length-append (so_far i) (take (most + 1 - k) found)) ∙ ap length (sym p), rw q (laid_more (take (most - k) found) out' o))
        where
          long : most - k < length found
          long = go (dec_le (length found) (most - k))
            where
              go : Dec (length found ≤ most - k) → most - k < length found
              go (yes h) =
                  let f = g.few in
                  let t : length (take (most - k + 1) found) ≡ length found = ap length (take_all (most - k + 1) found (omega arith)) in
                  let z = count' in
                  absurd (omega arith)
              go (no h) = omega (arith, h)
