-- One pass time against all validities, match by match. Assumes nothing.
use Prim.Native.Nat.{ℕ, ◌+◌, ◌*◌, ◌-◌, ◌≤◌, ◌<◌}
use native.Mathlib.Omega.{arith}
use native.Mathlib.Numerals.{add-one}
use mathlib.Core.Path.{◌≡◌, refl, sym, ap, ◌∙◌}
use mathlib.Core.Bool.{true}
use mathlib.Core.List.{List, [], ◌∷◌, ◌++◌, append-nil, append_assoc}
use lib.ListN.{length, take, drop, get_or, length-append, length-drop, drop_of_length-le}
use lib.Seq.{take_all, take_at, take-append-add, drop-drop, drop-cons, get_or-drop}
use Rattle.lists.specs.Part.{part, over}
use Rattle.lists.specs.Rows.{rows_of, flat, Wide}
use Rattle.lists.proofs.EachLaws.{each_append, each-drop}
use Rattle.lists.proofs.OverLaws.{over-nil, over-then}
use Rattle.lists.proofs.PartLaws.{length_part}
use Rattle.lists.proofs.RowLaws.{length-rows_of, flat_append, row-at, drop-rows_of, window}
use Rattle.lists.proofs.WideLaws.{length-flat, wide-rows_of}
use Rattle.passage.specs.Layout.{body_wide}
use Rattle.reader.specs.Passes.{pass_wide, validity_wide}
use Rattle.plan.specs.Passes.{plan_body}
use Rattle.plan.proofs.BodyLaws.{body-length}
use Rattle.plan.specs.Rules.{matches, joined_with}
use Rattle.plan.proofs.MatchLaws.{first-most, first_matches, first-skips}
use Rattle.plan.specs.inner.Look.{first_with, shared_of}

module _ (p vs : List ℕ) (n : ℕ) where
  -- j is the place of a validity that matches, or n; what joins is what is done and what joins from there on
  pub record Reached (done : List (List ℕ)) (j : ℕ) : Type 0 where
    pub within : j ≤ n
    pub all : joined_with p (rows_of validity_wide n vs) ≡ done ++ joined_with p (drop j (rows_of validity_wide n vs))
    pub next : j < n → matches p (get_or (rows_of validity_wide n vs) j []) ≡ true

  -- k plan passages were there, and m are there now: those of the matches before place j are written behind the k
  pub record Joining (k most : ℕ) (out₀ out : List ℕ) (m j : ℕ) : Type 0 where
    pub done : List (List ℕ)
    pub reached : Reached done j
    pub wide : Wide body_wide done
    pub count : m ≡ k + length done
    pub laid : out ≡ over (k * body_wide) (flat done) out₀
    pub few : m ≤ most

module _ (p vs : List ℕ) (n : ℕ) (h : length p ≡ pass_wide) (room : n * validity_wide ≤ length vs) where
  abbrev rows : List (List ℕ)
  rows = rows_of validity_wide n vs

  -- the first match from place i on
  reach : (done : List (List ℕ)) (i : ℕ) → i ≤ n → joined_with p rows ≡ done ++ joined_with p (drop i rows) → Reached p vs n done (i + first_with (shared_of p) (drop i rows))
  reach done i l e =
      let f = first_with (shared_of p) (drop i rows) in
      let w : Wide validity_wide (drop i rows) = each-drop (λ (r : List ℕ). length r ≡ validity_wide) i rows (wide-rows_of validity_wide n vs room) in
      let k : length (drop i rows) ≡ n - i = length-drop i rows ∙ ap (λ (m : ℕ). m - i) (length-rows_of validity_wide n vs) in
      record {
        within = let b = first-most (shared_of p) (drop i rows) in omega arith;
        all = e ∙ ap (λ (xs : List (List ℕ)). done ++ xs) (first-skips p h (drop i rows) w ∙ ap (joined_with p) (drop-drop f i rows));
        next = λ m. ap (matches p) (sym (get_or-drop i rows f [])) ∙ first_matches p h (drop i rows) w (omega arith);
      }

  reach-as : (done : List (List ℕ)) (i r : ℕ) (s : List ℕ) → s ≡ shared_of p → i ≤ n → r ≡ i + first_with s (window validity_wide i n vs) → joined_with p rows ≡ done ++ joined_with p (drop i rows) → Reached p vs n done r
  reach-as done i r s q l e a = rw (e, q, ← (drop-rows_of validity_wide n i vs l)) (reach done i l a)

  module _ (k most : ℕ) (out₀ : List ℕ) (s : List ℕ) (q : s ≡ shared_of p) where
    pub join-start : (r : ℕ) → k ≤ most → r ≡ 0 + first_with s (window validity_wide 0 n vs) → Joining p vs n k most out₀ out₀ k r
    unfolding flat
    join-start r l e =
        record {
          done = [];
          reached = reach-as [] 0 r s q (omega arith) e refl;
          wide = tt;
          count = omega arith;
          laid = sym (over-nil (k * body_wide) out₀);
          few = l;
        }

    module _ (out : List ℕ) (m j : ℕ) (g : Joining p vs n k most out₀ out m j) where
      abbrev was : List (List ℕ)
      was = g.done

      -- what joins from a match on
      match-next : j < n → joined_with p (drop j rows) ≡ plan_body p (part (j * validity_wide) validity_wide vs) ∷ joined_with p (drop (j + 1) rows)
      unfolding joined_with
      match-next l =
          let e = length-rows_of validity_wide n vs in
          rw (add-one j, drop-cons rows j [] (omega arith), g.reached.next l, row-at validity_wide n j vs l)

      pub join-turn : (out' : List ℕ) (r : ℕ) → j < n → m < most → out' ≡ over (m * body_wide) (plan_body p (part (j * validity_wide) validity_wide vs)) out → r ≡ j + 1 + first_with s (window validity_wide (j + 1) n vs)
          → Joining p vs n k most out₀ out' (m + 1) r
      unfolding flat
      join-turn out' r l f o e =
          let b = plan_body p (part (j * validity_wide) validity_wide vs) in
          let place : m * body_wide ≡ k * body_wide + length (flat was) = omega (arith, g.count, length-flat body_wide was g.wide) in
          record {
            done = was ++ b ∷ [];
            reached =
                reach-as (was ++ b ∷ []) (j + 1) r s q (omega arith) e
                (g.reached.all ∙ ap (λ (xs : List (List ℕ)). was ++ xs) (match-next l) ∙ sym (append_assoc was (b ∷ []) (joined_with p (drop (j + 1) rows))));
            wide = each_append (λ (x : List ℕ). length x ≡ body_wide) was (b ∷ []) g.wide (body-length p (part (j * validity_wide) validity_wide vs) h (length_part (j * validity_wide) validity_wide vs (omega arith)), tt);
            count = omega (arith, g.count, length-append was (b ∷ []));
            laid =
                o ∙ ap (λ (i : ℕ). over i b out) place ∙ ap (over (k * body_wide + length (flat was)) b) g.laid ∙ over-then (k * body_wide) (flat was) b out₀
                ∙ ap (λ (x : List ℕ). over (k * body_wide) x out₀) (ap (λ (x : List ℕ). flat was ++ x) (sym (append-nil b)) ∙ sym (flat_append was (b ∷ [])));
            few = omega arith;
          }

      abbrev Told : ℕ → Type 0
      Told r = (r ≡ k + length (take (most + 1 - k) (joined_with p rows))) × (out ≡ over (k * body_wide) (flat (take (most - k) (joined_with p rows))) out₀)

      -- no match is left
      pub join-end : n ≤ j → Told m
      unfolding joined_with
      join-end l =
          let c = g.count in
          let f = g.few in
          let i : length rows ≤ j = omega (arith, length-rows_of validity_wide n vs) in
          let d : drop j rows ≡ [] = drop_of_length-le rows i in
          let e : joined_with p rows ≡ was = g.reached.all ∙ ap (λ (xs : List (List ℕ)). was ++ joined_with p xs) d ∙ append-nil was in
          (rw (e, take_all (most + 1 - k) was (omega arith)) c, rw (e, take_all (most - k) was (omega arith)) g.laid)

      -- there is a match more than may be
      pub join-full : j < n → m ≡ most → Told (m + 1)
      join-full l f =
          let c = g.count in
          let b = plan_body p (part (j * validity_wide) validity_wide vs) in
          let tail = joined_with p (drop (j + 1) rows) in
          let e : joined_with p rows ≡ was ++ b ∷ tail = g.reached.all ∙ ap (λ (xs : List (List ℕ)). was ++ xs) (match-next l) in
          let i : most + 1 - k ≡ length was + 1 = omega arith in
          let t : take (most + 1 - k) (was ++ b ∷ tail) ≡ was ++ b ∷ [] = rw i (take-append-add was (b ∷ tail) 1) in
          (rw (e, t) (omega (arith, c, length-append was (b ∷ []))), rw (e, take_at was (b ∷ tail) (most - k) (omega arith)) g.laid)
