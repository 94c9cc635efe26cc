-- An update among slots whose keys rise: it changes one of them, or none. Assumes nothing.
use mathlib.Core.Path.{◌≡◌, refl, ap, ◌∙◌}
use mathlib.Core.Bool.{Bool, true, false}
use mathlib.Core.Logic.{inl, inr}
use mathlib.Core.List.{List, [], ◌∷◌, map}
use Prim.Native.Nat.{ℕ}
use native.Mathlib.Omega.{arith}
use lib.ListN.{get_or, set}
use Rattle.lists.specs.Logic.{on}
use Rattle.lists.specs.Text.{same}
use Rattle.lists.proofs.TextLaws.{same-equal, same_refl}
use Rattle.passage.specs.Layout.{key_of}
use Rattle.std.specs.Prelude.{Result, Ok, Err}
use Rattle.std.specs.declared.cmp.Ordering.TheVariants.{Less, Equal}
use Rattle.keys.specs.Keys.{cmp, by_order}
use Rattle.keys.specs.Sorted.{sorted_rows, rises_from, lookup, lookup_from}
use Rattle.keys.proofs.KeyLaws.{cmp-refl, cmp-same, cmp-trans, Cases, cases, less-not-same, more-not-same}
use Rattle.keys.proofs.SortedLaws.{rises-head, rises-tail, sorted_rises, sorted_tail}
use Rattle.keys.proofs.PutLaws.{next, lookup-next}
use Rattle.update.specs.Rule.{row_rule}
use Rattle.sorting.proofs.PlaceLaws.{own-part}
use Rattle.withdrawals_replay.specs.inner.Slots.{slot_key, slot_row}
use Rattle.withdrawals_replay.specs.inner.Worked.{take_in}

-- the slots by where the key is found
abbrev pub take_by : Result ℕ ℕ → List ℕ → List (List ℕ) → List (List ℕ)
take_by (Ok i) u ss = set ss i (1 ∷ row_rule (slot_row (get_or ss i [])) u)
take_by (Err i) u ss = ss

take_next : (f : Result ℕ ℕ) (u s : List ℕ) (ss : List (List ℕ)) → take_by (next f) u (s ∷ ss) ≡ s ∷ take_by f u ss
take_next (Ok i) u s ss = refl
take_next (Err i) u s ss = refl

module _ (u : List ℕ) where
  take-here : (s : List ℕ) → cmp (slot_key s) (key_of u) ≡ Equal → take_in u s ≡ 1 ∷ row_rule (slot_row s) u
  unfolding take_in
  take-here s e = rw (cmp-same (slot_key s) (key_of u) e, same_refl (key_of u))

  take-other : (s : List ℕ) → (cmp (slot_key s) (key_of u) ≡ Equal → ⊥) → take_in u s ≡ s
  unfolding take_in
  take-other s n = go (same (key_of u) (slot_key s)) refl
    where
      go : (t : Bool) → same (key_of u) (slot_key s) ≡ t → on t (1 ∷ row_rule (slot_row s) u) s ≡ s
      go true e = absurd (n (rw (same-equal (key_of u) (slot_key s) e) (cmp-refl (slot_key s))))
      go false e = refl

  -- slots above the key stay
  take-above : (x : List ℕ) (ss : List (List ℕ)) → rises_from x (map slot_key ss) ≡ true → (cmp (key_of x) (key_of u) ≡ Less → ⊥) → map (take_in u) ss ≡ ss
  take-above x [] h n = refl
  take-above x (s ∷ ss) h n =
      let lower : cmp (key_of x) (slot_key s) ≡ Less = rw (own-part 1 s) at (rises-head x (slot_key s) (map slot_key ss) h) in
      let up : cmp (key_of (slot_key s)) (key_of u) ≡ Less → ⊥ = λ e. n (cmp-trans (key_of x) (slot_key s) (key_of u) lower (rw (own-part 1 s) at e)) in
      rw (take-other s (λ e. n (rw (cmp-same (slot_key s) (key_of u) e) at lower)), take-above (slot_key s) ss (rises-tail x (slot_key s) (map slot_key ss) h) up)

  pub take-lookup : (ss : List (List ℕ)) → sorted_rows (map slot_key ss) ≡ true → map (take_in u) ss ≡ take_by (lookup (key_of u) (map slot_key ss)) u ss
  unfolding lookup lookup_from
  take-lookup [] h = refl
  take-lookup (s ∷ ss) h = rw (own-part 1 s) (go (take-lookup ss (sorted_tail (slot_key s) (map slot_key ss) rises)) (cases (cmp (slot_key s) (key_of u))))
    where
      rises : rises_from (slot_key s) (map slot_key ss) ≡ true
      rises = sorted_rises (slot_key s) (map slot_key ss) h

      go : map (take_in u) ss ≡ take_by (lookup_from 0 (key_of u) (map slot_key ss)) u ss
          → Cases (cmp (slot_key s) (key_of u))
          → take_in u s ∷ map (take_in u) ss ≡ take_by (by_order (cmp (slot_key s) (key_of u)) (lookup_from 1 (key_of u) (map slot_key ss)) (Ok 0) (Err 0)) u (s ∷ ss)
      go ih (inl e) =
          rw (e, take-other s (λ f. less-not-same (cmp (slot_key s) (key_of u)) e f), lookup-next 0 (key_of u) (map slot_key ss), take_next (lookup_from 0 (key_of u) (map slot_key ss)) u s ss) (ap (λ (l : List (List ℕ)). s ∷ l) ih)
      go ih (inr (inl e)) = rw (e, take-here s e) (ap (λ (l : List (List ℕ)). (1 ∷ row_rule (slot_row s) u) ∷ l) (take-above (slot_key s) ss rises (λ f. less-not-same (cmp (slot_key s) (key_of u)) (rw (own-part 1 s) at f) e)))
      go ih (inr (inr e)) =
          rw (e, take-other s (λ f. more-not-same (cmp (slot_key s) (key_of u)) e f))
          (ap (λ (l : List (List ℕ)). s ∷ l) (take-above (slot_key s) ss rises (λ f. let z : ◌≡◌ {A = ℕ} 0 1 = cc (rw (own-part 1 s) at f) in omega arith)))

  pub take_found : (ss : List (List ℕ)) (f : Result ℕ ℕ) → sorted_rows (map slot_key ss) ≡ true → lookup (key_of u) (map slot_key ss) ≡ f → map (take_in u) ss ≡ take_by f u ss
  take_found ss f h e = take-lookup ss h ∙ ap (λ (g : Result ℕ ℕ). take_by g u ss) e
