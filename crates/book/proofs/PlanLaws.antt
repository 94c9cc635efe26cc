-- Plan entries, one after another: their bodies, their count, and whether they are in range and rise. Assumes nothing.
use mathlib.Core.Path.{◌≡◌, refl, sym, ap, ◌∙◌}
use mathlib.Core.Bool.{true, false, ◌&&◌}
use mathlib.Core.List.{List, [], ◌∷◌, map}
use Prim.Native.Nat.{ℕ, suc, ◌+◌, ◌*◌, ◌-◌, ◌/◌, ◌≤◌, ◌<◌}
use native.Mathlib.Nat.{add-zero, zero-add}
use native.Mathlib.Omega.{arith}
use borrow.Author.Tests.{eq-eqb, ne_eqb}
use lib.ListN.{length, drop, get_or, length-map}
use Rattle.lists.specs.Part.{part}
use Rattle.lists.specs.Rows.{rows_of, Wide}
use Rattle.lists.proofs.LogicLaws.{and-pass, not-then}
use Rattle.lists.proofs.PartLaws.{length_part, part-part}
use Rattle.lists.proofs.RowLaws.{rows_of-step, rows_of-start, length-rows_of}
use Rattle.lists.proofs.WideLaws.{wide-rows_of}
use Rattle.passage.specs.Layout.{key_wide, body_wide, key_of}
use Rattle.passage.specs.Ranges.{plan_in_range}
use Rattle.passage.proofs.RangeLaws.{plan-facts, facts-common}
use Rattle.book.specs.Entries.{plan_wide, plan_body_of, leading, plan_count}
use Rattle.book.specs.Rules.{all_plans}
use Rattle.book.specs.inner.Steps.{plan_body_at}
use Rattle.book.proofs.PlaceLaws.{first-at, plan-body-at}
use Rattle.passage.specs.inner.Roles.{all_common}

-- ---- the bodies of n plan entries

abbrev pub bodies : ℕ → List ℕ → List (List ℕ)
bodies n b = map plan_body_of (rows_of plan_wide n b)

pub length-bodies : (n : ℕ) (b : List ℕ) → length (bodies n b) ≡ n
length-bodies n b = length-map (rows_of plan_wide n b) plan_body_of ∙ length-rows_of plan_wide n b

pub wide-bodies : (n : ℕ) (b : List ℕ) → n * plan_wide ≤ length b → Wide body_wide (bodies n b)
wide-bodies n b h = go (rows_of plan_wide n b) (wide-rows_of plan_wide n b h)
  where
    go : (es : List (List ℕ)) → Wide plan_wide es → Wide body_wide (map plan_body_of es)
    go [] w = tt
    go (e ∷ es) w = (length_part 1 body_wide e (omega (arith, w.0)), go es w.1)

-- ---- the count

module _ (b : List ℕ) (n i : ℕ) where
  abbrev pub plans_from : List (List ℕ)
  plans_from = rows_of plan_wide (n - i) (drop (i * plan_wide) b)

  pub leading-stop : i < n → (get_or b (i * plan_wide) 0 ≡ 1 → ⊥) → leading plans_from ≡ 0
  unfolding leading
  leading-stop h e = rw (rows_of-step plan_wide n i b h, first-at (i * plan_wide) plan_wide b (omega arith), ne_eqb _ _ e)

  pub leading-next : i < n → get_or b (i * plan_wide) 0 ≡ 1 → leading plans_from ≡ suc (leading (rows_of plan_wide (n - (i + 1)) (drop ((i + 1) * plan_wide) b)))
  unfolding leading
  leading-next h e = rw (rows_of-step plan_wide n i b h, first-at (i * plan_wide) plan_wide b (omega arith), eq-eqb _ _ e)

  pub leading_end : n ≤ i → leading plans_from ≡ 0
  unfolding leading rows_of
  leading_end h = let e : n - i ≡ 0 = omega arith in rw e

pub count-start : (used : ℕ) (b : List ℕ) → plan_count used b ≡ 0 + leading (plans_from b (used / plan_wide) 0)
unfolding plan_count
count-start used b = ap leading (rows_of-start plan_wide (used / plan_wide) b) ∙ sym (zero-add (leading (plans_from b (used / plan_wide) 0)))

-- ---- in range, and rising

module _ (b : List ℕ) (n : ℕ) where
  abbrev pub bodies_from : ℕ → List (List ℕ)
  bodies_from i = map plan_body_of (plans_from b n i)

  pub plans-start : all_plans (map plan_body_of (rows_of plan_wide n b)) ≡ all_plans (bodies_from 0)
  plans-start = ap (λ (es : List (List ℕ)). all_plans (map plan_body_of es)) (rows_of-start plan_wide n b)

  pub plans-step : (i : ℕ) → i < n → all_plans (bodies_from i) ≡ (plan_in_range (plan_body_at i b) && all_plans (bodies_from (i + 1)))
  unfolding all_plans
  plans-step i h = rw (rows_of-step plan_wide n i b h, plan-body-at i b)

  pub plans-end : (i : ℕ) → n ≤ i → all_plans (bodies_from i) ≡ true
  unfolding all_plans rows_of
  plans-end i h = let e : n - i ≡ 0 = omega arith in rw e

-- what is in range has what is common in range
plans-common : (bodies : List (List ℕ)) → all_plans bodies ≡ true → all_common bodies ≡ true
unfolding all_plans all_common
plans-common [] e = refl
plans-common (x ∷ bodies) e =
    let p = and-pass (plan_in_range x) (all_plans bodies) e in
    rw (facts-common x (plan-facts x p.0).common) (plans-common bodies p.1)

pub plans-none : (bodies : List (List ℕ)) → all_common bodies ≡ false → all_plans bodies ≡ false
plans-none bodies e = not-then (all_plans bodies) (all_common bodies) (plans-common bodies) e

-- ---- one plan entry, by the bytes where it stands

pub plan-key-at : (p : ℕ) (b : List ℕ) → key_of (part p body_wide b) ≡ part p key_wide b
plan-key-at p b = part-part 0 key_wide p body_wide b (omega arith) ∙ ap (λ (n : ℕ). part n key_wide b) (add-zero p)
