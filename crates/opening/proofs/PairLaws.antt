-- The joined pairs: when the book has no room for them, and that they are read back from the area. Assumes nothing.
use mathlib.Core.Path.{◌≡◌, subst, ◌∙◌}
use mathlib.Core.Logic.{◌⊎◌}
use mathlib.Core.List.{List}
use Prim.Native.Nat.{ℕ, ◌+◌, ◌*◌, ◌/◌, ◌≤◌, ◌<◌}
use native.Mathlib.Omega.{arith}
use lib.ListN.{length, take, length-take}
use lib.Seq.{take_all}
use Rattle.lists.specs.Part.{over}
use Rattle.lists.specs.Rows.{flat, rows_of, Wide}
use Rattle.lists.proofs.OverLaws.{onto-fits}
use Rattle.lists.proofs.WideLaws.{wide-rows_of, length-flat, rows_of-flat}
use Rattle.passage.specs.Layout.{body_wide}
use Rattle.reader.specs.Passes.{pass_wide, validity_wide}
use Rattle.plan.proofs.PlanLaws.{wide-all}
use Rattle.book.specs.Entries.{plan_wide}
use Rattle.book.specs.Rules.{book_room}
use Rattle.book.proofs.SoundLaws.{room_within}
use Rattle.opening_write.specs.inner.Steps.{most_plans}
use Rattle.opening.specs.inner.Joining.{fewer, staged_pairs}
use Rattle.opening.proofs.AreaLaws.{enough-room}

-- ---- the joined pairs, at most so many as the book has room for

module _ (J : List (List ℕ)) (most n : ℕ) (e : n ≡ length (take (most + 1) J)) where
  more : most < n → most < length J
  more h = let k : n ≡ _ = e ∙ length-take (most + 1) J in omega arith

  pub all-joined : n ≤ most → n ≡ length J
  all-joined h = let k : n ≡ _ = e ∙ length-take (most + 1) J in omega arith

  -- an area of k bytes that is enough for all pairs, or for what any book holds, is not what they lack room in
  pub pairs-short : (book : List ℕ) (q k : ℕ) → length J ≤ q → (q * body_wide ≤ k) ⊎ (most_plans * body_wide ≤ k) → most ≡ fewer (book_room book / plan_wide) (k / body_wide) → most < n → book_room book < length J * plan_wide
  pairs-short book q k l e m h =
      let r = (room_within book).1 in
      let j = more h in
      let z : most ≡ book_room book / plan_wide = m ∙ enough-room q (book_room book / plan_wide) k (length J) e l (omega arith) (subst (λ (x : ℕ). x < length J) m j) in
      omega arith

  -- all are read back from an area that has room
  pub pairs-read : (st₀ st : List ℕ) → st ≡ over 0 (flat (take most J)) st₀ → Wide body_wide J → n ≤ most → most * body_wide ≤ length st₀ → rows_of body_wide n st ≡ J
  unfolding over
  pairs-read st₀ st s w h f =
      let l = all-joined h in
      let k : length (flat J) ≤ length st₀ = let z = length-flat body_wide J w in omega arith in
      rw (l, s, take_all most J (omega arith), onto-fits (flat J) st₀ k) (rows_of-flat body_wide J _ w)

-- ---- each as wide as a body

module _ (np : ℕ) (passes : List ℕ) (nv : ℕ) (validities : List ℕ) where
  pub wide-pairs : np * pass_wide ≤ length passes → nv * validity_wide ≤ length validities → Wide body_wide (staged_pairs np passes nv validities)
  wide-pairs f g = wide-all (rows_of pass_wide np passes) (rows_of validity_wide nv validities) (wide-rows_of pass_wide np passes f) (wide-rows_of validity_wide nv validities g)
