-- Bodies through their sorted places are the plan. Assumes nothing.
use mathlib.Core.Path.{◌≡◌, refl, sym, ap, ◌∙◌}
use mathlib.Core.List.{List, [], ◌∷◌, map}
use Prim.Native.Nat.{ℕ, ◌≤◌, ◌<◌}
use native.Mathlib.Omega.{arith}
use lib.ListN.{length, take}
use lib.Seq.{take_at}
use Rattle.lists.specs.Each.{Each}
use Rattle.lists.specs.Part.{over}
use Rattle.lists.specs.Rows.{rows_of}
use Rattle.lists.proofs.OverLaws.{onto-fits}
use Rattle.lists.proofs.RowLaws.{row-at, length-rows_of}
use Rattle.passage.specs.Layout.{body_wide}
use Rattle.keys.specs.Sorted.{put_all}
use Rattle.sorting.specs.Rules.{key_at, sorted_places}
use Rattle.sorting.specs.Claims.{row_in, key_in}
use Rattle.sorting.proofs.SortedPlacesLaws.{places-below}
use Rattle.sorting.proofs.RowPlacesLaws.{places_count, places-put, element-places}
use Rattle.opening_write.specs.inner.Steps.{bodies_at}

module _ (s : List ℕ) (n : ℕ) where
  abbrev pub rs : List (List ℕ)
  rs = rows_of body_wide n s

  abbrev pub js : List ℕ
  js = sorted_places (key_at s 0 body_wide) n

  places : js ≡ sorted_places (key_in rs) (length rs)
  places = element-places s n body_wide (omega arith) ∙ ap (sorted_places (key_in rs)) (sym (length-rows_of body_wide n s))

  -- as many places as rows of the plan
  pub distinct-count : length js ≡ length (put_all rs [])
  distinct-count = ap length places ∙ places_count rs

  through : (is : List ℕ) → Each (λ (j : ℕ). j < n) is → bodies_at s is ≡ map (row_in rs) is
  unfolding bodies_at
  through [] h = refl
  through (j ∷ is) h = ap (λ (r : List ℕ). r ∷ bodies_at s is) (sym (row-at body_wide n j s h.0)) ∙ ap (λ (l : List (List ℕ)). row_in rs j ∷ l) (through is h.1)

  -- where no key arises twice, the bodies in this order are the plan
  module _ (all : length js ≡ n) where
    pub sorted-bodies : bodies_at s js ≡ put_all rs []
    sorted-bodies =
        through js (places-below (key_at s 0 body_wide) n n (omega arith))
        ∙ ap (map (row_in rs)) places ∙ places-put rs (ap length (sym places) ∙ all ∙ sym (length-rows_of body_wide n s))

    -- the places as they are read from the area
    pub places-read : (o₀ o : List ℕ) → o ≡ over 0 js o₀ → n ≤ length o₀ → take n o ≡ js
    unfolding over
    places-read o₀ o e h =
        let k : length js ≤ length o₀ = omega arith in
        rw (e, onto-fits js o₀ k) (take_at js _ n all)

    pub places-each : (o₀ o : List ℕ) → o ≡ over 0 js o₀ → n ≤ length o₀ → Each (λ (j : ℕ). j < n) (take n o)
    places-each o₀ o e h = rw (places-read o₀ o e h) (places-below (key_at s 0 body_wide) n n (omega arith))

    pub plan-read : (o₀ o : List ℕ) → o ≡ over 0 js o₀ → n ≤ length o₀ → bodies_at s (take n o) ≡ put_all rs []
    plan-read o₀ o e h = ap (bodies_at s) (places-read o₀ o e h) ∙ sorted-bodies
