-- Bodies written one after another, each through its place. Assumes nothing.
use mathlib.Core.Path.{◌≡◌, refl, sym, ap, subst, ◌∙◌}
use mathlib.Core.List.{List, [], ◌∷◌, ◌++◌, map, append-nil}
use Prim.Native.Nat.{ℕ, suc, ◌+◌, ◌*◌, ◌≤◌, ◌<◌}
use native.Mathlib.Nat.{zero-add}
use native.Mathlib.Omega.{arith}
use lib.ListN.{length, take, get_or, set, length-append}
use lib.Seq.{length-take-le, get_or-take, take-take}
use Rattle.lists.specs.Each.{Each}
use Rattle.lists.specs.Part.{part, over}
use Rattle.lists.specs.Rows.{flat, Wide}
use Rattle.lists.proofs.PartLaws.{length_part, take_snoc}
use Rattle.lists.proofs.OverLaws.{over-nil, over-snoc, over-then}
use Rattle.lists.proofs.RowLaws.{flat_append}
use Rattle.lists.proofs.EachLaws.{each_take, each_at}
use Rattle.lists.proofs.WideLaws.{length-flat}
use Rattle.passage.specs.Layout.{body_wide}
use Rattle.book.specs.Entries.{plan_entry}
use Rattle.book.specs.Rules.{plan_row, plan_rows}
use Rattle.opening_write.specs.inner.Steps.{bodies_at}

-- ---- one body

-- the body, then heard
pub row_written : (at : ℕ) (body table : List ℕ) → length body ≡ body_wide → set (over at body table) (at + body_wide) 0 ≡ over at (plan_row body) table
unfolding plan_row
row_written at body table l = ap (λ (m : ℕ). set (over at body table) (at + m) 0) (sym l) ∙ over-snoc at 0 body table

-- ---- all of them

pub rows_are : (bodies : List (List ℕ)) → plan_rows bodies ≡ map plan_row bodies
unfolding plan_rows
rows_are bodies = refl

pub length-entry : (r : List ℕ) → length r ≡ body_wide → length (plan_entry r) ≡ suc body_wide
length-entry r l = ap suc l

pub length-row : (r : List ℕ) → length r ≡ body_wide → length (plan_row r) ≡ suc body_wide
unfolding plan_row
length-row r l = rw (length-append r (0 ∷ []), l)

-- each place is below n
pub place-below : (n i : ℕ) (js : List ℕ) → Each (λ (j : ℕ). j < n) (take n js) → n ≤ length js → i < n → get_or js i 0 < n
place-below n i js b h k =
    let l : length (take n js) ≡ n = length-take-le n js h in
    subst (λ (m : ℕ). m < n) (get_or-take n js i 0 k) (each_at (λ (j : ℕ). j < n) (take n js) i 0 b (omega arith))

-- the body at such a place
place-fits : (n j : ℕ) (s : List ℕ) → n * body_wide ≤ length s → j < n → j * body_wide + body_wide ≤ length s
place-fits n j s f h = omega arith

-- what is written of the bodies at these places of s
abbrev pub written : (List ℕ → List ℕ) → List ℕ → List ℕ → List ℕ
written f s js = flat (map f (bodies_at s js))

pub write-start : (f : List ℕ → List ℕ) (s js d : List ℕ) → d ≡ over 0 (written f s (take 0 js)) d
unfolding bodies_at flat
write-start f s js d = sym (over-nil 0 d)

module _ (f : List ℕ → List ℕ) (w : ℕ) (wide : (r : List ℕ) → length r ≡ body_wide → length (f r) ≡ w) (n : ℕ) (s js : List ℕ) (fits : n * body_wide ≤ length s) where
  wide_at : (is : List ℕ) → Each (λ (j : ℕ). j < n) is → Wide w (map f (bodies_at s is))
  unfolding bodies_at
  wide_at [] h = tt
  wide_at (j ∷ is) h = (wide (part (j * body_wide) body_wide s) (length_part (j * body_wide) body_wide s (place-fits n j s fits h.0)), wide_at is h.1)

  one_more : (is : List ℕ) (j : ℕ) → map f (bodies_at s (is ++ j ∷ [])) ≡ map f (bodies_at s is) ++ f (part (j * body_wide) body_wide s) ∷ []
  unfolding bodies_at
  one_more [] j = refl
  one_more (i ∷ is) j = ap (λ (l : List (List ℕ)). f (part (i * body_wide) body_wide s) ∷ l) (one_more is j)

  length-bodies : (is : List ℕ) → length (map f (bodies_at s is)) ≡ length is
  unfolding bodies_at
  length-bodies [] = refl
  length-bodies (i ∷ is) = ap suc (length-bodies is)

  -- one more, behind those before it
  pub write-turn : (i : ℕ) (d₀ d : List ℕ) → d ≡ over 0 (written f s (take i js)) d₀ → i < n → n ≤ length js → Each (λ (j : ℕ). j < n) (take n js)
      → over (i * w) (f (part (get_or js i 0 * body_wide) body_wide s)) d ≡ over 0 (written f s (take (i + 1) js)) d₀
  unfolding flat
  write-turn i d₀ d e h g b =
      let k : Each (λ (j : ℕ). j < n) (take i js) = subst (Each (λ (j : ℕ). j < n)) (take-take i n js (omega arith)) (each_take (λ (j : ℕ). j < n) i (take n js) b) in
      let l : length (written f s (take i js)) ≡ i * w =
      length-flat w (map f (bodies_at s (take i js))) (wide_at (take i js) k) ∙ ap (λ (m : ℕ). m * w) (length-bodies (take i js) ∙ length-take-le i js (omega arith)) in
      let r = f (part (get_or js i 0 * body_wide) body_wide s) in
      let m : written f s (take (i + 1) js) ≡ written f s (take i js) ++ r =
      ap (written f s) (take_snoc i js (omega arith)) ∙ ap flat (one_more (take i js) (get_or js i 0)) ∙ flat_append (map f (bodies_at s (take i js))) (r ∷ [])
      ∙ ap (λ (x : List ℕ). written f s (take i js) ++ x) (append-nil r) in
      rw (e, m, ← l) (ap (λ (x : ℕ). over x r (over 0 (written f s (take i js)) d₀)) (sym (zero-add (length (written f s (take i js))))) ∙ over-then 0 (written f s (take i js)) r d₀)
