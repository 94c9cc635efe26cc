-- The staged rows one after the other: which lie in the staging area, in range, and with registered owners. Assumes nothing.
use Prim.Native.Nat.{ℕ, ◌+◌, ◌*◌, ◌-◌, ◌/◌, ◌≤◌, ◌<◌}
use native.Mathlib.Omega.{arith}
use mathlib.Core.Path.{◌≡◌, refl, sym, ◌∙◌}
use mathlib.Core.Bool.{true, false, not, ◌&&◌, ◌||◌}
use mathlib.Core.List.{List, [], ◌∷◌, map}
use borrow.Author.Tests.{le-leb, lt-leb, lt-ltb, le-ltb, ltb-true}
use lib.Dec.{ltb}
use lib.ListN.{drop}
use Rattle.lists.specs.Part.{part}
use Rattle.lists.specs.Rows.{rows_of}
use Rattle.lists.proofs.LogicLaws.{and-pass, not-then, tests-equal}
use Rattle.lists.proofs.PartLaws.{part-part}
use Rattle.lists.proofs.RowLaws.{rows_of-step, rows_of-start}
use Rattle.passage.specs.Layout.{text_wide, owner_at, body_wide, body_of}
use Rattle.passage.specs.Ranges.{common_in_range, update_in_range}
use Rattle.passage.specs.inner.Roles.{all_common}
use Rattle.passage.proofs.FieldLaws.{common-of}
use Rattle.passage.proofs.RangeLaws.{update-facts, facts-common}
use Rattle.register.specs.Register.{grants}
use Rattle.calls.specs.End.{least, all_in_range, any_denied}

-- ---- how many lie in the staging area

pub least-all : (a b : ℕ) → a ≤ b → a ≡ least a b
least-all a b h = rw (le-leb a b h)

pub least-cut : (a b : ℕ) → b < a → b ≡ least a b
least-cut a b h = rw (lt-leb a b h)

-- rows that do not fit go beyond its bytes
beyond : (n rows : ℕ) → ltb (n / body_wide) rows ≡ ltb n (rows * body_wide)
beyond n rows =
    tests-equal (ltb (n / body_wide) rows) (ltb n (rows * body_wide))
    (λ e. let h = ltb-true (n / body_wide) rows e in lt-ltb n (rows * body_wide) (omega arith))
    (λ e. let h = ltb-true n (rows * body_wide) e in lt-ltb (n / body_wide) rows (omega arith))

pub short-staged : (n staged rows : ℕ) → staged < rows → true ≡ (ltb staged rows || ltb n (rows * body_wide))
short-staged n staged rows h = rw (lt-ltb staged rows h)

pub short-here : (n staged rows : ℕ) → rows ≤ staged → ltb (n / body_wide) rows ≡ (ltb staged rows || ltb n (rows * body_wide))
short-here n staged rows h = rw (le-ltb staged rows h) (beyond n rows)

-- ---- what is left from row i on

module _ (n : ℕ) (t : List ℕ) where
  abbrev pub rest : ℕ → List (List ℕ)
  rest i = rows_of body_wide (n - i) (drop (i * body_wide) t)

  pub rest-start : rows_of body_wide n t ≡ rest 0
  rest-start = rows_of-start body_wide n t

  pub range-step : (i : ℕ) → i < n → all_in_range (rest i) ≡ (update_in_range (part (i * body_wide) body_wide t) && all_in_range (rest (i + 1)))
  unfolding all_in_range
  range-step i h = rw (rows_of-step body_wide n i t h)

  pub range-end : (i : ℕ) → n ≤ i → all_in_range (rest i) ≡ true
  unfolding all_in_range rows_of
  range-end i h = let e : n - i ≡ 0 = omega arith in rw e

  module _ (register : List ℕ) (sender : ℕ) where
    pub denied-step : (i : ℕ) → i < n
        → any_denied register sender (rest i) ≡ (not (grants register sender (part (i * body_wide + owner_at) text_wide t)) || any_denied register sender (rest (i + 1)))
    unfolding any_denied
    denied-step i h = rw (rows_of-step body_wide n i t h, part-part owner_at text_wide (i * body_wide) body_wide t (omega arith))

    pub denied-end : (i : ℕ) → n ≤ i → any_denied register sender (rest i) ≡ false
    unfolding any_denied rows_of
    denied-end i h = let e : n - i ≡ 0 = omega arith in rw e

-- ---- what is common

-- what is in its range has what is common in range
update-common : (r : List ℕ) → update_in_range r ≡ true → common_in_range (body_of r) ≡ true
update-common r e = common-of r ∙ facts-common r (update-facts r e).common

range-common : (rs : List (List ℕ)) → all_in_range rs ≡ true → all_common (map body_of rs) ≡ true
unfolding all_in_range all_common
range-common [] e = refl
range-common (r ∷ rs) e = let b = and-pass (update_in_range r) (all_in_range rs) e in rw (update-common r b.0) (range-common rs b.1)

pub range_none : (rs : List (List ℕ)) → all_common (map body_of rs) ≡ false → false ≡ all_in_range rs
range_none rs e = sym (not-then (all_in_range rs) (all_common (map body_of rs)) (range-common rs) e)
