use Prim.Native.Nat.{ℕ, suc, ◌+◌, ◌≤◌, ◌<◌}
use native.Mathlib.Omega.{arith}
use native.Mathlib.Numerals.{add-one}
use native.Mathlib.Decide.{dec_lt}
use mathlib.Core.Path.{◌≡◌, refl, sym, ap, ◌∙◌}
use mathlib.Core.Bool.{Bool, true, false}
use mathlib.Core.List.{List, [], ◌∷◌}
use borrow.Author.Tests.{leb-true, leb-false, ltb-true, ltb-false, le-leb, lt-leb}
use lib.ListN.{length, get_or, drop, set, replicate, length-drop, drop_of_length-le}
use lib.Seq.{drop-cons, get_or-set_same, get_or-set_other}
use lib.Dec.{leb, ltb}
use Rattle.std.specs.Prelude.{Option, Some, None, Result, Ok, Err, IsErr}
use Rattle.std.specs.Option.{unwrap_or}
use Rattle.lists.specs.Logic.{on}
use Rattle.lists.specs.Text.{same}
use Rattle.turbo_labels.specs.declared.Repeated.{Repeated}
use Rattle.turbo.specs.Split.{until, past, fields, field_at, tail_at}
use Rattle.turbo_labels.specs.Columns.{count, column_of, repeated, place_of, any_twice, places_from, columns_of, most}
use Rattle.turbo.proofs.SplitLaws.{past-drop, field-tail, fields-more, fields-one, until-all}
use Rattle.turbo_labels.specs.inner.Search.{seen_after, seen_by, sought}

-- Laws of the search for column names. Assumes nothing.

-- the fields of a line from the k-th on: the first is that of the tail behind k bars
pub fields-at : (l : List ℕ) (k : ℕ) → k < length (fields l) → drop k (fields l) ≡ until 124 (tail_at k l) ∷ drop (k + 1) (fields l)
unfolding field_at
fields-at l k h = rw (add-one, field-tail k l) (drop-cons (fields l) k [] h)

pub fields-end : (l : List ℕ) (k : ℕ) → length (fields l) ≤ k → drop k (fields l) ≡ []
fields-end l k h = drop_of_length-le (fields l) h

-- behind its first bar a line is shorter
pub past-less : (l : List ℕ) → length (until 124 l) < length l → length (past 124 l) < length l
past-less l h = omega (arith, ap (λ (m : List ℕ). length m) (past-drop 124 l), length-drop (suc (length (until 124 l))) l)

-- the place of a name, column by column
module _ (w : List ℕ) where
  pub place-hit : (f : List ℕ) (fs : List (List ℕ)) → same f w ≡ true → column_of w (f ∷ fs) ≡ 0
  unfolding column_of
  place-hit f fs e = rw e

  pub place-on : (f : List ℕ) (fs : List (List ℕ)) → same f w ≡ false → column_of w (f ∷ fs) ≡ suc (column_of w fs)
  unfolding column_of
  place-on f fs e = rw e

  pub place-none : column_of w [] ≡ 0
  unfolding column_of
  place-none = refl

  -- and by the first label of what is left of a line
  pub place-first : (l : List ℕ) → same (until 124 l) w ≡ true → column_of w (fields l) ≡ 0
  place-first l y = go (ltb (length (until 124 l)) (length l)) refl
    where
      go : (t : Bool) → ltb (length (until 124 l)) (length l) ≡ t → column_of w (fields l) ≡ 0
      go true k = ap (column_of w) (fields-more l (ltb-true _ _ k)) ∙ place-hit (until 124 l) (fields (past 124 l)) y
      go false k = ap (column_of w) (fields-one l (ltb-false _ _ k)) ∙ place-hit l [] (ap (λ f. same f w) (sym (until-all 124 l (ltb-false _ _ k))) ∙ y)

  pub place-last : (l : List ℕ) → length (until 124 l) ≡ length l → same (until 124 l) w ≡ false → column_of w (fields l) ≡ 1
  place-last l h y = ap (column_of w) (fields-one l (omega arith)) ∙ place-on l [] (ap (λ f. same f w) (sym (until-all 124 l (omega arith))) ∙ y) ∙ ap suc place-none

  pub place-more : (l : List ℕ) → length (until 124 l) < length l → same (until 124 l) w ≡ false → column_of w (fields l) ≡ suc (column_of w (fields (past 124 l)))
  place-more l h y = ap (column_of w) (fields-more l h) ∙ place-on (until 124 l) (fields (past 124 l)) y

-- the search for one name, column by column, is by its count and its place
less_one : (n : ℕ) → leb 1 n ≡ leb 2 (suc n)
less_one n = go (leb 1 n) refl
  where
    go : (t : Bool) → leb 1 n ≡ t → t ≡ leb 2 (suc n)
    go true e = sym (le-leb 2 (suc n) (let h : 1 ≤ n = leb-true _ _ e in omega arith))
    go false e = sym (lt-leb 2 (suc n) (let h : n < 1 = leb-false _ _ e in omega arith))

sought-again : (p k : ℕ) (w : List ℕ) (fs : List (List ℕ)) → sought (Some p) k w fs ≡ on (leb 1 (count w fs)) (Err repeated) (Ok (Some p))
unfolding sought count
sought-again p k w [] = refl
sought-again p k w (f ∷ fs) = go (same f w) (sought-again p (suc k) w fs)
  where
    go : (t : Bool) → sought (Some p) (suc k) w fs ≡ on (leb 1 (count w fs)) (Err repeated) (Ok (Some p)) → seen_by (seen_after (Some p) k t) (λ at. sought at (suc k) w fs) ≡ on (leb 1 (on t (suc (count w fs)) (count w fs))) (Err repeated) (Ok (Some p))
    go true ih = rw (le-leb 1 (suc (count w fs)) (omega arith))
    go false ih = ih

-- a find, or the number of columns
abbrev pub placed : ℕ → Result (Option ℕ) Repeated → Result ℕ Repeated
placed n (Ok o) = Ok (unwrap_or o n)
placed n (Err e) = Err e

placed-on : (n k : ℕ) (t : Bool) → placed n (on t (Err repeated) (Ok (Some k))) ≡ on t (Err repeated) (Ok k)
placed-on n k true = refl
placed-on n k false = refl

sought-first : (n k : ℕ) (w : List ℕ) (fs : List (List ℕ)) → k + length fs ≡ n → placed n (sought None k w fs) ≡ on (leb 2 (count w fs)) (Err repeated) (Ok (k + column_of w fs))
unfolding sought count column_of
sought-first n k w [] h = ap Ok (sym h)
sought-first n k w (f ∷ fs) h = go (same f w) (sought-first n (suc k) w fs (omega arith))
  where
    go : (t : Bool) → placed n (sought None (suc k) w fs) ≡ on (leb 2 (count w fs)) (Err repeated) (Ok (suc k + column_of w fs)) → placed n (seen_by (seen_after None k t) (λ at. sought at (suc k) w fs)) ≡ on (leb 2 (on t (suc (count w fs)) (count w fs))) (Err repeated) (Ok (k + on t 0 (suc (column_of w fs))))
    go true ih =
        let z : k + 0 ≡ k = omega arith in
        rw (z, ← less_one (count w fs)) (ap (placed n) (sought-again k (suc k) w fs) ∙ placed-on n k (leb 1 (count w fs)))
    go false ih =
        let z : k + suc (column_of w fs) ≡ suc k + column_of w fs = omega arith in
        rw z ih

pub sought-is : (n : ℕ) (w : List ℕ) (fs : List (List ℕ)) → n ≡ length fs → placed n (sought None 0 w fs) ≡ place_of w fs
unfolding place_of
sought-is n w fs h =
    let z : 0 + column_of w fs ≡ column_of w fs = omega arith in
    sought-first n 0 w fs (omega arith) ∙ ap (λ (p : ℕ). on (leb 2 (count w fs)) (Err repeated) (Ok p)) z

-- a turn over the columns
module _ (found : Option ℕ) (k : ℕ) (w f : List ℕ) (fs : List (List ℕ)) where
  pub column-next : (o : Option ℕ) → seen_after found k (same f w) ≡ Ok o → sought found k w (f ∷ fs) ≡ sought o (k + 1) w fs
  unfolding sought
  column-next o q = rw (q, add-one k)

  pub column-twice : (e : Repeated) → seen_after found k (same f w) ≡ Err e → sought found k w (f ∷ fs) ≡ Err e
  unfolding sought
  column-twice e q = rw q

pub column-end : (found : Option ℕ) (k : ℕ) (w : List ℕ) → sought found k w [] ≡ Ok found
unfolding sought
column-end found k w = refl

-- an error is the one that there is
pub refused : {A : Type 0} (r : Result A Repeated) → IsErr r → r ≡ Err repeated
refused (Ok a) h = let q : ◌≡◌ {A = Bool} false true = h in absurd (let z : ◌≡◌ {A = ℕ} 0 1 = cc in omega arith)
refused (Err e) h = refl

-- a turn over the columns of a label line
module _ (name labels : List ℕ) (found : Option ℕ) (k : ℕ) (i : sought found k name (drop k (fields labels)) ≡ sought None 0 name (fields labels)) where
  module _ (h : k < length (fields labels)) (r : Result (Option ℕ) Repeated) (s : r ≡ seen_after found k (same (until 124 (tail_at k labels)) name)) where
    pub turn-on : (o : Option ℕ) → r ≡ Ok o → sought o (k + 1) name (drop (k + 1) (fields labels)) ≡ sought None 0 name (fields labels)
    turn-on o q =
        sym (column-next found k name (until 124 (tail_at k labels)) (drop (k + 1) (fields labels)) o (sym s ∙ q))
        ∙ sym (ap (sought found k name) (fields-at labels k h))
        ∙ i

    pub turn-twice : (n : ℕ) → n ≡ length (fields labels) → (e : Repeated) → r ≡ Err e → Err repeated ≡ place_of name (fields labels)
    turn-twice n w e q =
        let t : sought None 0 name (fields labels) ≡ Err e = sym i ∙ ap (sought found k name) (fields-at labels k h) ∙ column-twice found k name (until 124 (tail_at k labels)) (drop (k + 1) (fields labels)) e (sym s ∙ q) in
        sym (ap (placed n) t) ∙ sought-is n name (fields labels) w

  pub turn-end : (n : ℕ) → n ≡ length (fields labels) → length (fields labels) ≤ k → Ok (unwrap_or found n) ≡ place_of name (fields labels)
  turn-end n w h =
      let t : Ok found ≡ sought None 0 name (fields labels) = sym (column-end found k name) ∙ sym (ap (sought found k name) (fields-end labels k h)) ∙ i in
      ap (placed n) t ∙ sought-is n name (fields labels) w

-- the answer for the names ws from the i-th on, where ps holds the places of those before
abbrev pub columns_from : ℕ → List (List ℕ) → List (List ℕ) → List ℕ → Result (List ℕ) Repeated
columns_from i ws fs ps = on (any_twice ws fs) (Err repeated) (Ok (places_from i ws fs ps))

pub columns-start : (ws fs : List (List ℕ)) → columns_from 0 ws fs (replicate most 0) ≡ columns_of ws fs
unfolding columns_of
columns-start ws fs = refl

-- an answer by a test
pub found-once : {A : Type 0} (t : Bool) (p q : A) → on {A = Result A Repeated} t (Err repeated) (Ok p) ≡ Ok q → (t ≡ false) × (p ≡ q)
found-once true p q e = absurd (let z : ◌≡◌ {A = ℕ} 0 1 = cc in omega arith)
found-once false p q e = (refl, cc)

pub found-twice : {A : Type 0} (t : Bool) (p : A) (r : Repeated) → on {A = Result A Repeated} t (Err repeated) (Ok p) ≡ Err r → t ≡ true
found-twice true p r e = refl
found-twice false p r e = absurd (let z : ◌≡◌ {A = ℕ} 0 1 = cc in omega arith)

-- a turn over the names
module _ (i : ℕ) (w : List ℕ) (ws fs : List (List ℕ)) (ps : List ℕ) where
  pub name-next : (p : ℕ) → place_of w fs ≡ Ok p → columns_from i (w ∷ ws) fs ps ≡ columns_from (i + 1) ws fs (set ps i p)
  unfolding place_of any_twice places_from
  name-next p q =
      let o = found-once (leb 2 (count w fs)) _ p q in
      rw (o.0, ← o.1, add-one i)

  pub name-twice : (r : Repeated) → place_of w fs ≡ Err r → columns_from i (w ∷ ws) fs ps ≡ Err repeated
  unfolding place_of any_twice
  name-twice r q = rw (found-twice (leb 2 (count w fs)) _ r q)

pub names-end : (i : ℕ) (fs : List (List ℕ)) (ps : List ℕ) → columns_from i [] fs ps ≡ Ok ps
unfolding any_twice places_from
names-end i fs ps = refl

-- one label more measured
pub measured-next :
    (labels : List ℕ) (sizes : List ℕ) (k n : ℕ) → k < length sizes → n ≡ length (until 124 (tail_at k labels))
    → ((m : ℕ) → m < k → get_or sizes m 0 ≡ length (until 124 (tail_at m labels)))
    → (m : ℕ) → m < k + 1 → get_or (set sizes k n) m 0 ≡ length (until 124 (tail_at m labels))
measured-next labels sizes k n h q f m b = go (dec_lt m k)
  where
    go : Dec (m < k) → get_or (set sizes k n) m 0 ≡ length (until 124 (tail_at m labels))
    go (yes a) = get_or-set_other sizes k m n 0 (λ e. omega arith) ∙ f m a
    go (no a) =
        let z : m ≡ k = omega (arith, a) in
        rw z (get_or-set_same sizes k n 0 h ∙ q)
