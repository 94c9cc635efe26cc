-- Slots taken into sorted rows: removals, then puts, are the rows worked out again; and how many there are then. Assumes nothing.
use mathlib.Core.Path.{◌≡◌, refl, sym, ap, ◌∙◌}
use mathlib.Core.Bool.{Bool, true, false, ◌||◌}
use mathlib.Core.Logic.{◌⊎◌, inl, inr}
use mathlib.Core.List.{List, [], ◌∷◌, ◌++◌}
use Prim.Native.Nat.{ℕ, ◌+◌, ◌<◌}
use native.Mathlib.Omega.{arith}
use lib.ListN.{length}
use Rattle.lists.proofs.LogicLaws.{or_assoc}
use Rattle.lists.specs.Logic.{on}
use Rattle.lists.specs.Each.{Each}
use Rattle.lists.specs.Text.{same}
use Rattle.lists.specs.Part.{part}
use Rattle.lists.proofs.PartLaws.{length_part}
use Rattle.passage.specs.Layout.{row_wide, key_of}
use Rattle.std.specs.declared.cmp.Ordering.TheVariants.{Less}
use Rattle.keys.specs.Keys.{cmp}
use Rattle.keys.specs.Sorted.{sorted_rows, rises_from, get, put, remove}
use Rattle.keys.specs.Replay.{becoming, reworked}
use Rattle.keys.proofs.KeyLaws.{less-not-same, cmp-trans}
use Rattle.keys.proofs.SortedLaws.{rises-head, rises-tail, sorted_rises, sorted_tail}
use Rattle.keys.proofs.EqualLaws.{Filled}
use Rattle.keys.proofs.CountLaws.{length-put-new, length-put-held, remove-missing, length-remove-held}
use Rattle.keys.proofs.ReplayLaws.{RowOf, among, sorted-place, each-place, get-place-other, reworked-members}
use Rattle.sorting.proofs.PlaceLaws.{own-part}
use Rattle.withdrawals_replay.specs.inner.Slots.{slot_wide, has_row, slot_key, slot_row, remove_one, put_one, removals, puts, weight, weights}

-- the slot s is of key k, and has the row that f gives it, or none
abbrev pub SlotFor : (List ℕ → List ℕ) → List ℕ → List ℕ → Type 0
SlotFor f k s = (slot_key s ≡ k) × (slot_row s ≡ f k) × (length s ≡ slot_wide)

-- the slots ss are those of the keys ks
abbrev pub SlotsFor : (List ℕ → List ℕ) → List (List ℕ) → List (List ℕ) → Type 0
SlotsFor f [] [] = Unit {0}
SlotsFor f [] (s ∷ ss) = ⊥
SlotsFor f (k ∷ ks) [] = ⊥
SlotsFor f (k ∷ ks) (s ∷ ss) = SlotFor f k s × SlotsFor f ks ss

abbrev none : List ℕ → Bool
none [] = true
none (b ∷ r) = false

-- the keys without a row, and those with one
unfoldable pub gone : (List ℕ → List ℕ) → List (List ℕ) → List (List ℕ)
gone f [] = []
gone f (k ∷ ks) = on (none (f k)) (k ∷ gone f ks) (gone f ks)

unfoldable pub held : (List ℕ → List ℕ) → List (List ℕ) → List (List ℕ)
held f [] = []
held f (k ∷ ks) = on (none (f k)) (held f ks) (k ∷ held f ks)

-- a lower key below rising ones
rises-skip : (k j : List ℕ) (ls : List (List ℕ)) → cmp (key_of k) (key_of j) ≡ Less → rises_from j ls ≡ true → rises_from k ls ≡ true
unfolding rises_from
rises-skip k j [] h r = refl
rises-skip k j (l ∷ ls) h r = rw (cmp-trans (key_of k) (key_of j) (key_of l) h (rises-head j l ls r)) (rises-tail j l ls r)

-- ---- tests

pub or_swap : (a b c : Bool) → (a || (b || c)) ≡ (b || (a || c))
or_swap true true c = refl
or_swap true false c = refl
or_swap false b c = refl

-- ---- one slot

-- a slot has a row exactly where its row is not none
has-row : (s : List ℕ) → length s ≡ slot_wide → (has_row s ≡ true → slot_row s ≡ part 1 row_wide s) × (none (slot_row s) ≡ on (has_row s) false true)
unfolding slot_row
has-row s l = go (has_row s) refl
  where
    some : (r : List ℕ) → length r ≡ row_wide → none r ≡ false
    some [] e = absurd (omega arith)
    some (b ∷ r) e = refl

    go : (t : Bool) → has_row s ≡ t → (t ≡ true → on t (part 1 row_wide s) [] ≡ part 1 row_wide s) × (none (on t (part 1 row_wide s) []) ≡ on t false true)
    go true e = (λ f. refl, some (part 1 row_wide s) (length_part 1 row_wide s (omega arith)))
    go false e = (λ f. let z : ◌≡◌ {A = ℕ} 0 1 = cc in absurd (omega arith), refl)

none-place : (k r : List ℕ) (rs : List (List ℕ)) → none r ≡ true → becoming k r rs ≡ remove k rs
none-place k [] rs e = refl
none-place k (b ∷ r) rs e = let z : ◌≡◌ {A = ℕ} 0 1 = cc in absurd (omega arith)

some-place : (k r : List ℕ) (rs : List (List ℕ)) → none r ≡ false → becoming k r rs ≡ put r rs
some-place k [] rs e = let z : ◌≡◌ {A = ℕ} 0 1 = cc in absurd (omega arith)
some-place k (b ∷ r) rs e = refl

module _ (f : List ℕ → List ℕ) (k s : List ℕ) (h : SlotFor f k s) (rs : List (List ℕ)) where
  none_is : none (f k) ≡ on (has_row s) false true
  none_is = ap none (sym h.1) ∙ (has-row s h.2).1

  remove-one : remove_one s rs ≡ on (none (f k)) (becoming k (f k) rs) rs
  remove-one = go (has_row s) refl
    where
      go : (t : Bool) → has_row s ≡ t → on t rs (remove (slot_key s) rs) ≡ on (none (f k)) (becoming k (f k) rs) rs
      go true e = rw (none_is, e)
      go false e =
          let n : none (f k) ≡ true = none_is ∙ rw e in
          rw (n, none-place k (f k) rs n) (ap (λ (j : List ℕ). remove j rs) h.0)

  put-one : put_one s rs ≡ on (none (f k)) rs (becoming k (f k) rs)
  put-one = go (has_row s) refl
    where
      go : (t : Bool) → has_row s ≡ t → on t (put (part 1 row_wide s) rs) rs ≡ on (none (f k)) rs (becoming k (f k) rs)
      go true e =
          let n : none (f k) ≡ false = none_is ∙ rw e in
          rw (n, some-place k (f k) rs n) (ap (λ (r : List ℕ). put r rs) (sym ((has-row s h.2).0 e) ∙ h.1))
      go false e = rw (none_is, e)

-- ---- all of them

reworked-append : (f : List ℕ → List ℕ) (js ks rs : List (List ℕ)) → reworked f (js ++ ks) rs ≡ reworked f ks (reworked f js rs)
unfolding reworked
reworked-append f [] ks rs = refl
reworked-append f (j ∷ js) ks rs = reworked-append f js ks (becoming j (f j) rs)

among-append : (x : List ℕ) (js ks : List (List ℕ)) → among x (js ++ ks) ≡ (among x js || among x ks)
unfolding among
among-append x [] ks = refl
among-append x (j ∷ js) ks = ap (◌||◌ (same j x)) (among-append x js ks) ∙ sym (or_assoc (same j x) (among x js) (among x ks))

module _ (f : List ℕ → List ℕ) where
  removals-are : (ks ss rs : List (List ℕ)) → SlotsFor f ks ss → removals ss rs ≡ reworked f (gone f ks) rs
  unfolding removals reworked gone
  removals-are [] [] rs h = refl
  removals-are [] (s ∷ ss) rs h = absurd h
  removals-are (k ∷ ks) [] rs h = absurd h
  removals-are (k ∷ ks) (s ∷ ss) rs h = ap (removals ss) (remove-one f k s h.0 rs) ∙ go (none (f k)) (λ qs. removals-are ks ss qs h.1)
    where
      go : (t : Bool) → ((qs : List (List ℕ)) → removals ss qs ≡ reworked f (gone f ks) qs)
          → removals ss (on t (becoming k (f k) rs) rs) ≡ reworked f (on t (k ∷ gone f ks) (gone f ks)) rs
      go true ih = ih (becoming k (f k) rs)
      go false ih = ih rs

  puts-are : (ks ss rs : List (List ℕ)) → SlotsFor f ks ss → puts ss rs ≡ reworked f (held f ks) rs
  unfolding puts reworked held
  puts-are [] [] rs h = refl
  puts-are [] (s ∷ ss) rs h = absurd h
  puts-are (k ∷ ks) [] rs h = absurd h
  puts-are (k ∷ ks) (s ∷ ss) rs h = ap (puts ss) (put-one f k s h.0 rs) ∙ go (none (f k)) (λ qs. puts-are ks ss qs h.1)
    where
      go : (t : Bool) → ((qs : List (List ℕ)) → puts ss qs ≡ reworked f (held f ks) qs)
          → puts ss (on t rs (becoming k (f k) rs)) ≡ reworked f (on t (held f ks) (k ∷ held f ks)) rs
      go true ih = ih rs
      go false ih = ih (becoming k (f k) rs)

  among-split : (x : List ℕ) (ks : List (List ℕ)) → (among x (gone f ks) || among x (held f ks)) ≡ among x ks
  unfolding among gone held
  among-split x [] = refl
  among-split x (k ∷ ks) = go (none (f k)) (among-split x ks)
    where
      go : (t : Bool) → (among x (gone f ks) || among x (held f ks)) ≡ among x ks
          → (among x (on t (k ∷ gone f ks) (gone f ks)) || among x (on t (held f ks) (k ∷ held f ks))) ≡ (same k x || among x ks)
      go true ih = or_assoc (same k x) (among x (gone f ks)) (among x (held f ks)) ∙ ap (◌||◌ (same k x)) ih
      go false ih = or_swap (among x (gone f ks)) (same k x) (among x (held f ks)) ∙ ap (◌||◌ (same k x)) ih

  module _ (own : (k : List ℕ) → RowOf k (f k)) where
    -- removals first, then puts: the rows of any list of the same keys, worked out again
    pub slots-taken : (ks ss js rs : List (List ℕ)) → SlotsFor f ks ss → sorted_rows rs ≡ true → Filled rs → ((k : List ℕ) → among k ks ≡ among k js)
        → puts ss (removals ss rs) ≡ reworked f js rs
    slots-taken ks ss js rs h s full e =
        puts-are ks ss (removals ss rs) h
        ∙ ap (reworked f (held f ks)) (removals-are ks ss rs h)
        ∙ sym (reworked-append f (gone f ks) (held f ks) rs)
        ∙ reworked-members f own (gone f ks ++ held f ks) js rs s full (λ k. among-append k (gone f ks) (held f ks) ∙ among-split k ks ∙ e k)

    -- ---- how many rows there are then

    place-weight : (k r : List ℕ) (rs : List (List ℕ)) → Filled rs → RowOf k r → length (becoming k r rs) + 1 ≡ length rs + weight (get k rs) r
    place-weight k [] rs full o = go (get k rs) refl
      where
        go : (l : List ℕ) → get k rs ≡ l → length (remove k rs) + 1 ≡ length rs + weight l []
        go [] e = rw (remove-missing k rs full e)
        go (x ∷ l) e =
            let n : get k rs ≡ [] → ⊥ = λ g. let z : ◌≡◌ {A = ℕ} 0 1 = cc in omega arith in
            omega (arith, length-remove-held k rs n)
    place-weight k (b ∷ r) rs full (inl o) = let z : ◌≡◌ {A = ℕ} 0 1 = cc in absurd (omega arith)
    place-weight k (b ∷ r) rs full (inr o) = go (get k rs) refl
      where
        go : (l : List ℕ) → get k rs ≡ l → length (put (b ∷ r) rs) + 1 ≡ length rs + weight l (b ∷ r)
        go [] e = omega (arith, length-put-new (b ∷ r) rs full (rw o e))
        go (x ∷ l) e =
            let n : get (key_of (b ∷ r)) rs ≡ [] → ⊥ = λ g. let z : ◌≡◌ {A = ℕ} 0 1 = cc in omega arith in
            omega (arith, length-put-held (b ∷ r) rs n)

    abbrev Full : List ℕ → Type 0
    Full r = 0 < length r

    full_from : (k : List ℕ) → (f k ≡ []) ⊎ Full (f k)
    full_from k = go (f k)
      where
        go : (l : List ℕ) → (l ≡ []) ⊎ Full l
        go [] = inl refl
        go (x ∷ l) = inr (omega arith)

    -- the rows qs have what rs has of each of these keys
    abbrev Agree : List (List ℕ) → List (List ℕ) → List (List ℕ) → Type 0
    Agree rs qs ks = Each (λ (k : List ℕ). get k qs ≡ get k rs) ks

    -- a row placed at a lower key changes nothing of the keys above
    agree-above : (k : List ℕ) (ks rs qs : List (List ℕ)) → Each (λ (j : List ℕ). key_of j ≡ j) (k ∷ ks) → rises_from k ks ≡ true → sorted_rows qs ≡ true → Agree rs qs ks
        → Agree rs (becoming k (f k) qs) ks
    agree-above k [] rs qs ow h s a = tt
    agree-above k (j ∷ ks) rs qs ow h s a = (
      get-place-other j k (f k) qs s (own k) (λ e. less-not-same (cmp k j) low e) ∙ a.0,
      agree-above k ks rs qs (ow.0, ow.1.1) (rises-skip k j ks (rises-head k j ks h) (rises-tail k j ks h)) s a.1,
    )
      where
        low : cmp k j ≡ Less
        low = rw (ow.0, ow.1.0) at (rises-head k j ks h)

    slots-own : (ks ss : List (List ℕ)) → SlotsFor f ks ss → Each (λ (j : List ℕ). key_of j ≡ j) ks
    slots-own [] [] h = tt
    slots-own [] (s ∷ ss) h = absurd h
    slots-own (k ∷ ks) [] h = absurd h
    slots-own (k ∷ ks) (s ∷ ss) h = (ap key_of (sym h.0.0) ∙ own-part 1 s ∙ h.0.0, slots-own ks ss h.1)

    weights-from : (ks ss rs qs : List (List ℕ)) → SlotsFor f ks ss → sorted_rows ks ≡ true → sorted_rows qs ≡ true → Filled qs → Agree rs qs ks
        → length qs + weights rs ss ≡ length (reworked f ks qs) + length ss
    unfolding weights reworked
    weights-from [] [] rs qs h o s full a = refl
    weights-from [] (x ∷ ss) rs qs h o s full a = absurd h
    weights-from (k ∷ ks) [] rs qs h o s full a = absurd h
    weights-from (k ∷ ks) (x ∷ ss) rs qs h o s full a =
        let ps = becoming k (f k) qs in
        let w : weight (get (slot_key x) rs) (slot_row x) ≡ weight (get k qs) (f k) = rw (h.0.0, h.0.1, a.0) in
        let one = place-weight k (f k) qs full (own k) in
        let more = weights-from ks ss rs ps h.1 (sorted_tail k ks (sorted_rises k ks o)) (sorted-place k (f k) qs s) (each-place Full k (f k) qs (full_from k) full)
        (agree-above k ks rs qs (slots-own (k ∷ ks) (x ∷ ss) h) (sorted_rises k ks o) s a.1) in
        omega arith

    each-refl : (rs ks : List (List ℕ)) → Agree rs rs ks
    each-refl rs [] = tt
    each-refl rs (k ∷ ks) = (refl, each-refl rs ks)

    pub slots-weigh : (ks ss js rs : List (List ℕ)) → SlotsFor f ks ss → sorted_rows ks ≡ true → sorted_rows rs ≡ true → Filled rs → ((k : List ℕ) → among k ks ≡ among k js)
        → length rs + weights rs ss ≡ length (reworked f js rs) + length ss
    slots-weigh ks ss js rs h o s full e =
        weights-from ks ss rs rs h o s full (each-refl rs ks) ∙ ap (λ (qs : List (List ℕ)). length qs + length ss) (reworked-members f own ks js rs s full e)
