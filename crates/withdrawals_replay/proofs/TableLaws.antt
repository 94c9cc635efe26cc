-- Slots taken into a table's bytes: the count first, then removals, then puts. Assumes nothing.
use mathlib.Core.Path.{◌≡◌, refl, sym, ap, ◌∙◌}
use mathlib.Core.Bool.{Bool, true, false}
use mathlib.Core.List.{List, [], ◌∷◌, ◌++◌}
use Prim.Native.Nat.{ℕ, ◌+◌, ◌*◌, ◌-◌, ◌≤◌, ◌<◌}
use native.Mathlib.Nat.{not-suc-le-zero, le_refl, le_trans}
use native.Mathlib.Omega.{arith}
use borrow.Author.Tests.{eq-eqb, ne_eqb, le-leb}
use lib.Dec.{eqb, leb}
use lib.ListN.{length, take, drop, get_or}
use Rattle.lists.specs.Logic.{on}
use Rattle.lists.specs.Part.{part}
use Rattle.lists.specs.Rows.{rows_of, store}
use Rattle.lists.proofs.PartLaws.{length_part, part-part, part-is}
use Rattle.lists.proofs.RowLaws.{rows_of-start, rows_of-step, rows_of-append, length-rows_of}
use Rattle.lists.proofs.StoreLaws.{store_same}
use Rattle.lists.proofs.EachLaws.{each_at}
use Rattle.lists.proofs.WideLaws.{wide-rows_of}
use Rattle.passage.specs.Layout.{key_wide, row_wide}
use Rattle.std.specs.Prelude.{Result, Ok, Err}
use Rattle.keys.specs.Sorted.{sorted_rows, lookup, get, put, remove}
use Rattle.keys.proofs.PutLaws.{get_at, lookup-within}
use Rattle.keys.proofs.CountLaws.{put-least, remove-most}
use Rattle.table.specs.Rules.{rows}
use Rattle.table.proofs.RunLaws.{Holds, holds-start, holds-length, holds_rows, holds-put, holds-remove}
use Rattle.book.proofs.PlaceLaws.{first-at}
use Rattle.book.proofs.WriteLaws.{rows_of-snoc}
use Rattle.withdrawals_replay.specs.inner.Slots.{slot_wide, slots_of, has_row, slot_key, slot_row, remove_one, removals, put_one, puts, weight, weights}

-- ---- a slot as it lies in bytes

module _ (at : ℕ) (s : List ℕ) where
  abbrev slot : List ℕ
  slot = part at slot_wide s

  pub key-lies : slot_key slot ≡ part (at + 1) key_wide s
  key-lies = part-part 1 key_wide at slot_wide s (omega arith)

  pub has-lies : has_row slot ≡ eqb (get_or s at 0) 1
  has-lies = rw (first-at at slot_wide s (omega arith))

  pub has_one : get_or s at 0 ≡ 1 → has_row slot ≡ true
  has_one e = has-lies ∙ eq-eqb (get_or s at 0) 1 e

  pub has-none : (get_or s at 0 ≡ 1 → ⊥) → has_row slot ≡ false
  has-none e = has-lies ∙ ne_eqb (get_or s at 0) 1 e

  -- the row, as the code lends it
  pub row-lent : take (at + slot_wide - (at + 1)) (drop (at + 1) s) ≡ part 1 row_wide slot
  row-lent =
      let e : at + slot_wide - (at + 1) ≡ row_wide = omega arith in
      rw e (sym (part-part 1 row_wide at slot_wide s (omega arith) ∙ part-is (at + 1) row_wide s))

  pub row-lent-length : at + slot_wide ≤ length s → length (part 1 row_wide slot) ≡ row_wide
  row-lent-length h = ap length (part-part 1 row_wide at slot_wide s (omega arith)) ∙ length_part (at + 1) row_wide s (omega arith)

-- ---- what a slot adds to the count

some-weight : (x y : List ℕ) → 0 < length x → 0 < length y → weight x y ≡ 1
some-weight [] y h k = absurd (not-suc-le-zero h)
some-weight (a ∷ x) [] h k = absurd (not-suc-le-zero k)
some-weight (a ∷ x) (b ∷ y) h k = refl

gone-weight : (x : List ℕ) → 0 < length x → weight x [] ≡ 0
gone-weight [] h = absurd (not-suc-le-zero h)
gone-weight (a ∷ x) h = refl

come-weight : (y : List ℕ) → 0 < length y → weight [] y ≡ 2
come-weight [] h = absurd (not-suc-le-zero h)
come-weight (b ∷ y) h = refl

module _ (n at i : ℕ) (t s : List ℕ) (fits : n * row_wide ≤ length t) (there : at + slot_wide ≤ length s) where
  abbrev weighed : ℕ
  weighed = weight (get (slot_key (slot at s)) (rows n t)) (slot_row (slot at s))

  row-full : has_row (slot at s) ≡ true → 0 < length (slot_row (slot at s))
  unfolding slot_row
  row-full e = rw (e, part-part 1 row_wide at slot_wide s (omega arith), length_part (at + 1) row_wide s (omega arith)) (omega arith)

  row-empty : has_row (slot at s) ≡ false → slot_row (slot at s) ≡ []
  unfolding slot_row
  row-empty e = rw e

  got : (f : Result ℕ ℕ) → f ≡ lookup (part (at + 1) key_wide s) (rows n t) → lookup (slot_key (slot at s)) (rows n t) ≡ f
  got f e = rw (key-lies at s) (sym e)

  module _ (e : Ok i ≡ lookup (part (at + 1) key_wide s) (rows n t)) where
    got-full : 0 < length (get (slot_key (slot at s)) (rows n t))
    got-full =
        let w = rw (sym e) at (lookup-within (part (at + 1) key_wide s) (rows n t)) in
        let l = each_at (λ (r : List ℕ). length r ≡ row_wide) (rows n t) i [] (wide-rows_of row_wide n t fits) w in
        rw (get_at (slot_key (slot at s)) (rows n t) (Ok i) (got (Ok i) e)) (omega arith)

    pub weigh-both : get_or s at 0 ≡ 1 → 1 ≡ weighed
    weigh-both h = sym (some-weight (get (slot_key (slot at s)) (rows n t)) (slot_row (slot at s)) got-full (row-full (has_one at s h)))

    pub weigh-gone : (get_or s at 0 ≡ 1 → ⊥) → 0 ≡ weighed
    weigh-gone h = rw (row-empty (has-none at s h)) (sym (gone-weight (get (slot_key (slot at s)) (rows n t)) got-full))

  module _ (e : Err i ≡ lookup (part (at + 1) key_wide s) (rows n t)) where
    got-none : get (slot_key (slot at s)) (rows n t) ≡ []
    got-none = get_at (slot_key (slot at s)) (rows n t) (Err i) (got (Err i) e)

    pub weigh-come : get_or s at 0 ≡ 1 → 2 ≡ weighed
    weigh-come h = rw got-none (sym (come-weight (slot_row (slot at s)) (row-full (has_one at s h))))

    pub weigh-neither : (get_or s at 0 ≡ 1 → ⊥) → 1 ≡ weighed
    weigh-neither h = rw (got-none, row-empty (has-none at s h))

weight-most : (x y : List ℕ) → weight x y ≤ 2
weight-most [] [] = omega arith
weight-most [] (b ∷ y) = omega arith
weight-most (a ∷ x) [] = omega arith
weight-most (a ∷ x) (b ∷ y) = omega arith

-- the sum so far, and what the slots from i on add
module _ (rs : List (List ℕ)) (c : ℕ) (s : List ℕ) where
  abbrev slots_from : ℕ → List (List ℕ)
  slots_from i = rows_of slot_wide (c - i) (drop (i * slot_wide) s)

  pub record Summed (n i sum : ℕ) : Type 0 where
    pub small : sum ≤ n + i * 2
    pub whole : sum + weights rs (slots_from i) ≡ n + weights rs (slots_of c s)

  pub sum-start : (n : ℕ) → Summed n 0 n
  sum-start n = record { small = omega arith; whole = rw (← rows_of-start slot_wide c s) }

  pub sum-turn : (n i sum w : ℕ) → i < c → Summed n i sum → w ≡ weight (get (slot_key (slot (i * slot_wide) s)) rs) (slot_row (slot (i * slot_wide) s)) → Summed n (i + 1) (sum + w)
  unfolding weights
  sum-turn n i sum w h inv e =
      let m = weight-most (get (slot_key (slot (i * slot_wide) s)) rs) (slot_row (slot (i * slot_wide) s)) in
      let a : weights rs (slots_from i) ≡ weight (get (slot_key (slot (i * slot_wide) s)) rs) (slot_row (slot (i * slot_wide) s)) + weights rs (slots_from (i + 1)) = ap (weights rs) (rows_of-step slot_wide c i s h) in
      let k = inv.small in
      let l = inv.whole in
      record { small = omega arith; whole = omega arith }

  pub sum-end : (n i sum : ℕ) → c ≤ i → Summed n i sum → sum ≡ n + weights rs (slots_of c s)
  unfolding weights rows_of
  sum-end n i sum h inv =
      let z : c - i ≡ 0 = omega arith in
      let a : sum + 0 ≡ n + weights rs (slots_of c s) = rw z at inv.whole in
      omega arith

-- where each slot may bring a row and there is room, none need be weighed
weights-most : (rs ss : List (List ℕ)) → weights rs ss ≤ length ss * 2
unfolding weights
weights-most rs [] = omega arith
weights-most rs (s ∷ ss) =
    let one = weight-most (get (slot_key s) rs) (slot_row s) in
    let more = weights-most rs ss in
    omega arith

pub all_fit : (n c most : ℕ) (t s : List ℕ) → n + c ≤ most → true ≡ leb (n + weights (rows n t) (slots_of c s)) (most + c)
all_fit n c most t s h =
    let w = weights-most (rows n t) (slots_of c s) in
    let l = length-rows_of slot_wide c s in
    sym (le-leb (n + weights (rows n t) (slots_of c s)) (most + c) (omega arith))

-- ---- removals and puts, slot by slot

removals-append : (ss qs rs : List (List ℕ)) → removals (ss ++ qs) rs ≡ removals qs (removals ss rs)
unfolding removals
removals-append [] qs rs = refl
removals-append (s ∷ ss) qs rs = removals-append ss qs (remove_one s rs)

puts-append : (ss qs rs : List (List ℕ)) → puts (ss ++ qs) rs ≡ puts qs (puts ss rs)
unfolding puts
puts-append [] qs rs = refl
puts-append (s ∷ ss) qs rs = puts-append ss qs (put_one s rs)

module _ (s : List ℕ) (rs : List (List ℕ)) where
  pub removals-next : (i : ℕ) → removals (slots_of (i + 1) s) rs ≡ remove_one (slot (i * slot_wide) s) (removals (slots_of i s) rs)
  unfolding removals
  removals-next i = ap (λ (ss : List (List ℕ)). removals ss rs) (rows_of-snoc slot_wide i s) ∙ removals-append (slots_of i s) (slot (i * slot_wide) s ∷ []) rs

  pub puts-next : (i : ℕ) → puts (slots_of (i + 1) s) rs ≡ put_one (slot (i * slot_wide) s) (puts (slots_of i s) rs)
  unfolding puts
  puts-next i = ap (λ (ss : List (List ℕ)). puts ss rs) (rows_of-snoc slot_wide i s) ∙ puts-append (slots_of i s) (slot (i * slot_wide) s ∷ []) rs

pub remove-least : (s : List ℕ) (rs : List (List ℕ)) → length (remove_one s rs) ≤ length rs
remove-least s rs = go (has_row s)
  where
    go : (t : Bool) → length (on t rs (remove (slot_key s) rs)) ≤ length rs
    go true = le_refl (length rs)
    go false = remove-most (slot_key s) rs

put-more : (s : List ℕ) (rs : List (List ℕ)) → length rs ≤ length (put_one s rs)
put-more s rs = go (has_row s)
  where
    go : (t : Bool) → length rs ≤ length (on t (put (part 1 row_wide s) rs) rs)
    go true = put-least (part 1 row_wide s) rs
    go false = le_refl (length rs)

pub puts-least : (ss rs : List (List ℕ)) → length rs ≤ length (puts ss rs)
unfolding puts
puts-least [] rs = le_refl (length rs)
puts-least (s ∷ ss) rs = le_trans (put-more s rs) (puts-least ss (put_one s rs))

-- fewer slots put no more rows
pub puts-rises : (s : List ℕ) (rs : List (List ℕ)) (i c : ℕ) → i ≤ c → length (puts (slots_of i s) rs) ≤ length (puts (slots_of c s) rs)
puts-rises s rs i c h =
    let e : c ≡ i + (c - i) = omega arith in
    let more = rows_of slot_wide (c - i) (drop (i * slot_wide) s) in
    let f : puts (slots_of c s) rs ≡ puts more (puts (slots_of i s) rs) =
    ap (λ (k : ℕ). puts (slots_of k s) rs) e ∙ ap (λ (ss : List (List ℕ)). puts ss rs) (rows_of-append slot_wide i (c - i) s) ∙ puts-append (slots_of i s) more rs in
    rw f (puts-least more (puts (slots_of i s) rs))

module _ (n : ℕ) (t₀ : List ℕ) (s : List ℕ) where
  abbrev rs₀ : List (List ℕ)
  rs₀ = rows n t₀

  -- what t holds once i slots are through
  abbrev pub Removed : ℕ → ℕ → List ℕ → Type 0
  Removed i count t = Holds n t₀ count t (removals (slots_of i s) rs₀) × (length (removals (slots_of i s) rs₀) ≤ n)

  pub removed-start : n * row_wide ≤ length t₀ → sorted_rows rs₀ ≡ true → Removed 0 n t₀
  unfolding removals rows_of
  removed-start h o = (holds-start n t₀ h o, rw (length-rows_of row_wide n t₀) (le_refl n))

  abbrev pub Put : ℕ → ℕ → List ℕ → Type 0
  Put i count t = Holds n t₀ count t (puts (slots_of i s) rs₀)

  pub put-start : n * row_wide ≤ length t₀ → sorted_rows rs₀ ≡ true → Put 0 n t₀
  unfolding puts rows_of
  put-start h o = holds-start n t₀ h o

  module _ (i count : ℕ) (t : List ℕ) where
    -- nothing changed
    kept : (rs : List (List ℕ)) (d : ℕ) (u : List ℕ) → Holds n t₀ count t rs → d ≡ length (rows count t) → u ≡ store row_wide count (rows count t) t → Holds n t₀ d u rs
    kept rs d u h e g =
        let a : d ≡ count = e ∙ length-rows_of row_wide count t in
        let b : u ≡ t = g ∙ store_same row_wide count t in
        rw (a, b) h

    pub removed-turn : (d : ℕ) (u : List ℕ) → Removed i count t → d ≡ length (remove_one (slot (i * slot_wide) s) (rows count t)) → u ≡ store row_wide count (remove_one (slot (i * slot_wide) s) (rows count t)) t
        → Removed (i + 1) d u
    removed-turn d u h e g = rw (removals-next s rs₀ i) (go (has_row (slot (i * slot_wide) s)) e g, le_trans (remove-least (slot (i * slot_wide) s) (removals (slots_of i s) rs₀)) h.1)
      where
        x : List ℕ
        x = slot (i * slot_wide) s

        go : (b : Bool) → d ≡ length (on b (rows count t) (remove (slot_key x) (rows count t))) → u ≡ store row_wide count (on b (rows count t) (remove (slot_key x) (rows count t))) t
            → Holds n t₀ d u (on b (removals (slots_of i s) rs₀) (remove (slot_key x) (removals (slots_of i s) rs₀)))
        go true e g = kept (removals (slots_of i s) rs₀) d u h.0 e g
        go false e g = holds-remove n t₀ count t (removals (slots_of i s) rs₀) h.0 (slot_key x) d u h.1 e g

    module _ (h : Put i count t) (there : i * slot_wide + slot_wide ≤ length s) (room : length (puts (slots_of (i + 1) s) rs₀) * row_wide ≤ length t₀) where
      pub put-room : length (put_one (slot (i * slot_wide) s) (rows count t)) * row_wide ≤ length t
      put-room =
          let q = holds_rows n t₀ count t (puts (slots_of i s) rs₀) h in
          rw (q, ← puts-next s rs₀ i, holds-length n t₀ count t (puts (slots_of i s) rs₀) h) room

      pub put-turn : (d : ℕ) (u : List ℕ) → d ≡ length (put_one (slot (i * slot_wide) s) (rows count t)) → u ≡ store row_wide count (put_one (slot (i * slot_wide) s) (rows count t)) t → Put (i + 1) d u
      put-turn d u e g = rw (puts-next s rs₀ i) (go (has_row (slot (i * slot_wide) s)) e g (rw (puts-next s rs₀ i) at room))
        where
          x : List ℕ
          x = slot (i * slot_wide) s

          r : List ℕ
          r = part 1 row_wide x

          go : (b : Bool) → d ≡ length (on b (put r (rows count t)) (rows count t)) → u ≡ store row_wide count (on b (put r (rows count t)) (rows count t)) t
              → length (on b (put r (puts (slots_of i s) rs₀)) (puts (slots_of i s) rs₀)) * row_wide ≤ length t₀
              → Holds n t₀ d u (on b (put r (puts (slots_of i s) rs₀)) (puts (slots_of i s) rs₀))
          go true e g k =
              holds-put n t₀ count t (puts (slots_of i s) rs₀) h r d u (row-lent-length (i * slot_wide) s there) k e g
          go false e g k = kept (puts (slots_of i s) rs₀) d u h e g
