-- The ranges pass exactly where their facts hold. Assumes nothing.
use mathlib.Core.Path.{◌≡◌, ◌∙◌, sym}
use mathlib.Core.Bool.{true, ◌&&◌, ◌||◌}
use mathlib.Core.List.{List, [], ◌∷◌}
use mathlib.Core.Logic.{◌⊎◌, inl, inr, ⊎_elim}
use Prim.Native.Nat.{ℕ, ◌≤◌}
use borrow.Author.Tests.{leb-true, ltb-true, eqb-true, le-leb, lt-ltb, eq-eqb}
use lib.Dec.{eqb, leb, ltb}
use Rattle.lists.specs.Logic.{within}
use Rattle.lists.proofs.LogicLaws.{and-pass, or-pass, pass-or, all_pass, in-range, within-true}
use Rattle.clock.specs.Date.{is_date}
use Rattle.field_types.specs.Stamps.{in_stamp_range}
use Rattle.passage.specs.Layout.{missing, kept, key_of, owner_of, date_of, line_of, journey_of, fortify_of, stop_of, order_of, destination_of, stamp_of, status_of, arrival_of, departure_of, stop_type_of, show_cancelled_of, flexible_of, monitored_of, heard_of}
use Rattle.passage.specs.Ranges.{padded_text, key_in_range, time_in_range, times_in_range, common_in_range, is_bit, is_shown, update_in_range, plan_in_range, heard_in_range, row_in_range}
use Rattle.passage.specs.Facts.{KeyFacts, TimeFacts, CommonFacts, UpdateFacts, PlanFacts, RowFacts}
use Rattle.passage.proofs.FieldLaws.{key-of}

-- ---- the key

pub key-facts : (b : List ℕ) → key_in_range b ≡ true → KeyFacts b
unfolding key_in_range
key-facts b e =
    let p =
    all_pass (padded_text (owner_of b))
    (is_date (date_of b) ∷ padded_text (line_of b) ∷ ltb (journey_of b) 1000000 ∷ ltb (fortify_of b) 100 ∷ padded_text (stop_of b) ∷ ltb (order_of b) 1000 ∷ [])
    e in
    record {
      owner = p 0;
      date = p 1;
      line = p 2;
      journey = ltb-true _ _ (p 3);
      fortify = ltb-true _ _ (p 4);
      stop = p 5;
      order = ltb-true _ _ (p 6);
    }

pub facts-key : (b : List ℕ) → KeyFacts b → key_in_range b ≡ true
unfolding key_in_range
facts-key b f =
    rw (f.owner, f.date, f.line, lt-ltb _ _ f.journey, lt-ltb _ _ f.fortify, f.stop, lt-ltb _ _ f.order)

-- ---- the times, and what all three have in common

time-facts : (misses stop_type t : ℕ) → time_in_range (eqb stop_type misses) t ≡ true → TimeFacts misses stop_type t
time-facts misses stop_type t e =
    ⊎_elim
    (λ p. inl (ltb-true t 115200 p))
    (λ p. let q = and-pass (eqb stop_type misses) (eqb t missing) p in inr (eqb-true _ _ q.0, eqb-true _ _ q.1))
    (or-pass (ltb t 115200) (eqb stop_type misses && eqb t missing) e)

facts-time : (misses stop_type t : ℕ) → TimeFacts misses stop_type t → time_in_range (eqb stop_type misses) t ≡ true
facts-time misses stop_type t f =
    pass-or (ltb t 115200) (eqb stop_type misses && eqb t missing)
    (⊎_elim (λ p. inl (lt-ltb t 115200 p)) (λ p. inr (rw (eq-eqb stop_type misses p.0) (eq-eqb t missing p.1))) f)

pub common-facts : (b : List ℕ) → common_in_range b ≡ true → CommonFacts b
unfolding common_in_range times_in_range
common-facts b e =
    let p = all_pass (key_in_range (key_of b)) (padded_text (destination_of b) ∷ times_in_range (stop_type_of b) (arrival_of b) (departure_of b) ∷ []) e in
    let q =
    all_pass (leb (stop_type_of b) 2)
    (time_in_range (eqb (stop_type_of b) 0) (arrival_of b) ∷ time_in_range (eqb (stop_type_of b) 2) (departure_of b) ∷ [])
    (p 2) in
    record {
      key = key-facts b (sym (key-of b) ∙ p 0);
      destination = p 1;
      stop-type = leb-true _ _ (q 0);
      arrival = time-facts 0 _ _ (q 1);
      departure = time-facts 2 _ _ (q 2);
    }

pub facts-common : (b : List ℕ) → CommonFacts b → common_in_range b ≡ true
unfolding common_in_range times_in_range
facts-common b f =
    rw (
      key-of b,
      facts-key b f.key,
      f.destination,
      le-leb _ _ f.stop-type,
      facts-time 0 (stop_type_of b) (arrival_of b) f.arrival,
    )
    (facts-time 2 (stop_type_of b) (departure_of b) f.departure)

-- ---- optionals of an update

or_kept : (m n : ℕ) → leb n m || eqb n kept ≡ true → (n ≤ m) ⊎ (n ≡ kept)
or_kept m n e = ⊎_elim (λ p. inl (leb-true n m p)) (λ p. inr (eqb-true n kept p)) (or-pass (leb n m) (eqb n kept) e)

kept-or : (m n : ℕ) → (n ≤ m) ⊎ (n ≡ kept) → leb n m || eqb n kept ≡ true
kept-or m n f = pass-or (leb n m) (eqb n kept) (⊎_elim (λ p. inl (le-leb n m p)) (λ p. inr (eq-eqb n kept p)) f)

flexible-or-kept : (n : ℕ) → within 1 3 n || eqb n kept ≡ true → ((1 ≤ n) × (n ≤ 3)) ⊎ (n ≡ kept)
flexible-or-kept n e = ⊎_elim (λ p. inl (within-true 1 3 n p)) (λ p. inr (eqb-true n kept p)) (or-pass (within 1 3 n) (eqb n kept) e)

kept-or-flexible : (n : ℕ) → ((1 ≤ n) × (n ≤ 3)) ⊎ (n ≡ kept) → within 1 3 n || eqb n kept ≡ true
kept-or-flexible n f =
    pass-or (within 1 3 n) (eqb n kept) (⊎_elim (λ p. inl (in-range 1 3 n p.0 p.1)) (λ p. inr (eq-eqb n kept p)) f)

-- ---- update, plan entry and row

pub update-facts : (b : List ℕ) → update_in_range b ≡ true → UpdateFacts b
unfolding update_in_range
update-facts b e =
    let p =
    all_pass (common_in_range b)
    (in_stamp_range (stamp_of b)
    ∷ leb (status_of b) 5
    ∷ (is_shown (show_cancelled_of b) || eqb (show_cancelled_of b) kept)
    ∷ (within 1 3 (flexible_of b) || eqb (flexible_of b) kept)
    ∷ (is_bit (monitored_of b) || eqb (monitored_of b) kept)
    ∷ [])
    e in
    record {
      common = common-facts b (p 0);
      stamp = p 1;
      status = leb-true _ _ (p 2);
      show-cancelled = or_kept 2 _ (p 3);
      flexible = flexible-or-kept _ (p 4);
      monitored = or_kept 1 _ (p 5);
    }

pub facts-update : (b : List ℕ) → UpdateFacts b → update_in_range b ≡ true
unfolding update_in_range
facts-update b f =
    rw (
      facts-common b f.common,
      f.stamp,
      le-leb _ _ f.status,
      kept-or 2 (show_cancelled_of b) f.show-cancelled,
      kept-or-flexible (flexible_of b) f.flexible,
    )
    (kept-or 1 (monitored_of b) f.monitored)

pub plan-facts : (b : List ℕ) → plan_in_range b ≡ true → PlanFacts b
unfolding plan_in_range
plan-facts b e =
    let p =
    all_pass (common_in_range b)
    (eqb (stamp_of b) 0 ∷ eqb (status_of b) 0 ∷ eqb (show_cancelled_of b) 1 ∷ leb (flexible_of b) 3 ∷ eqb (monitored_of b) 0 ∷ [])
    e in
    record {
      common = common-facts b (p 0);
      stamp = eqb-true _ _ (p 1);
      status = eqb-true _ _ (p 2);
      show-cancelled = eqb-true _ _ (p 3);
      flexible = leb-true _ _ (p 4);
      monitored = eqb-true _ _ (p 5);
    }

pub facts-plan : (b : List ℕ) → PlanFacts b → plan_in_range b ≡ true
unfolding plan_in_range
facts-plan b f =
    rw (
      facts-common b f.common,
      eq-eqb _ _ f.stamp,
      eq-eqb _ _ f.status,
      eq-eqb _ _ f.show-cancelled,
      le-leb _ _ f.flexible,
      eq-eqb _ _ f.monitored,
    )

abbrev Heard : ℕ → ℕ → Type 0
Heard heard stamp = ((heard ≡ 0) × (stamp ≡ 0)) ⊎ ((heard ≡ 1) × (in_stamp_range stamp ≡ true))

heard-facts : (heard stamp : ℕ) → heard_in_range heard stamp ≡ true → Heard heard stamp
unfolding heard_in_range
heard-facts heard stamp e =
    ⊎_elim
    (λ p. let q = and-pass (eqb heard 0) (eqb stamp 0) p in inl (eqb-true _ _ q.0, eqb-true _ _ q.1))
    (λ p. let q = and-pass (eqb heard 1) (in_stamp_range stamp) p in inr (eqb-true _ _ q.0, q.1))
    (or-pass (eqb heard 0 && eqb stamp 0) (eqb heard 1 && in_stamp_range stamp) e)

facts-heard : (heard stamp : ℕ) → Heard heard stamp → heard_in_range heard stamp ≡ true
unfolding heard_in_range
facts-heard heard stamp f =
    pass-or (eqb heard 0 && eqb stamp 0) (eqb heard 1 && in_stamp_range stamp)
    (⊎_elim
    (λ p. inl (rw (eq-eqb heard 0 p.0) (eq-eqb stamp 0 p.1)))
    (λ p. inr (rw (eq-eqb heard 1 p.0) p.1))
    f)

pub row-facts : (r : List ℕ) → row_in_range r ≡ true → RowFacts r
unfolding row_in_range
row-facts r e =
    let p =
    all_pass (common_in_range r)
    (heard_in_range (heard_of r) (stamp_of r) ∷ leb (status_of r) 5 ∷ is_shown (show_cancelled_of r) ∷ leb (flexible_of r) 3 ∷ is_bit (monitored_of r) ∷ [])
    e in
    record {
      common = common-facts r (p 0);
      heard = heard-facts _ _ (p 1);
      status = leb-true _ _ (p 2);
      show-cancelled = leb-true _ _ (p 3);
      flexible = leb-true _ _ (p 4);
      monitored = leb-true _ _ (p 5);
    }

pub facts-row : (r : List ℕ) → RowFacts r → row_in_range r ≡ true
unfolding row_in_range
facts-row r f =
    rw (
      facts-common r f.common,
      facts-heard (heard_of r) (stamp_of r) f.heard,
      le-leb _ _ f.status,
      le-leb _ _ f.show-cancelled,
      le-leb _ _ f.flexible,
      le-leb _ _ f.monitored,
    )

-- ---- what each implies of its key

pub common-key : (b : List ℕ) → common_in_range b ≡ true → key_in_range (key_of b) ≡ true
common-key b e = key-of b ∙ facts-key b (common-facts b e).key

pub update-key : (b : List ℕ) → update_in_range b ≡ true → key_in_range (key_of b) ≡ true
update-key b e = key-of b ∙ facts-key b (update-facts b e).common.key

pub plan-key : (b : List ℕ) → plan_in_range b ≡ true → key_in_range (key_of b) ≡ true
plan-key b e = key-of b ∙ facts-key b (plan-facts b e).common.key

pub row-key : (r : List ℕ) → row_in_range r ≡ true → key_in_range (key_of r) ≡ true
row-key r e = key-of r ∙ facts-key r (row-facts r e).common.key

pub update-date : (b : List ℕ) → update_in_range b ≡ true → is_date (date_of b) ≡ true
update-date b e = (update-facts b e).common.key.date

pub plan-date : (b : List ℕ) → plan_in_range b ≡ true → is_date (date_of b) ≡ true
plan-date b e = (plan-facts b e).common.key.date

pub row-date : (r : List ℕ) → row_in_range r ≡ true → is_date (date_of r) ≡ true
row-date r e = (row-facts r e).common.key.date
