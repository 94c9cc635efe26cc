-- Demand 2: what an accepted open went through, and every byte that it leaves. Assumes nothing.
use Prim.Native.Nat.{ℕ, suc, ◌+◌, ◌*◌, ◌≤◌}
use native.Mathlib.Omega.{arith}
use mathlib.Core.Path.{◌≡◌, refl, ap, ◌∙◌, subst₂}
use mathlib.Core.Bool.{true}
use mathlib.Core.List.{List, [], ◌∷◌, ◌++◌, map}
use mathlib.Core.Logic.{◌⊎◌, inl, inr, ⊎_elim}
use borrow.Author.Tests.{leb-true, eqb-true}
use lib.Dec.{eqb, leb}
use lib.ListN.{length, drop, length-map, length-append}
use Rattle.std.specs.Prelude.{Ok, Err}
use Rattle.lists.specs.Each.{Each}
use Rattle.lists.specs.Part.{over}
use Rattle.lists.specs.Rows.{flat, Wide}
use Rattle.lists.proofs.OverLaws.{onto-fits}
use Rattle.lists.proofs.WideLaws.{length-flat}
use Rattle.passage.specs.Layout.{body_wide, row_wide, key_of}
use Rattle.columns.specs.declared.Table.TheVariants as Tables
use Rattle.reader.specs.Rules.{reading_of}
use Rattle.reader.proofs.AnswerLaws.{accepted-rows}
use Rattle.plan.specs.Rules.{joined}
use Rattle.plan.specs.Claims.{Some, Passage}
use Rattle.plan.proofs.ExactLaws.{joined-exactly}
use Rattle.plan.proofs.Claims.{rows-joined}
use Rattle.std.specs.declared.cmp.Ordering.{Ordering}
use Rattle.std.specs.declared.cmp.Ordering.TheVariants.{Less, Equal, Greater}
use Rattle.keys.specs.Keys.{cmp, by_order}
use Rattle.keys.specs.Sorted.{sorted_rows, put, put_all}
use Rattle.keys.proofs.PutLaws.{sorted-put}
use Rattle.keys.proofs.CountLaws.{each-put, put-most}
use Rattle.table.specs.Rules.{table_room}
use Rattle.table.proofs.SoundLaws.{room-holds}
use Rattle.book.specs.Entries.{plan_wide, plan_entry}
use Rattle.book.specs.Rules.{plan_row, plan_rows, book_room}
use Rattle.book.proofs.SoundLaws.{room_within}
use Rattle.calls.specs.declared.Refusal.TheVariants.{BookShort, TableShort, KeyTwice}
use Rattle.calls.specs.Answers.{is_accepted}
use Rattle.calls.specs.Open.{passages_of, plan_of, room_to_open, open_answer, opened_by, open_leaves}
use Rattle.calls.specs.Claims.{OpenLeavesPlan, PlanExactly, OpenReadsLengths}
use Rattle.calls.proofs.AcceptedLaws.{first_of, read-on}

-- ---- what an accepted open went through

pub record Opened (planning calendar book table : List ℕ) : Type 0 where
  pub planned : (n : ℕ) × (reading_of Tables.Planning [] 0 planning ≡ Ok n)
  pub dated : (n : ℕ) × (reading_of Tables.Calendar [] 0 calendar ≡ Ok n)
  pub book-room : length (passages_of planning calendar) * plan_wide ≤ book_room book
  pub once : length (put_all (passages_of planning calendar) []) ≡ length (passages_of planning calendar)
  pub table-room : length (passages_of planning calendar) ≤ table_room table

pub open-taken : (planning calendar book table : List ℕ) → is_accepted (open_answer planning calendar book table) ≡ true → Opened planning calendar book table
unfolding open_answer room_to_open
open-taken planning calendar book table e =
    let bodies : List (List ℕ) = passages_of planning calendar in
    let p = read-on 1 (reading_of Tables.Planning [] 0 planning) _ e in
    let q = read-on 2 (reading_of Tables.Calendar [] 0 calendar) _ p.1 in
    let b = first_of (leb (length bodies * plan_wide) (book_room book)) _ (Err BookShort) refl q.1 in
    let o = first_of (eqb (length (put_all bodies [])) (length bodies)) _ (Err KeyTwice) refl b.1 in
    let t = first_of (leb (length bodies) (table_room table)) (Ok 0) (Err TableShort) refl o.1 in
    record { planned = p.0; dated = q.0; book-room = leb-true _ _ b.0; once = eqb-true _ _ o.0; table-room = leb-true _ _ t.0 }

-- ---- rows put one after another

pub sorted-put_all : (qs rs : List (List ℕ)) → sorted_rows rs ≡ true → sorted_rows (put_all qs rs) ≡ true
unfolding put_all
sorted-put_all [] rs h = h
sorted-put_all (q ∷ qs) rs h = sorted-put_all qs (put q rs) (sorted-put q rs h)

pub each-put_all : (P : List ℕ → Type 0) (qs rs : List (List ℕ)) → Each P qs → Each P rs → Each P (put_all qs rs)
unfolding put_all
each-put_all P [] rs p h = h
each-put_all P (q ∷ qs) rs p h = each-put_all P qs (put q rs) p.1 (each-put P q rs p.0 h)

pub put_all-most : (qs rs : List (List ℕ)) → length (put_all qs rs) ≤ length qs + length rs
unfolding put_all
put_all-most [] rs = omega arith
put_all-most (q ∷ qs) rs = let a = put_all-most qs (put q rs) in let b = put-most q rs in omega arith

module _ (P : List ℕ → Type 0) where
  -- a row that was put is there, and whatever is there was put or was there
  put-there : (r : List ℕ) (rs : List (List ℕ)) → P r → Some P (put r rs)
  unfolding put
  put-there r [] p = inl p
  put-there r (s ∷ rs) p = go (cmp (key_of s) (key_of r)) (put-there r rs p)
    where
      go : (o : Ordering) → Some P (put r rs) → Some P (by_order o (s ∷ put r rs) (r ∷ rs) (r ∷ s ∷ rs))
      go Less ih = inr ih
      go Equal ih = inl p
      go Greater ih = inl p

  put-from : (r : List ℕ) (rs : List (List ℕ)) → Some P (put r rs) → P r ⊎ Some P rs
  unfolding put
  put-from r [] h = h
  put-from r (s ∷ rs) h = go (cmp (key_of s) (key_of r)) (put-from r rs) h
    where
      go : (o : Ordering) → (Some P (put r rs) → P r ⊎ Some P rs) → Some P (by_order o (s ∷ put r rs) (r ∷ rs) (r ∷ s ∷ rs)) → P r ⊎ (P s ⊎ Some P rs)
      go Less ih k = ⊎_elim (λ p. inr (inl p)) (λ t. ⊎_elim inl (λ q. inr (inr q)) (ih t)) k
      go Equal ih k = ⊎_elim inl (λ q. inr (inr q)) k
      go Greater ih k = k

  -- where a row came, none went
  put_keeps : (r : List ℕ) (rs : List (List ℕ)) → length (put r rs) ≡ suc (length rs) → Some P rs → Some P (put r rs)
  unfolding put
  put_keeps r [] e h = absurd h
  put_keeps r (s ∷ rs) e h = go (cmp (key_of s) (key_of r)) (put_keeps r rs) e h
    where
      go : (o : Ordering) → (length (put r rs) ≡ suc (length rs) → Some P rs → Some P (put r rs)) → length (by_order o (s ∷ put r rs) (r ∷ rs) (r ∷ s ∷ rs)) ≡ suc (suc (length rs))
          → P s ⊎ Some P rs → Some P (by_order o (s ∷ put r rs) (r ∷ rs) (r ∷ s ∷ rs))
      go Less ih l k = let m : length (put r rs) ≡ suc (length rs) = omega arith in ⊎_elim inl (λ q. inr (ih m q)) k
      go Equal ih l k = absurd (omega arith)
      go Greater ih l k = inr k

  put_all-from : (qs rs : List (List ℕ)) → Some P (put_all qs rs) → Some P qs ⊎ Some P rs
  unfolding put_all
  put_all-from [] rs h = inr h
  put_all-from (q ∷ qs) rs h = ⊎_elim (λ s. inl (inr s)) (λ s. ⊎_elim (λ p. inl (inl p)) inr (put-from q rs s)) (put_all-from qs (put q rs) h)

  put_all-keeps : (qs rs : List (List ℕ)) → length (put_all qs rs) ≡ length qs + length rs → Some P qs ⊎ Some P rs → Some P (put_all qs rs)
  unfolding put_all
  put_all-keeps [] rs e h = ⊎_elim (λ s. absurd s) (λ s. s) h
  put_all-keeps (q ∷ qs) rs e h =
      let a = put_all-most qs (put q rs) in
      let b = put-most q rs in
      let l : length (put q rs) ≡ suc (length rs) = omega arith in
      let m : length (put_all qs (put q rs)) ≡ length qs + length (put q rs) = omega arith in
      put_all-keeps qs (put q rs) m
      (⊎_elim (λ s. ⊎_elim (λ p. inr (put-there q rs p)) inl s) (λ s. inr (put_keeps q rs l s)) h)

-- ---- the plan

wide-passages : (bs : List (List ℕ)) → Each Passage bs → Wide body_wide bs
wide-passages [] h = tt
wide-passages (b ∷ bs) h = (h.0.1, wide-passages bs h.1)

wide-entries : (bs : List (List ℕ)) → Wide body_wide bs → Wide plan_wide (map plan_entry bs)
wide-entries [] h = tt
wide-entries (b ∷ bs) h = (ap suc h.0, wide-entries bs h.1)

wide_rows : (bs : List (List ℕ)) → Wide body_wide bs → Wide row_wide (map (λ (b : List ℕ). b ++ 0 ∷ []) bs)
wide_rows [] h = tt
wide_rows (b ∷ bs) h = (length-append b (0 ∷ []) ∙ (let l : length b ≡ body_wide = h.0 in omega arith), wide_rows bs h.1)

-- rows written from the start on, and what stands behind them
from_start : (w : ℕ) (rs : List (List ℕ)) (d : List ℕ) (n : ℕ) → Wide w rs → length rs ≡ n → n * w ≤ length d → over 0 (flat rs) d ≡ flat rs ++ drop (n * w) d
unfolding over
from_start w rs d n h e f =
    let l : length (flat rs) ≡ n * w = length-flat w rs h ∙ ap (λ (m : ℕ). m * w) e in
    onto-fits (flat rs) d (rw l f) ∙ ap (λ (m : ℕ). flat rs ++ drop m d) l

rows_are : (bs : List (List ℕ)) → plan_rows bs ≡ map (λ (b : List ℕ). b ++ 0 ∷ []) bs
unfolding plan_rows plan_row
rows_are bs = refl

-- what joined of the rows that were staged, which are all rows
pub joined-in-range : (planning calendar : List ℕ) → (n : ℕ) × (reading_of Tables.Planning [] 0 planning ≡ Ok n) → (n : ℕ) × (reading_of Tables.Calendar [] 0 calendar ≡ Ok n)
    → Each Passage (passages_of planning calendar)
unfolding passages_of
joined-in-range planning calendar planned dated =
    let p = accepted-rows Tables.Planning [] 0 planning planned.0 planned.1 in
    let v = accepted-rows Tables.Calendar [] 0 calendar dated.0 dated.1 in
    subst₂ (λ (ps vs : List (List ℕ)). Each Passage (joined ps vs)) p v (rows-joined planning calendar)

module _ (planning calendar book table : List ℕ) (e : is_accepted (open_answer planning calendar book table) ≡ true) where
  abbrev plan : List (List ℕ)
  plan = plan_of planning calendar

  went : Opened planning calendar book table
  went = open-taken planning calendar book table e

  pub passages-in-range : Each Passage (passages_of planning calendar)
  passages-in-range = joined-in-range planning calendar went.planned went.dated

  plan-wide-bodies : Wide body_wide plan
  unfolding plan_of
  plan-wide-bodies = wide-passages (put_all (passages_of planning calendar) []) (each-put_all Passage (passages_of planning calendar) [] passages-in-range tt)

  pub plan-length : length plan ≡ length (passages_of planning calendar)
  unfolding plan_of
  plan-length = went.once

  pub plan-sorted : sorted_rows plan ≡ true
  unfolding plan_of sorted_rows
  plan-sorted = sorted-put_all (passages_of planning calendar) [] refl

  plan-book : over 0 (flat (map plan_entry plan)) book ≡ flat (map plan_entry plan) ++ drop (length plan * plan_wide) book
  plan-book =
      let r = (room_within book).0 in
      let b = went.book-room in
      let l = plan-length in
      from_start plan_wide (map plan_entry plan) book (length plan) (wide-entries plan plan-wide-bodies) (length-map plan plan_entry) (omega arith)

  plan-table : over 0 (flat (plan_rows plan)) table ≡ flat (map (λ (b : List ℕ). b ++ 0 ∷ []) plan) ++ drop (length plan * row_wide) table
  plan-table =
      let t = room-holds (length (passages_of planning calendar)) table went.table-room in
      let l = plan-length in
      ap (λ (rs : List (List ℕ)). over 0 (flat rs) table) (rows_are plan)
      ∙ from_start row_wide (map (λ (b : List ℕ). b ++ 0 ∷ []) plan) table (length plan) (wide_rows plan plan-wide-bodies) (length-map plan _) (omega arith)

pub leaves-plan : OpenLeavesPlan
unfolding open_leaves opened_by
leaves-plan planning calendar book table c e = rw e (refl, refl, plan-book planning calendar book table e, plan-table planning calendar book table e)

pub plan-exactly : PlanExactly
unfolding plan_of passages_of
plan-exactly planning calendar book table e =
    let o = (open-taken planning calendar book table e).once in (
      plan-sorted planning calendar book table e,
      λ b. (
        λ s. (joined-exactly _ _ b).0 (⊎_elim (λ x. x) (λ x. absurd x) (put_all-from (λ (x : List ℕ). x ≡ b) (passages_of planning calendar) [] s)),
        λ s. put_all-keeps (λ (x : List ℕ). x ≡ b) (passages_of planning calendar) [] (let l : length (put_all (passages_of planning calendar) []) ≡ length (passages_of planning calendar) = o in omega arith) (inl ((joined-exactly _ _ b).1 s)),
      ),
    )

pub reads-lengths : OpenReadsLengths
unfolding open_answer room_to_open book_room table_room
reads-lengths planning calendar book book' table table' b t = rw (b, t)
