-- A table that agrees with its book: its rows are the replay of the plan and the standing updates that the book has now. A withdrawal keeps that,
-- whatever the book, and the second reckoning gives those rows. The row rule enters by its laws alone. Assumes nothing.
use mathlib.Core.Path.{◌≡◌, refl, sym, ap, ◌∙◌}
use mathlib.Core.Bool.{Bool, true, false}
use mathlib.Core.Logic.{◌⊎◌}
use mathlib.Core.List.{List, [], ◌∷◌}
use Prim.Native.Nat.{ℕ, ◌<◌}
use lib.Dec.{eqb}
use lib.ListN.{length}
use Rattle.lists.specs.Logic.{on}
use Rattle.lists.specs.Each.{Each}
use Rattle.lists.specs.Text.{same}
use Rattle.lists.specs.Rows.{Wide}
use Rattle.lists.proofs.LogicLaws.{or-fail}
use Rattle.passage.specs.Layout.{key_of}
use Rattle.keys.specs.Sorted.{sorted_rows, get}
use Rattle.keys.specs.Replay.{Rule, taken_all, replayed, reworked}
use Rattle.keys.proofs.EqualLaws.{Filled, rows-equal}
use Rattle.keys.proofs.ReplayLaws.{RowOf, get-own, sorted-taken_all, get-taken_all, each-taken_all, replayed-key, among, sorted-reworked, filled-reworked, get-reworked}
use Rattle.book.specs.Entries.{entry_wide, kind_of, number_of, entry_body}
use Rattle.book.specs.Rules.{message_entries, withdrawn, marked_withdrawn, standing, plan_rows, row_for}
use Rattle.book.proofs.ChangeLaws.{marked-kind}
use Rattle.book.specs.Rules.{keys_named}
use Rattle.keys.proofs.KeptLaws.{each-full}

-- a standing update that is left when message n is withdrawn
pub each-withdrawn : (U : List ℕ → Type 0) (n : ℕ) (us : List (List ℕ)) → Wide entry_wide us → Each U (standing us) → Each U (standing (withdrawn n us))
unfolding standing withdrawn
each-withdrawn U n [] w h = tt
each-withdrawn U n (e ∷ us) w h = go (eqb (number_of e) n) (eqb (kind_of e) 2) refl h (λ k. each-withdrawn U n us w.1 k)
  where
    go : (t s : Bool) → eqb (kind_of e) 2 ≡ s → Each U (on s (entry_body e ∷ standing us) (standing us)) → (Each U (standing us) → Each U (standing (withdrawn n us)))
        → Each U (on (eqb (kind_of (on t (marked_withdrawn e) e)) 2) (entry_body (on t (marked_withdrawn e) e) ∷ standing (withdrawn n us)) (standing (withdrawn n us)))
    go true true q k ih = rw (marked-kind e w.0) (ih k.1)
    go true false q k ih = rw (marked-kind e w.0) (ih k)
    go false true q k ih = rw q (k.0, ih k.1)
    go false false q k ih = rw q (ih k)

-- a key that message n does not name is replayed the same with it and without it
module _ (rule : Rule) (n : ℕ) (k : List ℕ) where
  took : (held u : List ℕ) (us : List (List ℕ)) → replayed rule k held (u ∷ us) ≡ replayed rule k (on (same (key_of u) k) (rule held u) held) us
  unfolding replayed
  took held u us = refl

  pub withdrawn-skips : (us : List (List ℕ)) → Wide entry_wide us → among k (keys_named (message_entries n us)) ≡ false
      → (held : List ℕ) → replayed rule k held (standing (withdrawn n us)) ≡ replayed rule k held (standing us)
  unfolding standing withdrawn message_entries keys_named among
  withdrawn-skips [] w e held = refl
  withdrawn-skips (x ∷ us) w e held = go (eqb (number_of x) n) (eqb (kind_of x) 2) refl e (λ f h. withdrawn-skips us w.1 f h)
    where
      go : (t s : Bool) → eqb (kind_of x) 2 ≡ s → among k (keys_named (on t (x ∷ message_entries n us) (message_entries n us))) ≡ false
          → (among k (keys_named (message_entries n us)) ≡ false → (h : List ℕ) → replayed rule k h (standing (withdrawn n us)) ≡ replayed rule k h (standing us))
          → replayed rule k held (on (eqb (kind_of (on t (marked_withdrawn x) x)) 2) (entry_body (on t (marked_withdrawn x) x) ∷ standing (withdrawn n us)) (standing (withdrawn n us)))
          ≡ replayed rule k held (on s (entry_body x ∷ standing us) (standing us))
      go true true q f ih =
          let g = or-fail (same (key_of (entry_body x)) k) (among k (keys_named (message_entries n us))) f in
          rw (marked-kind x w.0) (ih g.1 held ∙ sym (took held (entry_body x) (standing us) ∙ ap (λ (t : Bool). replayed rule k (on t (rule held (entry_body x)) held) (standing us)) g.0))
      go true false q f ih =
          let g = or-fail (same (key_of (entry_body x)) k) (among k (keys_named (message_entries n us))) f in
          rw (marked-kind x w.0) (ih g.1 held)
      go false true q f ih = rw q (took held (entry_body x) (standing (withdrawn n us)) ∙ ih f _ ∙ sym (took held (entry_body x) (standing us)))
      go false false q f ih = rw q (ih f held)

skipped : (rule : Rule) (bodies : List (List ℕ)) (n : ℕ) (us : List (List ℕ)) → Wide entry_wide us → (k : List ℕ) → among k (keys_named (message_entries n us)) ≡ false
    → row_for rule bodies (withdrawn n us) k ≡ row_for rule bodies us k
unfolding row_for
skipped rule bodies n us w k e = withdrawn-skips rule n k us w e (get k (plan_rows bodies))

module _ (rule : Rule) (U Q : List ℕ → Type 0) (keeps : (held u : List ℕ) → U u → RowOf (key_of u) held → key_of (rule held u) ≡ key_of u)
    (gives : (held u : List ℕ) → U u → (held ≡ []) ⊎ Q held → Q (rule held u)) (full : (r : List ℕ) → Q r → 0 < length r)
    (bodies us : List (List ℕ)) (plan-rows : Each Q (plan_rows bodies)) (plan-sorted : sorted_rows (plan_rows bodies) ≡ true) (wide : Wide entry_wide us) (updates : Each U (standing us)) where
  -- the rows that the book gives
  abbrev pub replay_of : List (List ℕ) → List (List ℕ)
  replay_of es = taken_all rule (standing es) (plan_rows bodies)

  own : (es : List (List ℕ)) → Each U (standing es) → (k : List ℕ) → RowOf k (row_for rule bodies es k)
  unfolding row_for
  own es h k = replayed-key rule U keeps k (get k (plan_rows bodies)) (standing es) h (get-own k (plan_rows bodies))

  get-replay : (es : List (List ℕ)) → Each U (standing es) → (k : List ℕ) → get k (replay_of es) ≡ row_for rule bodies es k
  unfolding row_for
  get-replay es h k = get-taken_all rule U keeps k (standing es) (plan_rows bodies) h

  filled : (es : List (List ℕ)) → Each U (standing es) → Filled (replay_of es)
  filled es h = each-full rule U Q keeps gives full (replay_of es) (each-taken_all rule U Q gives (standing es) (plan_rows bodies) h plan-rows)

  ordered : (es : List (List ℕ)) → sorted_rows (replay_of es) ≡ true
  ordered es = sorted-taken_all rule (standing es) (plan_rows bodies) plan-sorted

  -- the passages of message n worked out again are all the rows of the book in which it is withdrawn
  pub agrees-withdrawn : (n : ℕ) → reworked (row_for rule bodies (withdrawn n us)) (keys_named (message_entries n us)) (replay_of us) ≡ replay_of (withdrawn n us)
  agrees-withdrawn n =
      rows-equal (reworked works keys (replay_of us)) (replay_of (withdrawn n us)) (sorted-reworked works keys (replay_of us) (ordered us)) (ordered (withdrawn n us))
      (filled-reworked works keys (replay_of us) (filled us updates)) (filled (withdrawn n us) left)
      (λ k. get-reworked works (own (withdrawn n us) left) k keys (replay_of us) (ordered us) ∙ go k (among k keys) refl)
    where
      works : List ℕ → List ℕ
      works = row_for rule bodies (withdrawn n us)

      keys : List (List ℕ)
      keys = keys_named (message_entries n us)

      left : Each U (standing (withdrawn n us))
      left = each-withdrawn U n us wide updates

      go : (k : List ℕ) (t : Bool) → among k keys ≡ t → on t (works k) (get k (replay_of us)) ≡ get k (replay_of (withdrawn n us))
      go k true e = sym (get-replay (withdrawn n us) left k)
      go k false e = get-replay us updates k ∙ sym (skipped rule bodies n us wide k e) ∙ sym (get-replay (withdrawn n us) left k)
