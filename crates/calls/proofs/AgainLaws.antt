-- Demand 2: what an accepted withdrawal leaves: kinds in the book, and passages worked out again. Assumes nothing.
use Prim.Native.Nat.{ℕ, zero, suc, ◌+◌, ◌*◌, ◌≤◌, ◌<◌}
use native.Mathlib.Omega.{arith}
use mathlib.Core.Path.{◌≡◌, refl, sym, ap, ◌∙◌}
use mathlib.Core.Bool.{Bool, true, false, ◌||◌}
use mathlib.Core.List.{List, [], ◌∷◌, ◌++◌, map}
use mathlib.Core.Logic.{◌⊎◌}
use borrow.Author.Tests.{eq-eqb, eqb-true}
use lib.Dec.{eqb}
use lib.ListN.{length, take, drop, get_or, length-append}
use Rattle.lists.specs.Logic.{on}
use Rattle.lists.specs.Each.{Each}
use Rattle.lists.specs.Text.{same}
use Rattle.lists.specs.Rows.{rows_of, flat, Wide}
use Rattle.lists.proofs.OverLaws.{over-fits}
use Rattle.lists.proofs.PartLaws.{length_part}
use Rattle.lists.proofs.StoreLaws.{rows_of-store}
use Rattle.lists.proofs.WideLaws.{wide-rows_of, length-flat}
use Rattle.passage.specs.Layout.{body_wide, row_wide, key_of}
use Rattle.keys.specs.Sorted.{get}
use Rattle.keys.specs.Replay.{replayed}
use Rattle.keys.proofs.KeyLaws.{cmp-refl, cmp-is-same}
use Rattle.keys.proofs.ReplayLaws.{RowOf, among, get-own, get_has, replayed-key, replayed-has, each-reworked, get-reworked}
use Rattle.lists.proofs.TextLaws.{same-equal}
use Rattle.update.specs.Rule.{row_rule}
use Rattle.table.proofs.SoundLaws.{room-holds, sound-fits, sound-sorted}
use Rattle.book.specs.Entries.{plan_wide, body_at, entry_wide, number_of, kind_of, entry_body, plan_count, plan_bodies, updates_in}
use Rattle.book.specs.Rules.{keys_named, book_sound, message_entries, marked_withdrawn, withdrawn, others, standing, plan_row, plan_rows, row_for}
use Rattle.book.specs.Claims.{PlanBodies}
use Rattle.book.proofs.SoundLaws.{sound-facts, used-within}
use Rattle.book.proofs.SplitLaws.{sound-split, wide-updates, length-updates}
use Rattle.book.proofs.WriteLaws.{length_marked}
use Rattle.book.proofs.StandingLaws.{standing-withdrawn, sound-plan-ranges}
use Rattle.calls.specs.declared.Counts.{Counts}
use Rattle.calls.specs.Answers.{is_accepted}
use Rattle.calls.specs.Withdraw.{rows_without, withdraw_answer, book_without, table_without, without_by, withdraw_leaves}
use Rattle.calls.specs.Claims.{WithdrawMarksEntries, WithdrawWorksOutAgain}
use Rattle.calls.proofs.AcceptedLaws.{Left, left}
use Rattle.calls.proofs.TakenLaws.{IsBody, IsRow, keeps, whole}

-- ---- entries of kind 3

abbrev marked : ℕ → List ℕ → List ℕ
marked n e = on (eqb (number_of e) n) (3 ∷ drop 1 e) e

mark-is : (e : List ℕ) → length e ≡ entry_wide → marked_withdrawn e ≡ 3 ∷ drop 1 e
unfolding marked_withdrawn
mark-is [] h = absurd (omega arith)
mark-is (b ∷ e) h = refl

withdrawn-is : (n : ℕ) (es : List (List ℕ)) → Wide entry_wide es → withdrawn n es ≡ map (marked n) es
unfolding withdrawn
withdrawn-is n [] h = refl
withdrawn-is n (e ∷ es) h = rw (mark-is e h.0, withdrawn-is n es h.1)

wide-withdrawn : (n : ℕ) (es : List (List ℕ)) → Wide entry_wide es → Wide entry_wide (withdrawn n es)
unfolding withdrawn
wide-withdrawn n [] h = tt
wide-withdrawn n (e ∷ es) h = (go (eqb (number_of e) n), wide-withdrawn n es h.1)
  where
    go : (t : Bool) → length (on t (marked_withdrawn e) e) ≡ entry_wide
    go true = length_marked e ∙ h.0
    go false = h.0

length-withdrawn : (n : ℕ) (es : List (List ℕ)) → length (withdrawn n es) ≡ length es
unfolding withdrawn
length-withdrawn n [] = refl
length-withdrawn n (e ∷ es) = ap suc (length-withdrawn n es)

module _ (used : ℕ) (book : List ℕ) (n : ℕ) (sound : book_sound used book ≡ true) where
  abbrev us : List (List ℕ)
  us = updates_in used book

  abbrev at : ℕ
  at = plan_count used book * plan_wide

  -- the entries end where the used bytes end
  ends : at + length (flat (withdrawn n us)) ≡ used
  ends =
      let w = (sound-split used book sound).whole in
      let l = length-flat entry_wide (withdrawn n us) (wide-withdrawn n us (wide-updates used book sound)) in
      let m = length-withdrawn n us in
      let k = length-updates used book sound in
      rw (l, m, k) (sym w)

  pub book-marked : book_without n book used ≡ take at book ++ (flat (map (marked n) us) ++ drop used book)
  unfolding book_without
  book-marked =
      let f = (used-within used book (sound-facts used book sound)).0 in
      let e = ends in
      over-fits at (flat (withdrawn n us)) book (omega arith)
      ∙ ap (λ (m : ℕ). take at book ++ (flat (withdrawn n us) ++ drop m book)) e
      ∙ ap (λ (es : List (List ℕ)). take at book ++ (flat es ++ drop used book)) (withdrawn-is n us (wide-updates used book sound))

pub marks-entries : WithdrawMarksEntries
unfolding withdraw_leaves without_by
marks-entries book table n sender c e =
    let p = left book table n sender c e in
    rw e (refl, book-marked c.used book n p.book-sound)

-- ---- what the book gives for a key

standing-wide : (es : List (List ℕ)) → Wide entry_wide es → Wide body_wide (standing es)
unfolding standing
standing-wide [] h = tt
standing-wide (e ∷ es) h = go (eqb (kind_of e) 2) (standing-wide es h.1)
  where
    go : (t : Bool) → Wide body_wide (standing es) → Wide body_wide (on t (entry_body e ∷ standing es) (standing es))
    go true ih = (length_part body_at body_wide e (let l : length e ≡ entry_wide = h.0 in omega arith), ih)
    go false ih = ih

plan-rows-wide : (bodies : List (List ℕ)) → PlanBodies bodies → Wide row_wide (plan_rows bodies)
unfolding plan_rows plan_row
plan-rows-wide [] h = tt
plan-rows-wide (b ∷ bs) h = (length-append b (0 ∷ []) ∙ (let l : length b ≡ body_wide = h.0.0 in omega arith), plan-rows-wide bs h.1)

-- an entry of the message names its key
names : (n : ℕ) (es : List (List ℕ)) (i : ℕ) → i < length es → number_of (get_or es i []) ≡ n → among (key_of (entry_body (get_or es i []))) (keys_named (message_entries n es)) ≡ true
unfolding message_entries keys_named among
names n [] i h e = absurd (omega arith)
names n (x ∷ es) zero h e = rw (eq-eqb (number_of x) n e, cmp-is-same (key_of (entry_body x)) (key_of (entry_body x)) (cmp-refl (key_of (entry_body x))))
names n (x ∷ es) (suc i) h e = go (eqb (number_of x) n) (names n es i (omega arith) e)
  where
    k : List ℕ
    k = key_of (entry_body (get_or es i []))

    or-true : (b : Bool) → (b || true) ≡ true
    or-true true = refl
    or-true false = refl

    go : (t : Bool) → among k (keys_named (message_entries n es)) ≡ true → among k (keys_named (on t (x ∷ message_entries n es) (message_entries n es))) ≡ true
    go true ih = rw ih (or-true (same (key_of (entry_body x)) k))
    go false ih = ih

-- a key that none of them names
names-not : (n : ℕ) (k : List ℕ) (es : List (List ℕ)) → Each (λ (e : List ℕ). number_of e ≡ n → key_of (entry_body e) ≡ k → ⊥) es → among k (keys_named (message_entries n es)) ≡ false
unfolding message_entries keys_named among
names-not n k [] h = refl
names-not n k (x ∷ es) h = go (eqb (number_of x) n) refl (same (key_of (entry_body x)) k) refl (names-not n k es h.1)
  where
    go : (t : Bool) → eqb (number_of x) n ≡ t → (s : Bool) → same (key_of (entry_body x)) k ≡ s → among k (keys_named (message_entries n es)) ≡ false
        → among k (keys_named (on t (x ∷ message_entries n es) (message_entries n es))) ≡ false
    go true p true q ih = absurd (h.0 (eqb-true _ _ p) (same-equal (key_of (entry_body x)) k q))
    go true p false q ih = rw (q, ih)
    go false p s q ih = ih

module _ (book table : List ℕ) (n : ℕ) (c : Counts) (sound : book_sound c.used book ≡ true) where
  abbrev updates : List (List ℕ)
  updates = updates_in c.used book

  abbrev plans : List (List ℕ)
  plans = plan_rows (plan_bodies c.used book)

  abbrev works : List ℕ → List ℕ
  works = row_for row_rule (plan_bodies c.used book) (withdrawn n updates)

  less-wide : Wide body_wide (standing (withdrawn n updates))
  less-wide = standing-wide (withdrawn n updates) (wide-withdrawn n updates (wide-updates c.used book sound))

  works-own : (k : List ℕ) → RowOf k (works k)
  unfolding row_for
  works-own k = replayed-key row_rule IsBody keeps k (get k plans) (standing (withdrawn n updates)) less-wide (get-own k plans)

  works-whole : (k : List ℕ) → (works k ≡ []) ⊎ IsRow (works k)
  unfolding row_for
  works-whole k =
      replayed-has row_rule IsBody IsRow whole k (get k plans) (standing (withdrawn n updates)) less-wide
      (get_has IsRow k plans (plan-rows-wide (plan_bodies c.used book) (sound-plan-ranges c.used book sound)))

  works-as : (k : List ℕ) → works k ≡ replayed row_rule k (get k plans) (standing (others n updates))
  unfolding row_for
  works-as k = ap (λ (l : List (List ℕ)). replayed row_rule k (get k plans) l) (standing-withdrawn n updates (wide-updates c.used book sound))

  -- the rows that stay are whole
  pub without-wide : c.rows * row_wide ≤ length table → Wide row_wide (rows_without n book c.used table c.rows)
  unfolding rows_without
  without-wide fits = each-reworked works IsRow works-whole (keys_named (message_entries n updates)) (rows_of row_wide c.rows table) (wide-rows_of row_wide c.rows table fits)

module _ (book table : List ℕ) (n sender : ℕ) (c : Counts) (e : is_accepted (withdraw_answer n sender book table c) ≡ true) where
  abbrev rest : List (List ℕ)
  rest = rows_without n book c.used table c.rows

  passed : Left book table n sender c
  passed = left book table n sender c e

  -- what the table holds afterwards
  rows_left : rows_of row_wide (withdraw_leaves n sender book table c).outcome.counts.rows (withdraw_leaves n sender book table c).table ≡ rest
  unfolding withdraw_leaves without_by table_without
  rows_left =
      rw e
      (rows_of-store row_wide c.rows rest table (without-wide book table n c passed.book-sound (sound-fits c.rows table passed.table-sound))
      (room-holds (length rest) table passed.in_table))

  rest-get : (k : List ℕ) (t : Bool) → among k (keys_named (message_entries n (updates_in c.used book))) ≡ t
      → get k rest ≡ on t (works book table n c passed.book-sound k) (get k (rows_of row_wide c.rows table))
  unfolding rows_without
  rest-get k t h =
      get-reworked (works book table n c passed.book-sound) (works-own book table n c passed.book-sound) k
      (keys_named (message_entries n (updates_in c.used book))) (rows_of row_wide c.rows table) (sound-sorted c.rows table passed.table-sound)
      ∙ ap (λ (b : Bool). on b (works book table n c passed.book-sound k) (get k (rows_of row_wide c.rows table))) h

pub works-again : WithdrawWorksOutAgain
works-again book table n sender c e = (
  λ i h m.
      let us = updates_in c.used book in
      let k = key_of (entry_body (get_or us i [])) in
      ap (get k) (rows_left book table n sender c e)
      ∙ rest-get book table n sender c e k true (names n us i h m)
      ∙ works-as book table n c (passed book table n sender c e).book-sound k,
  λ k h.
      ap (get k) (rows_left book table n sender c e)
      ∙ rest-get book table n sender c e k false (names-not n k (updates_in c.used book) h),
)
