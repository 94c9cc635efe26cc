use Prim.Native.Nat.{ℕ, ◌+◌}
use native.Mathlib.Omega.{arith}
use mathlib.Core.Path.{◌≡◌, refl, sym, ap, subst, ◌∙◌}
use mathlib.Core.Bool.{Bool, true, false, not, ◌&&◌}
use mathlib.Core.List.{List, [], ◌∷◌}
use borrow.Author.Tests.{eq-eqb, ne_eqb, eqb-true, eqb-false}
use lib.Dec.{eqb}
use lib.ListN.{length, replicate}
use Rattle.std.specs.Prelude.{Err}
use Rattle.lists.specs.Logic.{on}
use Rattle.lists.specs.Text.{same}
use Rattle.lists.specs.Part.{over}
use Rattle.turbo_lines.specs.declared.Mark.{Mark}
use Rattle.turbo_lines.specs.declared.Mark.TheVariants as Marks
use Rattle.turbo.specs.Split.{until, fields}
use Rattle.turbo_lines.specs.Lines.{mark_of, after_mark}
use Rattle.columns.specs.declared.Table.{Table}
use Rattle.columns.specs.Tables.{table_name, row_of, wrong_column, label_fault}
use Rattle.rows.specs.declared.Shape.{Shape}
use Rattle.rows.specs.Shape.{shape_of}
use Rattle.rows.specs.Reading.{read_by, read_given}
use Rattle.columns.specs.Layout.{widest_row}
use Rattle.reader_step.specs.declared.Place as Spots
use Rattle.reader_step.specs.declared.Place.TheVariants.{Outside, Awaiting, Under}
use Rattle.reader_step.specs.declared.State.{State}
use Rattle.reader_step.specs.Place.{is_awaiting, is_under}
use Rattle.reader.specs.declared.Fault.TheVariants.{Form}
use Rattle.reader.specs.Items.{Item, head, row, Place, outside, awaiting, under, place_after, seen, in_front}
use Rattle.reader.specs.Rules.{Reading, form_bad, is_wrong, owner_bad, first_line, first_column}
use Rattle.reader.specs.Staging.{rows_up_to}
use Rattle.reader.specs.inner.Settled.{answered_by}
use Rattle.reader_step.specs.Step.{moved, misformed, labelled, mistyped, disowned, one_row_more, row_step, data_step, label_step, step_at, step_by}
use Rattle.register.specs.Register.{may_send}

-- The answer by lines: what a line changes in the state is what its item changes in the answer. Assumes nothing.

-- a where there is one, else b
abbrev pub first : ℕ → ℕ → ℕ
first a b = on (eqb a 0) b a

abbrev pub clean : State → Bool
clean s = eqb s.wrong 0 && eqb s.owner 0

-- what the rest of the items can still give, and the answer from a state on
abbrev pub rows_from : Table → List ℕ → ℕ → State → List Item → List (List ℕ)
rows_from t register sender s xs = on (clean s) (rows_up_to t register sender xs) []

abbrev pub settled_from : Table → List ℕ → ℕ → State → List Item → Reading
settled_from t register sender s xs =
    answered_by
    (first_line (form_bad t) xs)
    (first s.wrong (first_line (is_wrong t) xs))
    (on (eqb s.wrong 0) (first_column t xs) s.column)
    (first s.owner (first_line (owner_bad t register sender) xs))
    (s.rows + length (rows_from t register sender s xs))

-- the state stands at a place in the line order
abbrev pub Agrees : Table → State → Place → Type 0
Agrees t s outside = s.place ≡ Outside
Agrees t s awaiting = s.place ≡ Awaiting
Agrees t s (under ls) = (s.place ≡ Under) × (s.shape ≡ shape_of t ls) × (label_fault t ls ≡ false)

-- what a line leaves: a fault of form ends it, else the state stands at the next place and the answer is the same
abbrev pub Goes : Table → List ℕ → ℕ → State → State → List Item → Place → List Item → Type 0
Goes t register sender s n ys p xs =
    ((n.form ≡ 0 → ⊥) → settled_from t register sender s (in_front ys xs) ≡ Err (Form n.form))
    × (n.form ≡ 0 → Agrees t n p × (settled_from t register sender s (in_front ys xs) ≡ settled_from t register sender n xs))
    × (n.line ≡ s.line + 1)

on-fault : (b : Bool) (x y : Shape) → x.fault ≡ true → y.fault ≡ false → (on b x y).fault ≡ b
on-fault true x y p q = p
on-fault false x y p q = q

pub shape-fault : (t : Table) (ls : List (List ℕ)) → (shape_of t ls).fault ≡ label_fault t ls
unfolding shape_of
shape-fault t ls = on-fault (label_fault t ls) _ _ refl refl

pub shape-count : (t : Table) (ls : List (List ℕ)) → label_fault t ls ≡ false → (shape_of t ls).count ≡ length ls
unfolding shape_of
shape-count t ls e = rw e

-- an item that changes nothing
head-fine : (t : Table) (register : List ℕ) (sender : ℕ) (s : State) (n : ℕ) (ls : List (List ℕ)) (xs : List Item) → label_fault t ls ≡ false
    → settled_from t register sender s (head n ls ∷ xs) ≡ settled_from t register sender s xs
unfolding first_line first_column rows_up_to
head-fine t register sender s n ls xs e = rw e

head-bad : (t : Table) (register : List ℕ) (sender : ℕ) (s : State) (n : ℕ) (ls : List (List ℕ)) (xs : List Item) → label_fault t ls ≡ true → (n ≡ 0 → ⊥)
    → settled_from t register sender s (head n ls ∷ xs) ≡ Err (Form n)
unfolding first_line
head-bad t register sender s n ls xs e h = rw (e, ne_eqb n 0 h)

module _ (t : Table) (register : List ℕ) (sender : ℕ) (s : State) (form : s.form ≡ 0) (from : s.line ≡ 0 → ⊥) where
  -- a line that is nothing to the reader
  passes : (p : Place) (n : Spots.Place) (xs : List Item) → Agrees t (moved s n) p → Goes t register sender s (moved s n) [] p xs
  passes p n xs a = (λ h. absurd (h form), λ h. (a, refl), refl)

  -- ---- a label line
  labels-go : (ls : List (List ℕ)) (xs : List Item) → (b : Bool) → label_fault t ls ≡ b
      → Goes t register sender s (on b (misformed s) (labelled s (shape_of t ls))) (head s.line ls ∷ []) (under ls) xs
  labels-go ls xs true e = (λ h. head-bad t register sender s s.line ls xs e from, λ h. absurd (from h), refl)
  labels-go ls xs false e = (λ h. absurd (h form), λ h. ((refl, refl, e), head-fine t register sender s s.line ls xs e), refl)

  labels-step : (ls : List (List ℕ)) (xs : List Item) → Goes t register sender s (label_step s (shape_of t ls)) (head s.line ls ∷ []) (under ls) xs
  unfolding label_step
  labels-step ls xs =
      subst (λ (b : Bool). Goes t register sender s (on b (misformed s) (labelled s (shape_of t ls))) (head s.line ls ∷ []) (under ls) xs) (sym (shape-fault t ls))
      (labels-go ls xs (label_fault t ls) refl)

  -- ---- a data line under labels
  module _
      (ls : List (List ℕ)) (l : List ℕ) (xs : List Item)
      (there : s.place ≡ Under) (shape : s.shape ≡ shape_of t ls) (right : label_fault t ls ≡ false)
      (reads : read_by t (shape_of t ls) l ≡ read_given (wrong_column t ls l) (row_of t ls l))
      (sends : wrong_column t ls l ≡ 0 → may_send t register sender (over 0 (row_of t ls l) (replicate widest_row 0)) ≡ may_send t register sender (row_of t ls l)) where
    stays : (n : State) → n.place ≡ s.place → n.shape ≡ s.shape → Agrees t n (under ls)
    stays n p q = (p ∙ there, q ∙ shape, right)

    -- the field count is not that of the labels
    many : eqb (length (fields l)) (length ls) ≡ false → Goes t register sender s (misformed s) (row s.line ls l ∷ []) (under ls) xs
    unfolding first_line
    many e = (λ h. rw (e, ne_eqb s.line 0 from), λ h. absurd (from h), refl)

    module _ (count : eqb (length (fields l)) (length ls) ≡ true) where
      -- a field was wrong before
      known : (s.wrong ≡ 0 → ⊥) → Goes t register sender s (moved s s.place) (row s.line ls l ∷ []) (under ls) xs
      unfolding first_line first_column
      known h = (
        λ f. absurd (f form),
        λ f. (
          stays (moved s s.place) refl refl,
          simp (count, ne_eqb s.wrong 0 h),
        ),
        refl,
      )

      module _ (first-wrong : s.wrong ≡ 0) where
        -- a field is wrong here
        wrong-here : (wrong_column t ls l ≡ 0 → ⊥) → Goes t register sender s (mistyped s (wrong_column t ls l)) (row s.line ls l ∷ []) (under ls) xs
        unfolding first_line first_column
        wrong-here h = (
          λ f. absurd (f form),
          λ f. (
            stays (mistyped s (wrong_column t ls l)) refl refl,
            simp (count, first-wrong, ne_eqb (wrong_column t ls l) 0 h, ne_eqb s.line 0 from),
          ),
          refl,
        )

        module _ (typed : wrong_column t ls l ≡ 0) where
          -- an owner was not the sender's before
          owned-before : (s.owner ≡ 0 → ⊥) → Goes t register sender s (moved s s.place) (row s.line ls l ∷ []) (under ls) xs
          unfolding first_line first_column
          owned-before h = (
            λ f. absurd (f form),
            λ f. (stays (moved s s.place) refl refl, simp (count, typed, first-wrong, ne_eqb s.owner 0 h)),
            refl,
          )

          module _ (first-owner : s.owner ≡ 0) where
            disowned-here : may_send t register sender (row_of t ls l) ≡ false → Goes t register sender s (disowned s) (row s.line ls l ∷ []) (under ls) xs
            unfolding first_line first_column rows_up_to
            disowned-here h = (
              λ f. absurd (f form),
              λ f. (stays (disowned s) refl refl, simp (count, typed, first-wrong, first-owner, h, ne_eqb s.line 0 from)),
              refl,
            )

            sent-here : may_send t register sender (row_of t ls l) ≡ true → Goes t register sender s (one_row_more s) (row s.line ls l ∷ []) (under ls) xs
            unfolding first_line first_column rows_up_to
            sent-here h = (
              λ f. absurd (f form),
              λ f. (stays (one_row_more s) refl refl, simp (count, typed, first-wrong, first-owner, h) (ap (λ (n : ℕ). answered_by (first_line (form_bad t) xs) (first_line (is_wrong t) xs) (first_column t xs) (first_line (owner_bad t register sender) xs) n) (omega arith))),
              refl,
            )

    -- a data line, by the tests that are made of it
    abbrev tested : Bool → Bool → Bool → Bool → Bool → State
    tested b₁ b₂ b₃ b₄ b₅ =
        on b₁
        (on b₂ (on b₃ (on b₄ (on b₅ (one_row_more s) (disowned s)) (moved s s.place)) (mistyped s (wrong_column t ls l))) (moved s s.place))
        (misformed s)

    data-go : (b₁ b₂ b₃ b₄ b₅ : Bool)
        → eqb (length (fields l)) (length ls) ≡ b₁ → eqb s.wrong 0 ≡ b₂ → eqb (wrong_column t ls l) 0 ≡ b₃ → eqb s.owner 0 ≡ b₄ → may_send t register sender (row_of t ls l) ≡ b₅
        → Goes t register sender s (tested b₁ b₂ b₃ b₄ b₅) (row s.line ls l ∷ []) (under ls) xs
    data-go false b₂ b₃ b₄ b₅ p q r u v = many p
    data-go true false b₃ b₄ b₅ p q r u v = known p (eqb-false _ _ q)
    data-go true true false b₄ b₅ p q r u v = wrong-here p (eqb-true _ _ q) (eqb-false _ _ r)
    data-go true true true false b₅ p q r u v = owned-before p (eqb-true _ _ q) (eqb-true _ _ r) (eqb-false _ _ u)
    data-go true true true true false p q r u v = disowned-here p (eqb-true _ _ q) (eqb-true _ _ r) (eqb-true _ _ u) v
    data-go true true true true true p q r u v = sent-here p (eqb-true _ _ q) (eqb-true _ _ r) (eqb-true _ _ u) v

    -- what is read of the line, in the state's step
    row-step : (b : Bool) → eqb (wrong_column t ls l) 0 ≡ b → row_step t register sender s (read_given (wrong_column t ls l) (row_of t ls l))
        ≡ on b (on (eqb s.owner 0) (on (may_send t register sender (row_of t ls l)) (one_row_more s) (disowned s)) (moved s s.place)) (mistyped s (wrong_column t ls l))
    unfolding row_step
    row-step true e = rw e (ap (λ (b : Bool). on (eqb s.owner 0) (on b (one_row_more s) (disowned s)) (moved s s.place)) (sends (eqb-true _ _ e)))
    row-step false e = simp e

    pub data-tested : data_step t register sender s l
        ≡ tested (eqb (length (fields l)) (length ls)) (eqb s.wrong 0) (eqb (wrong_column t ls l) 0) (eqb s.owner 0) (may_send t register sender (row_of t ls l))
    unfolding data_step
    data-tested =
        ap (λ (h : Shape). on (eqb (length (fields l)) h.count) (on (eqb s.wrong 0) (row_step t register sender s (read_by t h l)) (moved s s.place)) (misformed s)) shape
        ∙ ap (λ (n : ℕ). on (eqb (length (fields l)) n) (on (eqb s.wrong 0) (row_step t register sender s (read_by t (shape_of t ls) l)) (moved s s.place)) (misformed s)) (shape-count t ls right)
        ∙ ap (λ (r : State). on (eqb (length (fields l)) (length ls)) (on (eqb s.wrong 0) r (moved s s.place)) (misformed s))
        (ap (row_step t register sender s) reads ∙ row-step (eqb (wrong_column t ls l) 0) refl)

    data-step : Goes t register sender s (data_step t register sender s l) (row s.line ls l ∷ []) (under ls) xs
    data-step =
        subst (λ (n : State). Goes t register sender s n (row s.line ls l ∷ []) (under ls) xs) (sym data-tested)
        (data-go _ _ _ _ _ refl refl refl refl refl)

-- what is used of the rows below: a shape reads a line as the rule says, and a row's front is its owner
abbrev pub Reads : Table → List ℕ → ℕ → List ℕ → Type 0
Reads t register sender l =
    (ls : List (List ℕ)) → label_fault t ls ≡ false →
    (read_by t (shape_of t ls) l ≡ read_given (wrong_column t ls l) (row_of t ls l))
    × (wrong_column t ls l ≡ 0 → may_send t register sender (over 0 (row_of t ls l) (replicate widest_row 0)) ≡ may_send t register sender (row_of t ls l))

-- a line, whatever its mark
module _ (t : Table) (register : List ℕ) (sender : ℕ) (s : State) (form : s.form ≡ 0) (from : s.line ≡ 0 → ⊥) (l : List ℕ) (reads : Reads t register sender l) (xs : List Item) where
  name-go : (b : Bool) → Goes t register sender s (moved s (on b Awaiting Outside)) [] (on b awaiting outside) xs
  name-go true = passes t register sender s form from awaiting Awaiting xs refl
  name-go false = passes t register sender s form from outside Outside xs refl

  mark-go : (m : Mark) (p : Place) → Agrees t s p → Goes t register sender s (step_at t register sender s l m) (seen m s.line l p) (place_after t m l p) xs
  mark-go Marks.Group p a = passes t register sender s form from outside Outside xs refl
  mark-go Marks.Table p a = name-go (same (until 124 (after_mark l)) (table_name t))
  mark-go Marks.Labels outside a = rw (ap is_awaiting a) (passes t register sender s form from outside Outside xs refl)
  mark-go Marks.Labels awaiting a = rw (ap is_awaiting a) (labels-step t register sender s form from (fields (after_mark l)) xs)
  mark-go Marks.Labels (under ls) a = rw (ap is_awaiting a.0) (passes t register sender s form from outside Outside xs refl)
  mark-go Marks.Data outside a = rw (ap is_under a) (passes t register sender s form from outside s.place xs a)
  mark-go Marks.Data awaiting a = rw (ap is_under a) (passes t register sender s form from awaiting s.place xs a)
  mark-go Marks.Data (under ls) a =
      let r = reads ls a.2 in
      rw (ap is_under a.0) (data-step t register sender s form from ls l xs a.0 a.1 a.2 r.0 r.1)

  pub line-go : (p : Place) → Agrees t s p → Goes t register sender s (step_by t register sender s l) (seen (mark_of l) s.line l p) (place_after t (mark_of l) l p) xs
  unfolding step_by
  line-go p a = mark-go (mark_of l) p a
