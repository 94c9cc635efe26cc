-- A line more: what is kept of the lines stays as numbers can tell it, and the staging area as long as it was. Assumes nothing.
use Prim.Native.Nat.{ℕ, ◌+◌, ◌*◌, ◌≤◌, ◌<◌}
use native.Mathlib.Omega.{arith}
use mathlib.Core.Path.{◌≡◌, refl, sym, ap, subst}
use mathlib.Core.Bool.{Bool, true, false}
use mathlib.Core.List.{List}
use lib.Dec.{eqb, leb}
use lib.ListN.{length, take}
use Rattle.lists.specs.Logic.{on}
use Rattle.lists.specs.Text.{same}
use Rattle.lists.proofs.OverLaws.{length_over}
use Rattle.turbo.specs.Split.{until, fields}
use Rattle.turbo_lines.specs.declared.Mark.{Mark}
use Rattle.turbo_lines.specs.declared.Mark.TheVariants as Marks
use Rattle.turbo_lines.specs.Lines.{mark_of, after_mark}
use Rattle.columns.specs.declared.Table.{Table}
use Rattle.columns.specs.Tables.{table_name, row_width, label_fault}
use Rattle.register.specs.Register.{may_send}
use Rattle.rows.specs.declared.Shape.{Shape}
use Rattle.std.specs.Prelude.{Result, Ok, Err}
use Rattle.rows.specs.Shape.{no_shape, shape_of}
use Rattle.rows.specs.Reading.{read_by}
use Rattle.rows.proofs.SoundLaws.{right_shape, shape_is, right-sound}
use Rattle.rows.proofs.RestoredLaws.{restored-shape}
use Rattle.reader_step.specs.declared.Place.{Place}
use Rattle.reader_step.specs.declared.Place.TheVariants.{Outside, Awaiting, Under}
use Rattle.reader_step.specs.declared.State.{State}
use Rattle.reader_step.specs.Place.{is_awaiting, is_under, is_known, place_number}
use Rattle.reader_step.specs.Step.{moved, misformed, labelled, mistyped, disowned, one_row_more, row_step, data_step, label_step, place_named, step_at, step_by, line_step}
use Rattle.reader_step.specs.Step.{staged, row_staged, data_staged, staged_at, stage_by, line_staged}
use Rattle.feeds.specs.Claims.{IsKept}

-- what is kept of the lines, in itself
pub record Lined (t : Table) (s : State) : Type 0 where
  pub first : 0 < s.line
  pub rows : s.rows < s.line
  pub form : s.form < s.line
  pub wrong : s.wrong < s.line
  pub owner : s.owner < s.line
  pub known : is_known s.place ≡ true
  pub labels : s.place ≡ Under → s.shape.fault ≡ false
  pub shape : IsKept t s.shape

-- n is s with a line more
pub record Steps (t : Table) (s n : State) : Type 0 where
  pub lined : Lined t n
  pub line : n.line ≡ s.line + 1
  pub rows : s.rows ≤ n.rows

on-steps : (t : Table) (b : Bool) (s x y : State) → Steps t s x → Steps t s y → Steps t s (on b x y)
on-steps t true s x y p q = p
on-steps t false s x y p q = q

-- a place that is not under labels
named-few : (b : Bool) → place_number (on b Awaiting Outside) < 2
named-few true = omega arith
named-few false = omega arith

named-known : (b : Bool) → is_known (on b Awaiting Outside) ≡ true
named-known true = refl
named-known false = refl

label-faulty : (s : State) (h : Shape) → h.fault ≡ true → label_step s h ≡ misformed s
unfolding label_step
label-faulty s h e = rw e

label-right : (s : State) (h : Shape) → h.fault ≡ false → label_step s h ≡ labelled s h
unfolding label_step
label-right s h e = rw e

shape-none : (t : Table) (labels : List (List ℕ)) → label_fault t labels ≡ true → shape_of t labels ≡ no_shape
unfolding shape_of
shape-none t labels e = rw e

module _ (t : Table) (s : State) (now : Lined t s) where
  pub moved-steps : (p : Place) → is_known p ≡ true → (p ≡ Under → s.shape.fault ≡ false) → Steps t s (moved s p)
  moved-steps p q k =
      let r = now.rows in
      let f = now.form in
      let w = now.wrong in
      let o = now.owner in
      record {
        lined = record { first = omega arith; rows = omega arith; form = omega arith; wrong = omega arith; owner = omega arith; known = q; labels = k; shape = now.shape };
        line = refl;
        rows = omega arith;
      }

  pub stays-steps : Steps t s (moved s s.place)
  stays-steps = moved-steps s.place now.known now.labels

  outside-steps : (p : Place) → is_known p ≡ true → place_number p < 2 → Steps t s (moved s p)
  outside-steps p q h = moved-steps p q (λ e. absurd (let n = ap place_number e in omega arith))

  misformed-steps : Steps t s (misformed s)
  misformed-steps =
      let r = now.rows in
      let w = now.wrong in
      let o = now.owner in
      record {
        lined = record { first = omega arith; rows = omega arith; form = omega arith; wrong = omega arith; owner = omega arith; known = now.known; labels = now.labels; shape = now.shape };
        line = refl;
        rows = omega arith;
      }

  mistyped-steps : (c : ℕ) → Steps t s (mistyped s c)
  mistyped-steps c =
      let r = now.rows in
      let f = now.form in
      let o = now.owner in
      record {
        lined = record { first = omega arith; rows = omega arith; form = omega arith; wrong = omega arith; owner = omega arith; known = now.known; labels = now.labels; shape = now.shape };
        line = refl;
        rows = omega arith;
      }

  disowned-steps : Steps t s (disowned s)
  disowned-steps =
      let r = now.rows in
      let f = now.form in
      let w = now.wrong in
      record {
        lined = record { first = omega arith; rows = omega arith; form = omega arith; wrong = omega arith; owner = omega arith; known = now.known; labels = now.labels; shape = now.shape };
        line = refl;
        rows = omega arith;
      }

  more-steps : Steps t s (one_row_more s)
  more-steps =
      let r = now.rows in
      let f = now.form in
      let w = now.wrong in
      let o = now.owner in
      record {
        lined = record { first = omega arith; rows = omega arith; form = omega arith; wrong = omega arith; owner = omega arith; known = now.known; labels = now.labels; shape = now.shape };
        line = refl;
        rows = omega arith;
      }

  labelled-steps : (h : Shape) → h.fault ≡ false → IsKept t h → Steps t s (labelled s h)
  labelled-steps h e k =
      let r = now.rows in
      let f = now.form in
      let w = now.wrong in
      let o = now.owner in
      record {
        lined = record { first = omega arith; rows = omega arith; form = omega arith; wrong = omega arith; owner = omega arith; known = refl; labels = λ _. e; shape = k };
        line = refl;
        rows = omega arith;
      }

  row-steps : (register : List ℕ) (sender : ℕ) (r : Result (List ℕ) ℕ) → Steps t s (row_step t register sender s r)
  unfolding row_step
  row-steps register sender (Ok row) =
      on-steps t (eqb s.owner 0) s _ _ (on-steps t (may_send t register sender row) s _ _ more-steps disowned-steps) stays-steps
  row-steps register sender (Err c) = mistyped-steps c

  data-steps : (register : List ℕ) (sender : ℕ) (l : List ℕ) → Steps t s (data_step t register sender s l)
  unfolding data_step
  data-steps register sender l =
      on-steps t (eqb (length (fields l)) s.shape.count) s _ _
      (on-steps t (eqb s.wrong 0) s _ _ (row-steps register sender (read_by t s.shape l)) stays-steps)
      misformed-steps

  -- a shape that a label line gave is the one that its numbers give
  label-steps : (labels : List (List ℕ)) → Steps t s (label_step s (shape_of t labels))
  label-steps labels = go (label_fault t labels) refl
    where
      faulty : (h : Shape) → h.fault ≡ true → Steps t s (label_step s h)
      faulty h e = subst (λ (n : State). Steps t s n) (sym (label-faulty s h e)) misformed-steps

      right : (h : Shape) → h.fault ≡ false → IsKept t h → Steps t s (label_step s h)
      right h e k = subst (λ (n : State). Steps t s n) (sym (label-right s h e)) (labelled-steps h e k)

      go : (b : Bool) → label_fault t labels ≡ b → Steps t s (label_step s (shape_of t labels))
      go true e = faulty (shape_of t labels) (ap (λ (h : Shape). h.fault) (shape-none t labels e))
      go false e =
          subst (λ (h : Shape). Steps t s (label_step s h)) (sym (shape_is t labels e))
          (right (right_shape t labels) refl
          (let g = right-sound t labels e in (g.room, sym (restored-shape t (right_shape t labels) g refl))))

  mark-steps : (register : List ℕ) (sender : ℕ) (l : List ℕ) (m : Mark) → Steps t s (step_at t register sender s l m)
  mark-steps register sender l Marks.Group = outside-steps Outside refl (omega arith)
  mark-steps register sender l Marks.Table = outside-steps (place_named t (until 124 (after_mark l))) (named-known (same (until 124 (after_mark l)) (table_name t))) (named-few (same (until 124 (after_mark l)) (table_name t)))
  mark-steps register sender l Marks.Labels = on-steps t (is_awaiting s.place) s _ _ (label-steps (fields (after_mark l))) (outside-steps Outside refl (omega arith))
  mark-steps register sender l Marks.Data = on-steps t (is_under s.place) s _ _ (data-steps register sender l) stays-steps

  by-steps : (register : List ℕ) (sender : ℕ) (l : List ℕ) → Steps t s (step_by t register sender s l)
  unfolding step_by
  by-steps register sender l = mark-steps register sender l (mark_of l)

  pub line-steps : (register : List ℕ) (sender : ℕ) (l : List ℕ) → Steps t s (line_step t register sender s l)
  unfolding line_step
  line-steps register sender l = on-steps t (eqb s.form 0) s _ _ (by-steps register sender l) stays-steps

-- ---- the staging area keeps its length

on-length : (b : Bool) (x y : List ℕ) (n : ℕ) → length x ≡ n → length y ≡ n → length (on b x y) ≡ n
on-length true x y n p q = p
on-length false x y n p q = q

module _ (t : Table) (register : List ℕ) (sender : ℕ) (s : State) (st : List ℕ) where
  staged-length : (n : ℕ) (r : List ℕ) → length (staged t n r st) ≡ length st
  unfolding staged
  staged-length n r = on-length (leb ((n + 1) * row_width t) (length st)) _ st _ (length_over (n * row_width t) (take (row_width t) r) st) refl

  row-length : (r : Result (List ℕ) ℕ) → length (row_staged t register sender s r st) ≡ length st
  unfolding row_staged
  row-length (Ok row) = on-length (eqb s.owner 0) _ st _ (on-length (may_send t register sender row) _ st _ (staged-length s.rows row) refl) refl
  row-length (Err c) = refl

  data-length : (l : List ℕ) → length (data_staged t register sender s l st) ≡ length st
  unfolding data_staged
  data-length l =
      on-length (eqb (length (fields l)) s.shape.count) _ st _
      (on-length (eqb s.wrong 0) _ st _ (row-length (read_by t s.shape l)) refl)
      refl

  mark-length : (l : List ℕ) (m : Mark) → length (staged_at t register sender s l m st) ≡ length st
  mark-length l Marks.Group = refl
  mark-length l Marks.Table = refl
  mark-length l Marks.Labels = refl
  mark-length l Marks.Data = on-length (is_under s.place) _ st _ (data-length l) refl

  by_length : (l : List ℕ) → length (stage_by t register sender s l st) ≡ length st
  unfolding stage_by
  by_length l = mark-length l (mark_of l)

  pub line-length : (l : List ℕ) → length (line_staged t register sender s l st) ≡ length st
  unfolding line_staged
  line-length l = on-length (eqb s.form 0) _ st _ (by_length l) refl
