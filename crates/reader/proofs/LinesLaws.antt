use Prim.Native.Nat.{ℕ, zero, suc, ◌+◌, ◌/◌, ◌≤◌, ◌<◌}
use native.Mathlib.Omega.{arith}
use native.Mathlib.Numerals.{add-one}
use mathlib.Core.Path.{◌≡◌, refl, sym, ap, subst, ◌∙◌}
use mathlib.Core.Bool.{Bool, true, false, not}
use mathlib.Core.List.{List, [], ◌∷◌, ◌++◌, append_assoc, append-nil}
use borrow.Author.Tests.{ltb-true, ltb-false, eqb-true}
use lib.Dec.{eqb, ltb}
use lib.ListN.{length, drop}
use lib.Seq.{take-nil}
use Rattle.std.specs.Prelude.{Ok, Err}
use Rattle.lists.specs.Logic.{on}
use Rattle.lists.specs.Part.{over}
use Rattle.lists.specs.Rows.{flat, Wide}
use Rattle.lists.proofs.OverLaws.{over-nil, length_over}
use Rattle.turbo_lines.specs.declared.Mark.{Mark}
use Rattle.turbo_lines.specs.declared.Mark.TheVariants as Marks
use Rattle.turbo.specs.Split.{until, past, fields}
use Rattle.turbo_lines.specs.Lines.{lines, mark_of, after_mark}
use Rattle.turbo_lines.proofs.LineLaws.{lines_cons, lines_none, after-line-shorter}
use Rattle.columns.specs.declared.Table.{Table}
use Rattle.columns.specs.Tables.{row_width}
use Rattle.reader_step.specs.declared.State.{State}
use Rattle.reader_step.specs.declared.Place.TheVariants.{Outside}
use Rattle.reader_step.specs.Place.{is_awaiting, is_under}
use Rattle.reader.specs.declared.Fault.TheVariants.{Form, Field, Owner}
use Rattle.reader.specs.Items.{Item, Place, outside, place_after, seen, in_front, items}
use Rattle.rows.specs.declared.Shape.{Shape}
use Rattle.std.specs.Prelude.{Result, Ok, Err}
use Rattle.rows.specs.Shape.{shape_of}
use Rattle.rows.specs.Reading.{read_by}
use Rattle.reader.specs.Rules.{first_line, first_column, answer_to}
use Rattle.reader.specs.Staging.{rows_up_to, laid}
use Rattle.reader.specs.inner.Settled.{answered_by}
use Rattle.reader_step.specs.Step.{moved, misformed, labelled, mistyped, disowned, one_row_more, row_step, data_step, label_step, step_at, step_by, stage_by, line_step, line_staged, Fresh}
use Rattle.reader_step.proofs.StepLaws.{line-goes}
use Rattle.reader_step.proofs.WidthLaws.{width_some}
use Rattle.reader.proofs.AllRowsLaws.{items-numbered, answer-counted}
use Rattle.reader.proofs.FoldLaws.{first, clean, rows_from, settled_from, Agrees, Goes, Reads, line-go}
use Rattle.reader.proofs.StageLaws.{Stages, Fronts, line-stages, on_same}
use Rattle.register.specs.Register.{may_send}

-- The loop over a dossier's lines: what holds at its start, after a line, and at each way out. Assumes nothing.

-- after some of all the lines: s is kept of them, ls are left, and st is the staging area. Over lines and not bytes: whoever has lines one by one may use it.
pub record Reading (t : Table) (register : List ℕ) (sender : ℕ) (all_lines : List (List ℕ)) (st₀ : List ℕ) (s : State) (ls : List (List ℕ)) (st : List ℕ) : Type 0 where
  pub place : Place
  pub done : List (List ℕ)
  pub agrees : Agrees t s place
  pub form : s.form ≡ 0
  pub from : 1 ≤ s.line
  pub left : s.line + length ls ≡ length all_lines + 1
  pub few : s.rows < s.line
  pub answer : answer_to t register sender (items t outside 1 all_lines) ≡ settled_from t register sender s (items t place s.line ls)
  pub rows : rows_up_to t register sender (items t outside 1 all_lines) ≡ done ++ rows_from t register sender s (items t place s.line ls)
  pub area : st ≡ laid t done st₀
  pub all : Wide (row_width t) done
  pub count : clean s ≡ true → length done ≡ s.rows

-- a line gives one row at most
on-rows : (b : Bool) (x y : State) (n : ℕ) → x.rows ≤ n → y.rows ≤ n → (on b x y).rows ≤ n
on-rows true x y n h k = h
on-rows false x y n h k = k

row-few : (t : Table) (register : List ℕ) (sender : ℕ) (s : State) (r : Result (List ℕ) ℕ) → (row_step t register sender s r).rows ≤ s.rows + 1
unfolding row_step
row-few t register sender s (Ok row) =
    on-rows (eqb s.owner 0) _ (moved s s.place) _ (on-rows (may_send t register sender row) (one_row_more s) (disowned s) _ (omega arith) (omega arith)) (omega arith)
row-few t register sender s (Err c) = omega arith

data-few : (t : Table) (register : List ℕ) (sender : ℕ) (s : State) (l : List ℕ) → (data_step t register sender s l).rows ≤ s.rows + 1
unfolding data_step
data-few t register sender s l =
    on-rows (eqb (length (fields l)) s.shape.count) _ (misformed s) _
    (on-rows (eqb s.wrong 0) (row_step t register sender s (read_by t s.shape l)) (moved s s.place) _ (row-few t register sender s (read_by t s.shape l)) (omega arith))
    (omega arith)

label-few : (s : State) (h : Shape) → (label_step s h).rows ≤ s.rows + 1
unfolding label_step
label-few s h = on-rows h.fault (misformed s) (labelled s h) _ (omega arith) (omega arith)

mark-few : (t : Table) (register : List ℕ) (sender : ℕ) (s : State) (l : List ℕ) (m : Mark) → (step_at t register sender s l m).rows ≤ s.rows + 1
mark-few t register sender s l Marks.Group = omega arith
mark-few t register sender s l Marks.Table = omega arith
mark-few t register sender s l Marks.Labels =
    on-rows (is_awaiting s.place) (label_step s (shape_of t (fields (after_mark l)))) (moved s Outside) _ (label-few s (shape_of t (fields (after_mark l)))) (omega arith)
mark-few t register sender s l Marks.Data =
    on-rows (is_under s.place) (data_step t register sender s l) (moved s s.place) _ (data-few t register sender s l) (omega arith)

line-few : (t : Table) (register : List ℕ) (sender : ℕ) (s : State) (l : List ℕ) → (step_by t register sender s l).rows ≤ s.rows + 1
unfolding step_by
line-few t register sender s l = mark-few t register sender s l (mark_of l)

pub laid_none : (t : Table) (st : List ℕ) → st ≡ laid t [] st
unfolding flat
laid_none t st = sym (ap (λ (rs : List (List ℕ)). over 0 (flat rs) st) (take-nil (length st / row_width t)) ∙ over-nil 0 st)

items-cons : (t : Table) (p : Place) (n : ℕ) (l : List ℕ) (ls : List (List ℕ)) → items t p n (l ∷ ls) ≡ in_front (seen (mark_of l) n l p) (items t (place_after t (mark_of l) l p) (suc n) ls)
unfolding items
items-cons t p n l ls = refl

-- what comes after the line l at place p, which has the number n
abbrev comes : Table → Place → ℕ → List ℕ → List (List ℕ) → List Item
comes t p n l ls = items t (place_after t (mark_of l) l p) (suc n) ls

items-none : (t : Table) (p : Place) (n : ℕ) → items t p n [] ≡ []
unfolding items
items-none t p n = refl

-- with no item left the answer is what the state says
first-none : (n : ℕ) → n ≡ first n 0
first-none n = go (eqb n 0) refl
  where
    go : (b : Bool) → eqb n 0 ≡ b → n ≡ on b 0 n
    go true e = eqb-true n 0 e
    go false e = refl

column-none : (s : State) → answered_by 0 s.wrong s.column s.owner s.rows ≡ answered_by 0 s.wrong (on (eqb s.wrong 0) 0 s.column) s.owner s.rows
column-none s = go (eqb s.wrong 0)
  where
    go : (b : Bool) → on (not b) (Err (Field s.wrong s.column)) (on (not (eqb s.owner 0)) (Err (Owner s.owner)) (Ok s.rows))
        ≡ on (not b) (Err (Field s.wrong (on b 0 s.column))) (on (not (eqb s.owner 0)) (Err (Owner s.owner)) (Ok s.rows))
    go true = refl
    go false = refl

settled-none : (t : Table) (register : List ℕ) (sender : ℕ) (s : State) → answered_by 0 s.wrong s.column s.owner s.rows ≡ settled_from t register sender s []
unfolding first_line first_column rows_up_to
settled-none t register sender s =
    let z : s.rows ≡ s.rows + length (rows_from t register sender s []) = rw (on_same {A = List (List ℕ)} (clean s) []) (omega arith) in
    column-none s
    ∙ ap (λ (w : ℕ). answered_by 0 w (on (eqb s.wrong 0) 0 s.column) s.owner s.rows) (first-none s.wrong)
    ∙ ap (λ (o : ℕ). answered_by 0 (first s.wrong 0) (on (eqb s.wrong 0) 0 s.column) o s.rows) (first-none s.owner)
    ∙ ap (λ (r : ℕ). answered_by 0 (first s.wrong 0) (on (eqb s.wrong 0) 0 s.column) (first s.owner 0) r) z

module _ (t : Table) (register : List ℕ) (sender : ℕ) (all_lines : List (List ℕ)) (st₀ : List ℕ) where
  zero-first : (n : ℕ) → 0 + n ≡ n
  zero-first n = omega arith

  pub reading-start : (s : State) → Fresh s → Reading t register sender all_lines st₀ s all_lines st₀
  reading-start s (p, l, f, w, c, o, r, h) =
      record {
        place = outside;
        done = [];
        agrees = p;
        form = f;
        from = omega arith;
        left = omega arith;
        few = omega arith;
        answer =
            answer-counted t register sender (items t outside 1 all_lines) (items-numbered t outside 1 all_lines (omega arith))
            ∙ rw (l, w, o, r, zero-first (length (rows_up_to t register sender (items t outside 1 all_lines))));
        rows = rw (l, w, o);
        area = laid_none t st₀;
        all = tt;
        count = λ k. sym r;
      }

  -- a line more: l is the first of the lines that are left
  module _ (s : State) (l : List ℕ) (ls : List (List ℕ)) (st : List ℕ) (now : Reading t register sender all_lines st₀ s (l ∷ ls) st)
      (n : State) (line-step : n ≡ line_step t register sender s l) (st' : List ℕ) (line-staged : st' ≡ line_staged t register sender s l st)
      (reads : Reads t register sender l) (fronts : Fronts t l) where
    step : n ≡ step_by t register sender s l
    step = line-step ∙ sym (line-goes t register sender s l st now.form).0

    staged : st' ≡ stage_by t register sender s l st
    staged = line-staged ∙ sym (line-goes t register sender s l st now.form).1

    split : items t now.place s.line (l ∷ ls) ≡ in_front (seen (mark_of l) s.line l now.place) (comes t now.place s.line l ls)
    split = items-cons t now.place s.line l ls

    goes : Goes t register sender s n (seen (mark_of l) s.line l now.place) (place_after t (mark_of l) l now.place) (comes t now.place s.line l ls)
    goes =
        subst (λ (x : State). Goes t register sender s x (seen (mark_of l) s.line l now.place) (place_after t (mark_of l) l now.place) (comes t now.place s.line l ls)) (sym step)
        (line-go t register sender s now.form (λ e. let f = now.from in omega arith) l reads (comes t now.place s.line l ls) now.place now.agrees)

    stages : Stages t register sender s n (seen (mark_of l) s.line l now.place) (comes t now.place s.line l ls) now.done st₀ st'
    stages =
        subst (λ (x : State). Stages t register sender s x (seen (mark_of l) s.line l now.place) (comes t now.place s.line l ls) now.done st₀ st') (sym step)
        (subst (λ (x : List ℕ). Stages t register sender s (step_by t register sender s l) (seen (mark_of l) s.line l now.place) (comes t now.place s.line l ls) now.done st₀ x)
        (sym (staged ∙ ap (stage_by t register sender s l) now.area))
        (line-stages t register sender s now.form (λ e. let f = now.from in omega arith) (width_some t) now.done st₀ now.all now.count l reads fronts (comes t now.place s.line l ls) now.place now.agrees))

    -- the next line has the next number
    pub reading-counts : n.line ≡ suc s.line
    reading-counts = goes.2 ∙ add-one s.line

    -- a fault of form ends the reading
    pub reading-ends : (n.form ≡ 0 → ⊥) → (Err (Form n.form) ≡ answer_to t register sender (items t outside 1 all_lines)) × (st' ≡ laid t (rows_up_to t register sender (items t outside 1 all_lines)) st₀)
    reading-ends h = (
      sym (now.answer ∙ ap (settled_from t register sender s) split ∙ goes.0 h),
      stages.area ∙ ap (λ (rs : List (List ℕ)). laid t rs st₀) (sym (now.rows ∙ ap (λ (rs : List (List ℕ)). now.done ++ rs) (ap (rows_from t register sender s) split ∙ stages.last h))),
    )

    -- else it goes on
    pub reading-turn : n.form ≡ 0 → Reading t register sender all_lines st₀ n ls st'
    reading-turn h =
        let g = goes.1 h in
        let e : n.line ≡ suc s.line = goes.2 ∙ add-one s.line in
        let f = now.few in
        let k = now.left in
        let m : n.rows ≤ s.rows + 1 = subst (λ (x : State). x.rows ≤ s.rows + 1) (sym step) (line-few t register sender s l) in
        record {
          place = place_after t (mark_of l) l now.place;
          done = now.done ++ stages.more;
          agrees = g.0;
          form = h;
          from = omega arith;
          left = omega arith;
          few = omega arith;
          answer = now.answer ∙ ap (settled_from t register sender s) split ∙ g.1 ∙ ap (λ (i : ℕ). settled_from t register sender n (items t (place_after t (mark_of l) l now.place) i ls)) (sym e);
          rows =
              now.rows
              ∙ ap (λ (rs : List (List ℕ)). now.done ++ rs) (ap (rows_from t register sender s) split ∙ stages.next h)
              ∙ sym (append_assoc now.done stages.more (rows_from t register sender n (comes t now.place s.line l ls)))
              ∙ ap (λ (i : ℕ). (now.done ++ stages.more) ++ rows_from t register sender n (items t (place_after t (mark_of l) l now.place) i ls)) (sym e);
          area = stages.area;
          all = stages.all;
          count = stages.count;
        }

  -- nothing is left
  pub reading-done : (s : State) (st : List ℕ) → Reading t register sender all_lines st₀ s [] st
      → (answered_by 0 s.wrong s.column s.owner s.rows ≡ answer_to t register sender (items t outside 1 all_lines))
      × (st ≡ laid t (rows_up_to t register sender (items t outside 1 all_lines)) st₀)
  unfolding first_line first_column rows_up_to
  reading-done s st now =
      let e = items-none t now.place s.line in (
        settled-none t register sender s ∙ sym (now.answer ∙ ap (settled_from t register sender s) e),
        now.area ∙ ap (λ (rs : List (List ℕ)). laid t rs st₀) (sym (now.rows ∙ ap (λ (xs : List Item). now.done ++ rows_from t register sender s xs) e ∙ ap (λ (rs : List (List ℕ)). now.done ++ rs) (on_same (clean s) []) ∙ append-nil now.done)),
      )

-- the staging area keeps its length
pub reading-length : (t : Table) (register : List ℕ) (sender : ℕ) (all_lines : List (List ℕ)) (st₀ : List ℕ) (s : State) (ls : List (List ℕ)) (st : List ℕ)
    → Reading t register sender all_lines st₀ s ls st → length st ≡ length st₀
reading-length t register sender all_lines st₀ s ls st now = ap length now.area ∙ length_over 0 _ st₀

-- ---- the lines of bytes

-- no more lines than bytes
lines-few : (n : ℕ) (l : List ℕ) → length l ≤ n → length (lines l) ≤ length l
lines-few zero l h = rw (lines_none l h) (omega arith)
lines-few (suc n) l h = go (ltb 0 (length l)) refl (lines-few n (drop 1 (past 13 l)))
  where
    go : (t : Bool) → ltb 0 (length l) ≡ t → (length (drop 1 (past 13 l)) ≤ n → length (lines (drop 1 (past 13 l))) ≤ length (drop 1 (past 13 l))) → length (lines l) ≤ length l
    go true e few =
        let some = ltb-true 0 (length l) e in
        let shorter = after-line-shorter l some in
        let k = few (omega arith) in
        rw (lines_cons l some) (omega arith)
    go false e few = rw (lines_none l (ltb-false 0 (length l) e)) (omega arith)

pub lines-most : (d : List ℕ) → length (lines d) ≤ length d
lines-most d = lines-few (length d) d (omega arith)

-- bytes that are left, and their first line
module _ (t : Table) (register : List ℕ) (sender : ℕ) (all_lines : List (List ℕ)) (st₀ : List ℕ) (s : State) (rest st : List ℕ) (now : Reading t register sender all_lines st₀ s (lines rest) st) where
  pub reading-next : (l rest' : List ℕ) → 0 < length rest → l ≡ until 13 rest → rest' ≡ drop 1 (past 13 rest) → Reading t register sender all_lines st₀ s (l ∷ lines rest') st
  reading-next l rest' some line after-it =
      subst (λ (ls : List (List ℕ)). Reading t register sender all_lines st₀ s ls st)
      (lines_cons rest some ∙ ap (λ (x : List ℕ). x ∷ lines (drop 1 (past 13 rest))) (sym line) ∙ ap (λ (x : List ℕ). l ∷ lines x) (sym after-it)) now

  pub reading-none : length rest ≤ 0 → Reading t register sender all_lines st₀ s [] st
  reading-none h = subst (λ (ls : List (List ℕ)). Reading t register sender all_lines st₀ s ls st) (lines_none rest h) now
