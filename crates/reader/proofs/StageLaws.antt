use Prim.Native.Nat.{ℕ, ◌+◌, ◌*◌, ◌/◌, ◌≤◌, ◌<◌}
use native.Mathlib.Omega.{arith}
use native.Mathlib.Nat.{le-div_iff_mul-le}
use mathlib.Core.Path.{◌≡◌, refl, sym, ap, subst, ◌∙◌}
use mathlib.Core.Bool.{Bool, true, false, not, ◌&&◌}
use mathlib.Core.List.{List, [], ◌∷◌, ◌++◌, append-nil}
use borrow.Author.Tests.{eq-eqb, ne_eqb, eqb-true, leb-true, leb-false}
use lib.Dec.{eqb, leb}
use lib.ListN.{length, take, replicate, length-append}
use lib.Seq.{take_all, take-append-le}
use Rattle.lists.specs.Logic.{on}
use Rattle.lists.specs.Text.{same}
use Rattle.lists.specs.Part.{over}
use Rattle.lists.specs.Rows.{flat, Wide}
use Rattle.lists.proofs.LogicLaws.{and-pass}
use Rattle.lists.proofs.EachLaws.{each_append}
use Rattle.lists.proofs.OverLaws.{length_over, over-then}
use Rattle.lists.proofs.RowLaws.{flat_append}
use Rattle.lists.proofs.WideLaws.{length-flat}
use Rattle.turbo_lines.specs.declared.Mark.{Mark}
use Rattle.turbo_lines.specs.declared.Mark.TheVariants as Marks
use Rattle.turbo.specs.Split.{until, fields}
use Rattle.turbo_lines.specs.Lines.{mark_of, after_mark}
use Rattle.columns.specs.declared.Table.{Table}
use Rattle.columns.specs.Tables.{table_name, row_of, row_width, wrong_column, label_fault}
use Rattle.rows.specs.declared.Shape.{Shape}
use Rattle.std.specs.Prelude.{Result}
use Rattle.rows.specs.Shape.{shape_of}
use Rattle.rows.specs.Reading.{read_by, read_given}
use Rattle.columns.specs.Layout.{widest_row}
use Rattle.reader_step.specs.declared.Place as Spots
use Rattle.reader_step.specs.declared.Place.TheVariants.{Outside, Awaiting, Under}
use Rattle.reader_step.specs.declared.State.{State}
use Rattle.reader_step.specs.Place.{is_awaiting, is_under}
use Rattle.reader.specs.Items.{Item, head, row, Place, outside, awaiting, under, place_after, seen, in_front}
use Rattle.reader.specs.Staging.{rows_up_to, laid}
use Rattle.reader_step.specs.Step.{moved, misformed, labelled, mistyped, disowned, one_row_more, data_step, label_step, step_at, step_by, staged, row_staged, data_staged, staged_at, stage_by}
use Rattle.reader.proofs.FoldLaws.{clean, rows_from, Agrees, Reads, shape-fault, shape-count, data-tested}
use Rattle.register.specs.Register.{may_send}

-- The staging area by lines: what a line stages is what its item gives. Assumes nothing.

-- one row more behind those that are laid
module _ (t : Table) (wide : 0 < row_width t) (done : List (List ℕ)) (r st₀ : List ℕ) (all : Wide (row_width t) done) where
  laid-length : length (laid t done st₀) ≡ length st₀
  laid-length = length_over 0 _ st₀

  fits : length (done ++ r ∷ []) ≡ length done + 1
  fits = length-append done (r ∷ [])

  -- it fits
  lay-fits : length done + 1 ≤ length st₀ / row_width t → over (length done * row_width t) r (laid t done st₀) ≡ laid t (done ++ r ∷ []) st₀
  unfolding flat
  lay-fits h =
      let w = row_width t in
      let cap = length st₀ / w in
      let e : length done * w ≡ 0 + length (flat done) = omega (arith, length-flat w done all) in
      rw (take_all cap done (omega arith), take_all cap (done ++ r ∷ []) (omega (arith, fits)), e)
      (over-then 0 (flat done) r st₀ ∙ ap (λ (l : List ℕ). over 0 l st₀) (ap (λ (l : List ℕ). flat done ++ l) (sym (append-nil r)) ∙ sym (flat_append done (r ∷ []))))

  -- it does not fit
  lay-full : length st₀ / row_width t ≤ length done → laid t done st₀ ≡ laid t (done ++ r ∷ []) st₀
  lay-full h = ap (λ (rs : List (List ℕ)). over 0 (flat rs) st₀) (sym (take-append-le (length st₀ / row_width t) done (r ∷ []) h))

  -- as the code tests it
  pub lay-more : (n : ℕ) → n ≡ length done
      → on (leb ((n + 1) * row_width t) (length (laid t done st₀))) (over (n * row_width t) r (laid t done st₀)) (laid t done st₀) ≡ laid t (done ++ r ∷ []) st₀
  lay-more n e = go (leb ((n + 1) * row_width t) (length (laid t done st₀))) refl
    where
      widest_row : (n + 1 ≤ length st₀ / row_width t → (n + 1) * row_width t ≤ length st₀) × ((n + 1) * row_width t ≤ length st₀ → n + 1 ≤ length st₀ / row_width t)
      widest_row = let q = le-div_iff_mul-le {k = row_width t} {x = n + 1} {y = length st₀} wide in (q.0, q.1)

      go : (b : Bool) → leb ((n + 1) * row_width t) (length (laid t done st₀)) ≡ b → on b (over (n * row_width t) r (laid t done st₀)) (laid t done st₀) ≡ laid t (done ++ r ∷ []) st₀
      go true q =
          let h : (n + 1) * row_width t ≤ length (laid t done st₀) = leb-true _ _ q in
          let k : (n + 1) * row_width t ≤ length st₀ = rw laid-length at h in
          let m = widest_row.1 k in
          ap (λ (i : ℕ). over (i * row_width t) r (laid t done st₀)) e ∙ lay-fits (omega arith)
      go false q =
          let h : length (laid t done st₀) < (n + 1) * row_width t = leb-false _ _ q in
          let k : length st₀ < (n + 1) * row_width t = rw laid-length at h in
          lay-full (let z : (n + 1 ≤ length st₀ / row_width t → ⊥) = λ m. let y = widest_row.0 m in omega arith in omega (arith, z))

-- ---- what a line stages

-- st is the area after a line that leads from s to n: the rows e that the line gives lie behind those that were done
pub record Stages (t : Table) (register : List ℕ) (sender : ℕ) (s n : State) (ys xs : List Item) (done : List (List ℕ)) (st₀ st : List ℕ) : Type 0 where
  pub more : List (List ℕ)
  pub area : st ≡ laid t (done ++ more) st₀
  pub all : Wide (row_width t) (done ++ more)
  pub last : (n.form ≡ 0 → ⊥) → rows_from t register sender s (in_front ys xs) ≡ more
  pub next : n.form ≡ 0 → rows_from t register sender s (in_front ys xs) ≡ more ++ rows_from t register sender n xs
  pub count : clean n ≡ true → length (done ++ more) ≡ n.rows

pub on_same : {A : Type 0} (b : Bool) (x : A) → on b x x ≡ x
on_same true x = refl
on_same false x = refl

never : {A : Type 0} (b : Bool) → b ≡ false → b ≡ true → A
never b p q = absurd (let z : ◌≡◌ {A = ℕ} 0 1 = cc in omega arith)

module _
    (t : Table) (register : List ℕ) (sender : ℕ) (s : State) (form : s.form ≡ 0) (from : s.line ≡ 0 → ⊥)
    (wide : 0 < row_width t) (done : List (List ℕ)) (st₀ : List ℕ) (all : Wide (row_width t) done) (so_far : clean s ≡ true → length done ≡ s.rows) where
  -- nothing is staged
  nothing : (n : State) (ys xs : List Item)
      → ((n.form ≡ 0 → ⊥) → rows_from t register sender s (in_front ys xs) ≡ [])
      → (n.form ≡ 0 → rows_from t register sender s (in_front ys xs) ≡ rows_from t register sender n xs)
      → (clean n ≡ true → length done ≡ n.rows)
      → Stages t register sender s n ys xs done st₀ (laid t done st₀)
  nothing n ys xs p q c =
      record {
        more = [];
        area = ap (λ (d : List (List ℕ)). laid t d st₀) (sym (append-nil done));
        all = rw (append-nil done) all;
        last = p;
        next = q;
        count = λ k. ap length (append-nil done) ∙ c k;
      }

  stage-passes : (n : Spots.Place) (xs : List Item) → Stages t register sender s (moved s n) [] xs done st₀ (laid t done st₀)
  stage-passes n xs = nothing (moved s n) [] xs (λ h. absurd (h form)) (λ h. refl) so_far

  stage-labels : (ls : List (List ℕ)) (xs : List Item) → (b : Bool) → label_fault t ls ≡ b
      → Stages t register sender s (on b (misformed s) (labelled s (shape_of t ls))) (head s.line ls ∷ []) xs done st₀ (laid t done st₀)
  unfolding rows_up_to
  stage-labels ls xs true e = nothing (misformed s) (head s.line ls ∷ []) xs (λ h. rw e (on_same (clean s) [])) (λ h. absurd (from h)) so_far
  stage-labels ls xs false e = nothing (labelled s (shape_of t ls)) (head s.line ls ∷ []) xs (λ h. absurd (h form)) (λ h. rw e) so_far

  module _ (ls : List (List ℕ)) (l : List ℕ) (xs : List Item)
      (front : wrong_column t ls l ≡ 0 → (length (row_of t ls l) ≡ row_width t) × (take (row_width t) (over 0 (row_of t ls l) (replicate widest_row 0)) ≡ row_of t ls l)) where
    -- the area after a data line, by the tests that are made of it
    abbrev laying : Bool → Bool → Bool → Bool → Bool → List ℕ
    laying b₁ b₂ b₃ b₄ b₅ =
        on b₁ (on b₂ (on b₃ (on b₄ (on b₅ (staged t s.rows (over 0 (row_of t ls l) (replicate widest_row 0)) (laid t done st₀)) (laid t done st₀)) (laid t done st₀)) (laid t done st₀)) (laid t done st₀)) (laid t done st₀)

    abbrev leading : Bool → Bool → Bool → Bool → Bool → State
    leading b₁ b₂ b₃ b₄ b₅ =
        on b₁
        (on b₂ (on b₃ (on b₄ (on b₅ (one_row_more s) (disowned s)) (moved s s.place)) (mistyped s (wrong_column t ls l))) (moved s s.place))
        (misformed s)

    stage-sent : eqb (length (fields l)) (length ls) ≡ true → s.wrong ≡ 0 → wrong_column t ls l ≡ 0 → s.owner ≡ 0 → may_send t register sender (row_of t ls l) ≡ true
        → Stages t register sender s (one_row_more s) (row s.line ls l ∷ []) xs done st₀ (staged t s.rows (over 0 (row_of t ls l) (replicate widest_row 0)) (laid t done st₀))
    unfolding rows_up_to staged
    stage-sent p q r u v =
        let f = front r in
        let n : s.rows ≡ length done = sym (so_far (rw (q, u) refl)) in
        record {
          more = row_of t ls l ∷ [];
          area = rw f.1 (lay-more t wide done (row_of t ls l) st₀ all s.rows n);
          all = each_append (λ (x : List ℕ). length x ≡ row_width t) done (row_of t ls l ∷ []) all (f.0, tt);
          last = λ h. absurd (h form);
          next = λ h. simp (p, q, r, u, v);
          count = λ c. length-append done (row_of t ls l ∷ []) ∙ ap (λ (k : ℕ). k + 1) (sym n);
        }

    stage-go : (b₁ b₂ b₃ b₄ b₅ : Bool)
        → eqb (length (fields l)) (length ls) ≡ b₁ → eqb s.wrong 0 ≡ b₂ → eqb (wrong_column t ls l) 0 ≡ b₃ → eqb s.owner 0 ≡ b₄ → may_send t register sender (row_of t ls l) ≡ b₅
        → Stages t register sender s (leading b₁ b₂ b₃ b₄ b₅) (row s.line ls l ∷ []) xs done st₀ (laying b₁ b₂ b₃ b₄ b₅)
    unfolding rows_up_to
    stage-go false b₂ b₃ b₄ b₅ p q r u v = nothing (misformed s) (row s.line ls l ∷ []) xs (λ h. rw p (on_same (clean s) [])) (λ h. absurd (from h)) so_far
    stage-go true false b₃ b₄ b₅ p q r u v = nothing (moved s s.place) (row s.line ls l ∷ []) xs (λ h. absurd (h form)) (λ h. simp q) so_far
    stage-go true true false b₄ b₅ p q r u v =
        nothing (mistyped s (wrong_column t ls l)) (row s.line ls l ∷ []) xs (λ h. absurd (h form))
        (λ h. simp (p, r, ne_eqb s.line 0 from) (on_same (clean s) []))
        (λ c. never (eqb s.line 0) (ne_eqb s.line 0 from) (and-pass (eqb s.line 0) (eqb s.owner 0) c).0)
    stage-go true true true false b₅ p q r u v =
        nothing (moved s s.place) (row s.line ls l ∷ []) xs (λ h. absurd (h form)) (λ h. simp (q, u)) so_far
    stage-go true true true true false p q r u v =
        nothing (disowned s) (row s.line ls l ∷ []) xs (λ h. absurd (h form))
        (λ h. simp (p, q, r, u, v, ne_eqb s.line 0 from))
        (λ c. never (eqb s.line 0) (ne_eqb s.line 0 from) (and-pass (eqb s.wrong 0) (eqb s.line 0) c).1)
    stage-go true true true true true p q r u v = stage-sent p (eqb-true _ _ q) (eqb-true _ _ r) (eqb-true _ _ u) v

    module _
        (shape : s.shape ≡ shape_of t ls) (right : label_fault t ls ≡ false)
        (reads : read_by t (shape_of t ls) l ≡ read_given (wrong_column t ls l) (row_of t ls l))
        (sends : wrong_column t ls l ≡ 0 → may_send t register sender (over 0 (row_of t ls l) (replicate widest_row 0)) ≡ may_send t register sender (row_of t ls l)) where
      abbrev area : List ℕ
      area = laid t done st₀

      row-laying : (b : Bool) → eqb (wrong_column t ls l) 0 ≡ b → row_staged t register sender s (read_given (wrong_column t ls l) (row_of t ls l)) area
          ≡ on b (on (eqb s.owner 0) (on (may_send t register sender (row_of t ls l)) (staged t s.rows (over 0 (row_of t ls l) (replicate widest_row 0)) area) area) area) area
      unfolding row_staged
      row-laying true e = rw e (ap (λ (b : Bool). on (eqb s.owner 0) (on b (staged t s.rows (over 0 (row_of t ls l) (replicate widest_row 0)) area) area) area) (sends (eqb-true _ _ e)))
      row-laying false e = simp e

      data-laying : data_staged t register sender s l area
          ≡ laying (eqb (length (fields l)) (length ls)) (eqb s.wrong 0) (eqb (wrong_column t ls l) 0) (eqb s.owner 0) (may_send t register sender (row_of t ls l))
      unfolding data_staged
      data-laying =
          ap (λ (h : Shape). on (eqb (length (fields l)) h.count) (on (eqb s.wrong 0) (row_staged t register sender s (read_by t h l) area) area) area) shape
          ∙ ap (λ (n : ℕ). on (eqb (length (fields l)) n) (on (eqb s.wrong 0) (row_staged t register sender s (read_by t (shape_of t ls) l) area) area) area) (shape-count t ls right)
          ∙ ap (λ (r : List ℕ). on (eqb (length (fields l)) (length ls)) (on (eqb s.wrong 0) r area) area)
          (ap (λ (r : Result (List ℕ) ℕ). row_staged t register sender s r area) reads ∙ row-laying (eqb (wrong_column t ls l) 0) refl)

      stage-data : s.place ≡ Under → Stages t register sender s (data_step t register sender s l) (row s.line ls l ∷ []) xs done st₀ (data_staged t register sender s l area)
      stage-data there =
          subst (λ (n : State). Stages t register sender s n (row s.line ls l ∷ []) xs done st₀ (data_staged t register sender s l area))
          (sym (data-tested t register sender s form from ls l xs there shape right reads sends))
          (subst (λ (a : List ℕ). Stages t register sender s (leading (eqb (length (fields l)) (length ls)) (eqb s.wrong 0) (eqb (wrong_column t ls l) 0) (eqb s.owner 0) (may_send t register sender (row_of t ls l))) (row s.line ls l ∷ []) xs done st₀ a) (sym data-laying) (stage-go _ _ _ _ _ refl refl refl refl refl))

-- what is used of the rows below, besides `Reads`: how wide a row is, and that it stands in front
abbrev pub Fronts : Table → List ℕ → Type 0
Fronts t l =
    (ls : List (List ℕ)) → label_fault t ls ≡ false → wrong_column t ls l ≡ 0 →
    (length (row_of t ls l) ≡ row_width t) × (take (row_width t) (over 0 (row_of t ls l) (replicate widest_row 0)) ≡ row_of t ls l)

-- a line, whatever its mark
module _
    (t : Table) (register : List ℕ) (sender : ℕ) (s : State) (form : s.form ≡ 0) (from : s.line ≡ 0 → ⊥)
    (wide : 0 < row_width t) (done : List (List ℕ)) (st₀ : List ℕ) (all : Wide (row_width t) done) (so_far : clean s ≡ true → length done ≡ s.rows)
    (l : List ℕ) (reads : Reads t register sender l) (fronts : Fronts t l) (xs : List Item) where
  pass : (n : Spots.Place) → Stages t register sender s (moved s n) [] xs done st₀ (laid t done st₀)
  pass n = stage-passes t register sender s form from wide done st₀ all so_far n xs

  label : (ls : List (List ℕ)) → Stages t register sender s (label_step s (shape_of t ls)) (head s.line ls ∷ []) xs done st₀ (laid t done st₀)
  unfolding label_step
  label ls =
      subst (λ (b : Bool). Stages t register sender s (on b (misformed s) (labelled s (shape_of t ls))) (head s.line ls ∷ []) xs done st₀ (laid t done st₀)) (sym (shape-fault t ls))
      (stage-labels t register sender s form from wide done st₀ all so_far ls xs (label_fault t ls) refl)

  mark-stages : (m : Mark) (p : Place) → Agrees t s p
      → Stages t register sender s (step_at t register sender s l m) (seen m s.line l p) xs done st₀ (staged_at t register sender s l m (laid t done st₀))
  mark-stages Marks.Group p a = pass Outside
  mark-stages Marks.Table p a = pass (on (same (until 124 (after_mark l)) (table_name t)) Awaiting Outside)
  mark-stages Marks.Labels outside a = rw (ap is_awaiting a) (pass Outside)
  mark-stages Marks.Labels awaiting a = rw (ap is_awaiting a) (label (fields (after_mark l)))
  mark-stages Marks.Labels (under ls) a = rw (ap is_awaiting a.0) (pass Outside)
  mark-stages Marks.Data outside a = rw (ap is_under a) (pass s.place)
  mark-stages Marks.Data awaiting a = rw (ap is_under a) (pass s.place)
  mark-stages Marks.Data (under ls) a =
      let r = reads ls a.2 in
      rw (ap is_under a.0)
      (stage-data t register sender s form from wide done st₀ all so_far ls l xs (fronts ls a.2) a.1 a.2 r.0 r.1 a.0)

  pub line-stages : (p : Place) → Agrees t s p
      → Stages t register sender s (step_by t register sender s l) (seen (mark_of l) s.line l p) xs done st₀ (stage_by t register sender s l (laid t done st₀))
  unfolding step_by stage_by
  line-stages p a = mark-stages (mark_of l) p a
