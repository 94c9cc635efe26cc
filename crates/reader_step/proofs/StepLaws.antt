use Prim.Native.Nat.{ℕ}
use mathlib.Core.Path.{◌≡◌, refl, ap, ◌∙◌}
use mathlib.Core.Bool.{true, false}
use mathlib.Core.Logic.{◌⊎◌, ⊎_elim}
use mathlib.Core.List.{List}
use borrow.Author.Tests.{eq-eqb, ne_eqb}
use lib.ListN.{length}
use Rattle.turbo_lines.specs.declared.Mark.TheVariants.{Group, Table, Labels, Data}
use Rattle.turbo.specs.Split.{until, fields}
use Rattle.turbo_lines.specs.Lines.{mark_of, after_mark}
use Rattle.columns.specs.declared.Table as Tables
use Rattle.rows.specs.declared.Shape.{Shape}
use Rattle.rows.specs.Shape.{no_shape, shape_of}
use Rattle.rows.specs.Reading.{read_by}
use Rattle.reader_step.specs.declared.Place.{Place}
use Rattle.reader_step.specs.declared.Place.TheVariants.{Outside, Awaiting, Under, Other}
use Rattle.reader_step.specs.declared.State.{State}
use Rattle.reader_step.specs.Place.{is_awaiting, is_under}
use Rattle.reader_step.specs.Step.{moved, misformed, row_step, data_step, label_step, place_named, step_by, line_step, row_staged, data_staged, stage_by, line_staged, Fresh}

-- Which case of a line's step holds. Assumes nothing.

pub not-awaiting : (p : Place) → (p ≡ Outside) ⊎ ((p ≡ Under) ⊎ ((byte : ℕ) × (p ≡ Other byte))) → is_awaiting p ≡ false
not-awaiting p h = ⊎_elim (λ e. ap is_awaiting e) (⊎_elim (λ e. ap is_awaiting e) (λ e. ap is_awaiting e.1)) h

pub not-under : (p : Place) → (p ≡ Under → ⊥) → is_under p ≡ false
not-under Outside h = refl
not-under Awaiting h = refl
not-under Under h = absurd (h refl)
not-under (Other byte) h = refl

module _ (t : Tables.Table) (register : List ℕ) (sender : ℕ) (s : State) (l st : List ℕ) where
  -- ---- a data line
  pub data-many : (length (fields l) ≡ s.shape.count → ⊥) → (misformed s ≡ data_step t register sender s l) × (st ≡ data_staged t register sender s l st)
  unfolding data_step data_staged
  data-many h = rw (ne_eqb _ _ h) (refl, refl)

  module _ (count : length (fields l) ≡ s.shape.count) where
    pub data-known : (s.wrong ≡ 0 → ⊥) → (moved s s.place ≡ data_step t register sender s l) × (st ≡ data_staged t register sender s l st)
    unfolding data_step data_staged
    data-known h = rw (eq-eqb _ _ count, ne_eqb s.wrong 0 h) (refl, refl)

    pub data-read : s.wrong ≡ 0 → (row_step t register sender s (read_by t s.shape l) ≡ data_step t register sender s l) × (row_staged t register sender s (read_by t s.shape l) st ≡ data_staged t register sender s l st)
    unfolding data_step data_staged
    data-read h = rw (eq-eqb _ _ count, eq-eqb s.wrong 0 h) (refl, refl)

  -- ---- a line of each mark
  pub line-group : mark_of l ≡ Group → (moved s Outside ≡ step_by t register sender s l) × (st ≡ stage_by t register sender s l st)
  unfolding step_by stage_by
  line-group m = rw m (refl, refl)

  pub line-table : mark_of l ≡ Table → (moved s (place_named t (until 124 (after_mark l))) ≡ step_by t register sender s l) × (st ≡ stage_by t register sender s l st)
  unfolding step_by stage_by
  line-table m = rw m (refl, refl)

  pub line-labels : mark_of l ≡ Labels → is_awaiting s.place ≡ true → (label_step s (shape_of t (fields (after_mark l))) ≡ step_by t register sender s l) × (st ≡ stage_by t register sender s l st)
  unfolding step_by stage_by
  line-labels m h = rw (m, h) (refl, refl)

  pub line-labels-skipped : mark_of l ≡ Labels → is_awaiting s.place ≡ false → (moved s Outside ≡ step_by t register sender s l) × (st ≡ stage_by t register sender s l st)
  unfolding step_by stage_by
  line-labels-skipped m h = rw (m, h) (refl, refl)

  pub line-data : mark_of l ≡ Data → is_under s.place ≡ true → (data_step t register sender s l ≡ step_by t register sender s l) × (data_staged t register sender s l st ≡ stage_by t register sender s l st)
  unfolding step_by stage_by
  line-data m h = rw (m, h) (refl, refl)

  pub line-data-skipped : mark_of l ≡ Data → is_under s.place ≡ false → (moved s s.place ≡ step_by t register sender s l) × (st ≡ stage_by t register sender s l st)
  unfolding step_by stage_by
  line-data-skipped m h = rw (m, h) (refl, refl)

  -- ---- a line, whatever came before it
  pub line-goes : s.form ≡ 0 → (step_by t register sender s l ≡ line_step t register sender s l) × (stage_by t register sender s l st ≡ line_staged t register sender s l st)
  unfolding line_step line_staged
  line-goes h = rw (eq-eqb s.form 0 h) (refl, refl)

  pub line-counted : (s.form ≡ 0 → ⊥) → (moved s s.place ≡ line_step t register sender s l) × (st ≡ line_staged t register sender s l st)
  unfolding line_step line_staged
  line-counted h = rw (ne_eqb s.form 0 h) (refl, refl)

-- all that is kept before any line
abbrev made : Place → ℕ → ℕ → ℕ → ℕ → ℕ → ℕ → Shape → State
made p l f w c o r h = record { place = p; line = l; form = f; wrong = w; column = c; owner = o; rows = r; shape = h }

pub fresh-one : (s : State) → Fresh s → s ≡ made Outside 1 0 0 0 0 0 no_shape
fresh-one s (p, l, f, w, c, o, r, h) =
    ap (λ (x : Place). made x s.line s.form s.wrong s.column s.owner s.rows s.shape) p
    ∙ ap (λ (x : ℕ). made Outside x s.form s.wrong s.column s.owner s.rows s.shape) l
    ∙ ap (λ (x : ℕ). made Outside 1 x s.wrong s.column s.owner s.rows s.shape) f
    ∙ ap (λ (x : ℕ). made Outside 1 0 x s.column s.owner s.rows s.shape) w
    ∙ ap (λ (x : ℕ). made Outside 1 0 0 x s.owner s.rows s.shape) c
    ∙ ap (λ (x : ℕ). made Outside 1 0 0 0 x s.rows s.shape) o
    ∙ ap (λ (x : ℕ). made Outside 1 0 0 0 0 x s.shape) r
    ∙ ap (made Outside 1 0 0 0 0 0) h
