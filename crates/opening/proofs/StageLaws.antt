-- What each stage of open makes of the answer: refusals that change nothing, and acceptance. Assumes nothing.
use mathlib.Core.Path.{◌≡◌, refl, sym, ap, subst, ◌∙◌}
use mathlib.Core.List.{List, []}
use Prim.Native.Nat.{ℕ, ◌*◌, ◌≤◌}
use lib.ListN.{length}
use Rattle.std.specs.Prelude.{Ok, Err}
use Rattle.lists.specs.Rows.{rows_of}
use Rattle.columns.specs.declared.Table.TheVariants as Tables
use Rattle.reader.specs.Rules.{Reading, reading_of, items_of, data_rows}
use Rattle.reader.specs.Staging.{staged_by}
use Rattle.reader.specs.Passes.{pass_wide, validity_wide}
use Rattle.reader.proofs.StagedLaws.{staged-passes, staged-validities}
use Rattle.plan.specs.Rules.{joined}
use Rattle.calls.specs.declared.Refusal.{Refusal}
use Rattle.calls.specs.declared.Counts.{Counts}
use Rattle.calls.specs.declared.Outcome.{Outcome}
use Rattle.calls.specs.Answers.{Answer, unless_refused}
use Rattle.calls.specs.Leaves.{outcome_of, leaves}
use Rattle.calls.specs.Open.{passages_of, plan_of, room_to_open, open_answer, open_leaves}
use Rattle.calls.specs.inner.Steps.{passed_of}
use Rattle.calls.proofs.LeavesLaws.{passed-off}
use Rattle.opening_write.proofs.StageLaws.{Opened, refused-with}
use Rattle.opening.specs.inner.Steps.{joined_to, calendar_answer}

-- ---- by what the dossiers read as

module _ (calendar : List ℕ) (ps : List (List ℕ)) (book table : List ℕ) where
  pub calendar-is : (x : Reading) → reading_of Tables.Calendar [] 0 calendar ≡ x → calendar_answer calendar ps book table ≡ unless_refused 2 x (room_to_open (joined_to calendar ps) book table)
  unfolding calendar_answer
  calendar-is x e = ap (λ (y : Reading). unless_refused 2 y (room_to_open (joined_to calendar ps) book table)) e

  pub calendar-refused : (c : Counts) (a : Refusal) → passed_of 2 (reading_of Tables.Calendar [] 0 calendar) ≡ Err a
      → (r : Outcome) → r ≡ outcome_of (Err a) c → Opened (calendar_answer calendar ps book table) (joined_to calendar ps) book table c r book table
  calendar-refused c a e r k =
      let x = reading_of Tables.Calendar [] 0 calendar in
      let off = passed-off 2 x a e (room_to_open (joined_to calendar ps) book table) in
      refused-with (joined_to calendar ps) book table c (Err a) (calendar_answer calendar ps book table) refl (calendar-is x refl ∙ off) r k

  -- the validities are read back
  calendar-read : (v₀ v : List ℕ) (nv : ℕ) → reading_of Tables.Calendar [] 0 calendar ≡ Ok nv → v ≡ staged_by Tables.Calendar [] 0 calendar v₀ → nv * validity_wide ≤ length v₀
      → joined ps (rows_of validity_wide nv v) ≡ joined_to calendar ps
  unfolding joined_to
  calendar-read v₀ v nv e s f = ap (joined ps) (ap (rows_of validity_wide nv) s ∙ staged-validities calendar v₀ nv e f)

  pub calendar-taken : (c : Counts) (r : Outcome) (b t v₀ v : List ℕ) (nv : ℕ) → reading_of Tables.Calendar [] 0 calendar ≡ Ok nv → v ≡ staged_by Tables.Calendar [] 0 calendar v₀ → nv * validity_wide ≤ length v₀
      → Opened (room_to_open (joined ps (rows_of validity_wide nv v)) book table) (joined ps (rows_of validity_wide nv v)) book table c r b t
      → Opened (calendar_answer calendar ps book table) (joined_to calendar ps) book table c r b t
  calendar-taken c r b t v₀ v nv e s f o =
      subst (λ (x : Answer). Opened x (joined_to calendar ps) book table c r b t) (sym (calendar-is (Ok nv) e))
      (subst (λ (k : List (List ℕ)). Opened (room_to_open k book table) k book table c r b t) (calendar-read v₀ v nv e s f) o)

module _ (planning calendar book table : List ℕ) where
  abbrev rs : List (List ℕ)
  rs = data_rows Tables.Planning (items_of Tables.Planning planning)

  pub planning-is : (x : Reading) → reading_of Tables.Planning [] 0 planning ≡ x → open_answer planning calendar book table ≡ unless_refused 1 x (calendar_answer calendar rs book table)
  unfolding open_answer calendar_answer joined_to passages_of
  planning-is x e = ap (λ (y : Reading). unless_refused 1 y (calendar_answer calendar rs book table)) e

  abbrev pub Opens : Counts → Outcome → List ℕ → List ℕ → Type 0
  Opens c r b t = leaves r b t ≡ open_leaves planning calendar book table c

  -- the rule of open, by its answer
  open_is : (c : Counts) (r : Outcome) (b t : List ℕ) → Opened (open_answer planning calendar book table) (passages_of planning calendar) book table c r b t → Opens c r b t
  unfolding open_leaves plan_of
  open_is c r b t o = o

  pub planning-refused : (c : Counts) (a : Refusal) → passed_of 1 (reading_of Tables.Planning [] 0 planning) ≡ Err a → (r : Outcome) → r ≡ outcome_of (Err a) c → Opens c r book table
  planning-refused c a e r k =
      let x = reading_of Tables.Planning [] 0 planning in
      let off = passed-off 1 x a e (calendar_answer calendar rs book table) in
      open_is c r book table (refused-with (passages_of planning calendar) book table c (Err a) (open_answer planning calendar book table) refl (planning-is x refl ∙ off) r k)

  pub planning-taken : (c : Counts) (r : Outcome) (b t p₀ p : List ℕ) (np : ℕ) → reading_of Tables.Planning [] 0 planning ≡ Ok np → p ≡ staged_by Tables.Planning [] 0 planning p₀ → np * pass_wide ≤ length p₀
      → Opened (calendar_answer calendar (rows_of pass_wide np p) book table) (joined_to calendar (rows_of pass_wide np p)) book table c r b t
      → Opens c r b t
  unfolding joined_to passages_of
  planning-taken c r b t p₀ p np e s f o =
      let k : rows_of pass_wide np p ≡ rs = ap (rows_of pass_wide np) s ∙ staged-passes planning p₀ np e f in
      open_is c r b t
      (subst (λ (x : Answer). Opened x (joined_to calendar rs) book table c r b t) (sym (planning-is (Ok np) e))
      (subst (λ (q : List (List ℕ)). Opened (calendar_answer calendar q book table) (joined_to calendar q) book table c r b t) k o))
