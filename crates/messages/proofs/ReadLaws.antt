-- The ways out of a message once its dossier is read: a refusal of the dossier, or what its rows give. Assumes nothing.
use Prim.Native.Nat.{ℕ, ◌*◌, ◌≤◌}
use mathlib.Core.Path.{◌≡◌, refl, ◌∙◌}
use mathlib.Core.Bool.{true, false}
use mathlib.Core.List.{List}
use lib.ListN.{length}
use Rattle.std.specs.Prelude.{Ok, Err}
use Rattle.lists.specs.Rows.{rows_of}
use Rattle.passage.specs.Layout.{body_wide}
use Rattle.columns.specs.Tables.{is_form, form_of}
use Rattle.reader.specs.Rules.{Reading, reading_of}
use Rattle.reader.specs.Staging.{staged_by}
use Rattle.reader.proofs.StagedLaws.{staged-updates}
use Rattle.calls.specs.declared.Refusal.{Refusal}
use Rattle.calls.specs.declared.Refusal.TheVariants.{Unsound, UnknownForm}
use Rattle.calls.specs.declared.Counts.{Counts}
use Rattle.calls.specs.declared.Outcome.{Outcome}
use Rattle.calls.specs.Answers.{Answer, is_accepted, unless_refused}
use Rattle.calls.specs.Leaves.{outcome_of, leaves}
use Rattle.calls.specs.Message.{message_sound, message_table, message_rows, room_for, message_answer, taken_by, message_leaves}
use Rattle.calls.specs.inner.Steps.{passed_of}
use Rattle.calls.proofs.LeavesLaws.{leaves-refused, passed-off}
use Rattle.messages.specs.inner.Steps.{taken_leaves}

-- the rows of an accepted dossier, as they are staged
pub staged-bodies : (form : ℕ) (register : List ℕ) (sender : ℕ) (d staging : List ℕ) (n : ℕ) → reading_of (message_table form) register sender d ≡ Ok n → n * body_wide ≤ length staging
    → rows_of body_wide n (staged_by (message_table form) register sender d staging) ≡ message_rows form d
unfolding message_rows
staged-bodies form register sender d staging n e room = staged-updates (form_of form) register sender d staging n e room

module _ (d : List ℕ) (sender form : ℕ) (register book table : List ℕ) (c : Counts) where
  abbrev bodies : List (List ℕ)
  bodies = message_rows form d

  -- what a way out leaves
  abbrev pub Answers : Outcome → List ℕ → List ℕ → Type 0
  Answers r b t = leaves r b t ≡ message_leaves d sender form register book table c

  refuses : (a : Answer) → message_answer d sender form register book table c ≡ a → is_accepted a ≡ false → (r : Outcome) → r ≡ outcome_of a c → Answers r book table
  unfolding message_leaves taken_by
  refuses a e f r h = leaves-refused (message_answer d sender form register book table c) a _ book table c e f r h

  pub unsound : message_sound register book table c ≡ false → (r : Outcome) → r ≡ outcome_of (Err Unsound) c → Answers r book table
  unfolding message_answer
  unsound e r h = refuses (Err Unsound) (rw e) refl r h

  pub unknown : message_sound register book table c ≡ true → is_form form ≡ false → (r : Outcome) → r ≡ outcome_of (Err UnknownForm) c → Answers r book table
  unfolding message_answer
  unknown e k r h = refuses (Err UnknownForm) (rw (e, k)) refl r h

  module _ (sound : message_sound register book table c ≡ true) (known : is_form form ≡ true) where
    answer-is : (x : Reading) → reading_of (message_table form) register sender d ≡ x → message_answer d sender form register book table c ≡ unless_refused 0 x (room_for bodies book table c)
    unfolding message_answer
    answer-is x reads = rw (sound, known, reads)

    pub dossier-refused : (a : Refusal) → passed_of 0 (reading_of (message_table form) register sender d) ≡ Err a → (r : Outcome) → r ≡ outcome_of (Err a) c → Answers r book table
    dossier-refused a e r h =
        let x = reading_of (message_table form) register sender d in
        let off = passed-off 0 x a e (room_for bodies book table c) in
        refuses (Err a) (answer-is x refl ∙ off) refl r h

    pub rows_taken : (n : ℕ) → reading_of (message_table form) register sender d ≡ Ok n → (staged : List (List ℕ)) → staged ≡ bodies → (r : Outcome) (b t : List ℕ)
        → leaves r b t ≡ taken_leaves staged sender book table c → Answers r b t
    unfolding message_leaves taken_leaves
    rows_taken n reads staged e r b t h = rw (answer-is (Ok n) reads, ← e) h
