-- The day that an accepted open leaves follows its plan, with an empty log. Assumes nothing.
use mathlib.Core.Path.{◌≡◌, sym, ap, ap₂, ◌∙◌, subst, subst₂}
use mathlib.Core.Bool.{true}
use mathlib.Core.List.{List, [], map, append-nil}
use Prim.Native.Nat.{ℕ, ◌-◌, ◌*◌, ◌≤◌}
use native.Mathlib.Nat.{zero-mul}
use native.Mathlib.Omega.{arith}
use lib.ListN.{length, length-map}
use Rattle.lists.specs.Each.{Each}
use Rattle.lists.specs.Part.{over}
use Rattle.lists.specs.Rows.{rows_of, flat, store}
use Rattle.passage.specs.Layout.{row_wide}
use Rattle.keys.specs.Sorted.{sorted_rows}
use Rattle.keys.specs.Replay.{taken_all}
use Rattle.table.specs.Rules.{table_room, table_sound}
use Rattle.update.specs.Rule.{row_rule}
use Rattle.book.specs.Entries.{plan_wide, plan_entry, plan_bodies, updates_in}
use Rattle.book.specs.Rules.{book_sound, standing, plan_rows, book_room}
use Rattle.book.proofs.AfterLaws.{after_open}
use Rattle.calls.specs.declared.Counts.{Counts}
use Rattle.calls.specs.Answers.{is_accepted}
use Rattle.calls.specs.Open.{passages_of, plan_of, open_answer, opened_by, open_leaves}
use Rattle.calls.proofs.OpenedLaws.{Opened, open-taken, each-put_all, passages-in-range, plan-length, plan-sorted}
use Rattle.calls.specs.Leaves.{Day}
use Rattle.runs.specs.Runs.{opened, log_entries}
use Rattle.runs.specs.Claims.{Agrees}
use Rattle.runs.proofs.LogLaws.{each-so}
use Rattle.runs.proofs.RowsLaws.{Planned, plan-rows, sorted-plan, rows-stored, stored-read}
use Rattle.runs.proofs.FollowLaws.{Holds, Follows}

-- rows written from the start on are stored where there were none
write_store : (w : ℕ) (rs : List (List ℕ)) (t : List ℕ) → store w 0 rs t ≡ over 0 (flat rs) t
unfolding store over
write_store w rs t = let z : 0 - length rs ≡ 0 = omega arith in rw (z, zero-mul, append-nil)

module _ (planning calendar book table : List ℕ) (c : Counts) (e : is_accepted (open_answer planning calendar book table) ≡ true) where
  abbrev plan : List (List ℕ)
  plan = plan_of planning calendar

  went : Opened planning calendar book table
  went = open-taken planning calendar book table e

  rising : sorted_rows plan ≡ true
  rising = plan-sorted planning calendar book table e

  counted : length plan ≡ length (passages_of planning calendar)
  counted = plan-length planning calendar book table e

  plan-planned : Each Planned plan
  unfolding plan_of
  plan-planned = each-put_all Planned (passages_of planning calendar) [] (each-so (λ b h. (h.1, h.0)) (passages_of planning calendar) (passages-in-range planning calendar book table e)) tt

  plan-book-room : length plan * plan_wide ≤ book_room book
  plan-book-room = rw counted went.book-room

  length-rows : length (plan_rows plan) ≡ length plan
  unfolding plan_rows
  length-rows = length-map plan _

  -- the day with the plan
  abbrev begins : Day
  begins =
      record {
        book = over 0 (flat (map plan_entry plan)) book;
        table = over 0 (flat (plan_rows plan)) table;
        counts = record { used = length plan * plan_wide; rows = length plan };
      }

  day-opened : begins ≡ opened planning calendar book table c
  unfolding open_leaves opened_by
  day-opened = rw e

  after-book : (book_sound (length plan * plan_wide) begins.book ≡ true) × (plan_bodies (length plan * plan_wide) begins.book ≡ plan) × (updates_in (length plan * plan_wide) begins.book ≡ [])
  after-book = after_open book plan plan-planned rising plan-book-room

  begins-holds : Holds plan book begins []
  unfolding log_entries flat
  begins-holds =
      record {
        is-plan = (plan-planned, rising);
        numbered = tt;
        book-is = ap (λ (v : List ℕ). over 0 v book) (sym (append-nil (flat (map plan_entry plan))));
        used-is = omega arith;
        plans = after-book.1;
        updates = after-book.2;
      }

  begins-agrees : Agrees begins
  unfolding taken_all standing
  begins-agrees =
      let room : length (plan_rows plan) ≤ table_room table = rw (length-rows, counted) went.table-room in
      let rows = plan-rows plan plan-planned in
      let stored = rows-stored 0 (plan_rows plan) table rows (sorted-plan plan plan-planned rising) room in
      let read = stored-read 0 (plan_rows plan) table rows room in (
        (after-book.0, subst₂ (λ (n : ℕ) (t : List ℕ). table_sound n t ≡ true) length-rows (write_store row_wide (plan_rows plan) table) stored),
        subst₂ (λ (n : ℕ) (t : List ℕ). rows_of row_wide n t ≡ plan_rows plan) length-rows (write_store row_wide (plan_rows plan) table) read
            ∙ sym (ap₂ (λ (us bodies : List (List ℕ)). taken_all row_rule (standing us) (plan_rows bodies)) after-book.2 after-book.1),
      )

  pub open-follows : Follows plan book (opened planning calendar book table c) []
  open-follows = subst (λ (x : Day). Follows plan book x []) day-opened record { agrees = begins-agrees; holds = begins-holds }
