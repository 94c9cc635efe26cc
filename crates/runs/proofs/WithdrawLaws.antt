-- A withdrawal that is accepted keeps the book with its plan and log. Assumes nothing.
use mathlib.Core.Path.{◌≡◌, sym, ap, ◌∙◌, subst₂}
use mathlib.Core.Bool.{true}
use mathlib.Core.List.{List, map}
use Prim.Native.Nat.{ℕ, ◌*◌}
use native.Mathlib.Omega.{arith}
use lib.ListN.{length}
use Rattle.lists.specs.Part.{over}
use Rattle.lists.specs.Rows.{flat}
use Rattle.book.specs.Entries.{plan_wide, plan_entry, plan_count, updates_in}
use Rattle.book.specs.Rules.{book_sound, withdrawn}
use Rattle.calls.specs.Answers.{is_accepted}
use Rattle.calls.specs.Withdraw.{rows_without, withdraw_answer, book_without, table_without, without_by, withdraw_leaves}
use Rattle.calls.specs.Leaves.{Day}
use Rattle.runs.specs.Runs.{Call, reply_to, after, Taken, struck, deed_of, noted, log_entries}
use Rattle.runs.proofs.LogLaws.{NotedFrom, log-struck, log-withdrawn, length-withdrawn}
use Rattle.book.proofs.MarkLaws.{book-less}
use Rattle.runs.proofs.FollowLaws.{Holds, length-plans, length-log, write_again, plan-count}

module _ (n sender : ℕ) (x : Day) (e : is_accepted (withdraw_answer n sender x.book x.table x.counts) ≡ true) where
  abbrev call : Call
  call = Call.withdraw n sender

  abbrev without : List (List ℕ)
  without = rows_without n x.book x.counts.used x.table x.counts.rows

  -- the day once the message is withdrawn
  abbrev leaves : Day
  leaves =
      record {
        book = book_without n x.book x.counts.used;
        table = table_without n x.book x.counts.used x.table x.counts.rows;
        counts = record { used = x.counts.used; rows = length without };
      }

  pub day-after : leaves ≡ after call x
  unfolding withdraw_leaves without_by
  day-after = rw e

  log-after : (log : List Taken) → map (struck n) log ≡ noted (deed_of call (reply_to call x)) log
  log-after log = rw e

  module _ (plan : List (List ℕ)) (lent : List ℕ) (log : List Taken) (sound : book_sound x.counts.used x.book ≡ true) (f : Holds plan lent x log) where
    abbrev less : List Taken
    less = map (struck n) log

    less-numbered : NotedFrom 0 less
    less-numbered = log-struck n 0 log f.numbered

    less-updates : withdrawn n (updates_in x.counts.used x.book) ≡ log_entries less
    less-updates = ap (withdrawn n) f.updates ∙ log-withdrawn n 0 log f.numbered

    less-length : length (log_entries less) ≡ length (log_entries log)
    less-length = ap length (sym (log-withdrawn n 0 log f.numbered)) ∙ length-withdrawn n (log_entries log)

    plans-end : plan_count x.counts.used x.book * plan_wide ≡ length (flat (map plan_entry plan))
    plans-end = ap (λ (m : ℕ). m * plan_wide) (sym (plan-count x.counts.used x.book) ∙ ap length f.plans) ∙ sym (length-plans plan f.is-plan.0)

    less-holds : Holds plan lent leaves less
    unfolding book_without
    less-holds =
        let b = book-less x.counts.used x.book n sound in
        record {
          is-plan = f.is-plan;
          numbered = less-numbered;
          book-is =
              ap (λ (es : List (List ℕ)). over (plan_count x.counts.used x.book * plan_wide) (flat es) x.book) less-updates
              ∙ ap (over (plan_count x.counts.used x.book * plan_wide) (flat (log_entries less))) f.book-is
              ∙ write_again _ (flat (map plan_entry plan)) (flat (log_entries log)) (flat (log_entries less)) lent plans-end
              (let p = length-log log f.numbered in let q = length-log less less-numbered in let r = less-length in omega arith);
          used-is = let u = f.used-is in let r = less-length in omega arith;
          plans = b.1 ∙ f.plans;
          updates = b.2 ∙ less-updates;
        }

    pub withdraw-holds : Holds plan lent (after call x) (noted (deed_of call (reply_to call x)) log)
    withdraw-holds = subst₂ (Holds plan lent) day-after (log-after log) less-holds
