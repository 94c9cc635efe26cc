-- What holds after a run, in two parts: the table agrees with the book, and the book holds the plan and the log. Assumes nothing.
use mathlib.Core.Path.{◌≡◌, sym, ap, ap₂, ◌∙◌}
use mathlib.Core.List.{List, [], ◌∷◌, ◌++◌, map, append_assoc}
use Prim.Native.Nat.{ℕ, ◌+◌, ◌*◌, ◌≤◌}
use native.Mathlib.Omega.{arith}
use lib.ListN.{length, length-append, length-map}
use Rattle.lists.specs.Each.{Each}
use Rattle.lists.specs.Part.{over}
use Rattle.lists.specs.Rows.{flat, Wide}
use Rattle.lists.proofs.OverLaws.{over-then, over-longer}
use Rattle.lists.proofs.WideLaws.{length-flat}
use Rattle.passage.specs.Layout.{body_wide}
use Rattle.keys.specs.Replay.{taken_all}
use Rattle.update.specs.Rule.{row_rule}
use Rattle.book.specs.Entries.{plan_wide, entry_wide, plan_entry, plan_count, plans_in, plan_bodies, updates_in}
use Rattle.book.specs.Rules.{standing, plan_rows}
use Rattle.book.proofs.PlanLaws.{length-bodies}
use Rattle.calls.specs.Leaves.{Day}
use Rattle.runs.specs.Runs.{Taken, log_entries, log_standing}
use Rattle.runs.specs.Claims.{rows_in, Agrees}
use Rattle.runs.proofs.LogLaws.{NotedFrom, log-wide, log-standing}
use Rattle.runs.proofs.RowsLaws.{Planned, IsPlan, replay}

-- the book holds the plan and the log
pub record Holds (plan : List (List ℕ)) (lent : List ℕ) (x : Day) (log : List Taken) : Type 0 where
  pub is-plan : IsPlan plan
  pub numbered : NotedFrom 0 log
  pub book-is : x.book ≡ over 0 (flat (map plan_entry plan) ++ flat (log_entries log)) lent
  pub used-is : x.counts.used ≡ length plan * plan_wide + length (log_entries log) * entry_wide
  pub plans : plan_bodies x.counts.used x.book ≡ plan
  pub updates : updates_in x.counts.used x.book ≡ log_entries log

-- both parts
pub record Follows (plan : List (List ℕ)) (lent : List ℕ) (x : Day) (log : List Taken) : Type 0 where
  pub agrees : Agrees x
  pub holds : Holds plan lent x log

-- so the rows are the replay of the plan and of the log's standing rows
pub rows-replayed : (plan : List (List ℕ)) (lent : List ℕ) (x : Day) (log : List Taken) → Follows plan lent x log → rows_in x ≡ replay plan (log_standing log)
rows-replayed plan lent x log f =
    f.agrees.1
    ∙ ap₂ (λ (us bodies : List (List ℕ)). taken_all row_rule us (plan_rows bodies)) (ap standing f.holds.updates ∙ log-standing 0 log f.holds.numbered) f.holds.plans

-- ---- bytes of the book

plans-wide : (plan : List (List ℕ)) → Each Planned plan → Wide plan_wide (map plan_entry plan)
plans-wide [] h = tt
plans-wide (b ∷ plan) h = ((let e : length b ≡ body_wide = h.0.0 in omega arith), plans-wide plan h.1)

pub length-plans : (plan : List (List ℕ)) → Each Planned plan → length (flat (map plan_entry plan)) ≡ length plan * plan_wide
length-plans plan h = length-flat plan_wide (map plan_entry plan) (plans-wide plan h) ∙ ap (λ (n : ℕ). n * plan_wide) (length-map plan plan_entry)

pub length-log : (log : List Taken) → NotedFrom 0 log → length (flat (log_entries log)) ≡ length (log_entries log) * entry_wide
length-log log h = length-flat entry_wide (log_entries log) (log-wide 0 log h)

-- what is written behind
pub write-behind : (used : ℕ) (p l e b : List ℕ) → used ≡ length p + length l → over used e (over 0 (p ++ l) b) ≡ over 0 (p ++ (l ++ e)) b
write-behind used p l e b h =
    let k : used ≡ 0 + length (p ++ l) = rw length-append (omega arith) in
    ap (λ (n : ℕ). over n e (over 0 (p ++ l) b)) k ∙ over-then 0 (p ++ l) e b ∙ ap (λ (v : List ℕ). over 0 v b) (append_assoc p l e)

-- what is written in place of as many bytes
pub write_again : (at : ℕ) (p l m b : List ℕ) → at ≡ length p → length l ≤ length m → over at m (over 0 (p ++ l) b) ≡ over 0 (p ++ m) b
write_again at p l m b h k =
    let e : at ≡ 0 + length p = omega arith in
    ap (λ (n : ℕ). over n m (over 0 (p ++ l) b)) e
    ∙ ap (over (0 + length p) m) (sym (over-then 0 p l b))
    ∙ over-longer (0 + length p) l m (over 0 p b) k
    ∙ over-then 0 p m b

pub plan-count : (used : ℕ) (b : List ℕ) → length (plan_bodies used b) ≡ plan_count used b
unfolding plans_in
plan-count used b = length-bodies (plan_count used b) b
