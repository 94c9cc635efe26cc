use mathlib.Core.Path.{sym}
use mathlib.Core.List.{List}
use Prim.Native.Nat.{ℕ, ◌*◌}
use native.Mathlib.Omega.{arith}
use lib.ListN.{length, length-replicate}
use Rattle.reader.specs.Passes.{pass_wide, validity_wide}
use Rattle.reader.proofs.AnswerLaws.{planning-few, calendar-few}
use Rattle.calls.proofs.NumbersLaws.{open_told}
use Rattle.opening.specs.inner.Steps.{most_passes, most_validities, few_passes, few_validities, HoldsPasses, HoldsValidities}
use Rattle.lists.proofs.AreaLaws.{made-room}
use Rattle.opening.proofs.AreaLaws.{both-within}
use Rattle.opening.proofs.open.Goals as goal

-- any dossiers
all-passes : (planning : List ℕ) → HoldsPasses planning (most_passes * pass_wide)
all-passes planning n e = let f = (planning-few planning n e).1 in omega arith

all-validities : (calendar : List ℕ) → HoldsValidities calendar (most_validities * validity_wide)
all-validities calendar n e = let f = (calendar-few calendar n e).1 in omega arith

-- ---- small dossiers
pub slice_bounds-open_by-end : goal.slice_bounds-open_by-end
slice_bounds-open_by-end c = sym (length-replicate {A = ℕ} (few_passes * pass_wide) 0)

pub slice_bounds-open_by-end-then-planning-calendar : goal.slice_bounds-open_by-end-then-planning-calendar
slice_bounds-open_by-end-then-planning-calendar c = sym (length-replicate {A = ℕ} (few_validities * validity_wide) 0)

pub open_by-requires : goal.open_by-requires
open_by-requires c =
    let small-passes : HoldsPasses c.args.planning.now (few_passes * pass_wide) = λ n e. let h = (both-within (length c.args.planning.now) _ (length c.args.calendar.now) _ c.if-planning-calendar.true).0 in let f = (planning-few c.args.planning.now n e).0 in omega arith in
    let small-validities : HoldsValidities c.args.calendar.now (few_validities * validity_wide) = λ n e. let h = (both-within (length c.args.planning.now) _ (length c.args.calendar.now) _ c.if-planning-calendar.true).1 in let f = (calendar-few c.args.calendar.now n e).0 in omega arith in
    record { holds_passes = (λ n e. made-room (n * pass_wide) (few_passes * pass_wide) (small-passes n e)); holds_validities = (λ n e. made-room (n * validity_wide) (few_validities * validity_wide) (small-validities n e)) }

pub returns-then-planning-calendar : goal.returns-then-planning-calendar
returns-then-planning-calendar c =
    let a = c.args in
    let t = open_told a.planning.now a.calendar.now a.book.now a.table.now a.counts _ _ _ c.open_by.ensures in record { lent = t.0; numbers = t.1 }

-- ---- any dossiers
pub slice_bounds-open_by-end-2 : goal.slice_bounds-open_by-end-2
slice_bounds-open_by-end-2 c = sym (length-replicate {A = ℕ} (most_passes * pass_wide) 0)

pub slice_bounds-open_by-end-3 : goal.slice_bounds-open_by-end-3
slice_bounds-open_by-end-3 c = sym (length-replicate {A = ℕ} (most_validities * validity_wide) 0)

pub open_by-requires-2 : goal.open_by-requires-2
open_by-requires-2 c =
    let a = c.args in
    record { holds_passes = (λ n e. made-room (n * pass_wide) (most_passes * pass_wide) (all-passes a.planning.now n e)); holds_validities = (λ n e. made-room (n * validity_wide) (most_validities * validity_wide) (all-validities a.calendar.now n e)) }

pub returns : goal.returns
returns c =
    let a = c.args in
    let t = open_told a.planning.now a.calendar.now a.book.now a.table.now a.counts _ _ _ c.open_by-2.ensures in record { lent = t.0; numbers = t.1 }
