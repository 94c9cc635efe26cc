-- `end` meets its contract. Assumes nothing.
use mathlib.Core.Path.{refl, sym, ap, ◌∙◌}
use Rattle.calls.proofs.EndLaws.{end-told}
use Rattle.calls.specs.declared.Outcome.{Outcome}
use Rattle.feeds_end.proofs.EndLaws.{read-taken, unread-taken, end-leaves, kept-cleared, kept-left, read-staged}
use Rattle.feeds_end.proofs.end.Goals as goal

pub end_kept-outcome-requires : goal.end_kept-outcome-requires
end_kept-outcome-requires c = read-staged c.args.kept.now c.in-Some.feed (sym c.read.ensures ∙ c.in-Some.is)

pub returns-in_default : goal.returns-in_default
returns-in_default c =
    let a = c.args in
    let l = unread-taken a.register.now a.staging.now a.book.now a.table.now a.counts a.kept.now (sym c.read.ensures ∙ c.in_default.is) c.unchanged.result c.unchanged.ensures in
    let t = end-told a.register.now a.staging.now a.book.now a.table.now a.counts a.kept.now c.unchanged.result _ _ _
    (end-leaves a.register.now a.staging.now a.book.now a.table.now a.counts a.kept.now c.unchanged.result _ _ l _ (rw c.unchanged.ensures)) in record { lent = t.0; numbers = t.1 }

pub returns-then-is_ok : goal.returns-then-is_ok
returns-then-is_ok c =
    let a = c.args in
    let e = sym c.is_ok.ensures.value ∙ c.if-is_ok.true in
    let l = read-taken a.register.now a.staging.now a.book.now a.table.now a.counts a.kept.now c.in-Some.feed (sym c.read.ensures ∙ c.in-Some.is) _ c.end_kept-outcome.ensures in
    let t = end-told a.register.now a.staging.now a.book.now a.table.now a.counts a.kept.now c.end_kept-outcome.result _ _ _
    (end-leaves a.register.now a.staging.now a.book.now a.table.now a.counts a.kept.now c.end_kept-outcome.result _ _ l _
    (kept-cleared c.end_kept-outcome.result.answer a.kept.now _ e c.clear.ensures)) in record { lent = t.0; numbers = t.1 }

pub returns : goal.returns
returns c =
    let a = c.args in
    let e = sym c.is_ok.ensures.value ∙ c.if-is_ok.false in
    let l = read-taken a.register.now a.staging.now a.book.now a.table.now a.counts a.kept.now c.in-Some.feed (sym c.read.ensures ∙ c.in-Some.is) _ c.end_kept-outcome.ensures in
    let t = end-told a.register.now a.staging.now a.book.now a.table.now a.counts a.kept.now c.end_kept-outcome.result _ _ _
    (end-leaves a.register.now a.staging.now a.book.now a.table.now a.counts a.kept.now c.end_kept-outcome.result _ _ l _
    (kept-left c.end_kept-outcome.result.answer a.kept.now e)) in record { lent = t.0; numbers = t.1 }
