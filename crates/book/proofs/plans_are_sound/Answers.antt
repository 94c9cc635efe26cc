use mathlib.Core.Path.{◌≡◌, sym, ◌∙◌}
use mathlib.Core.Bool.{true, false}
use native.Mathlib.Omega.{arith}
use Rattle.std.proofs.lemmas.Bool.{false≢true}
use Rattle.book.specs.Rules.{all_plans}
use Rattle.book.proofs.PlanLaws.{bodies, plans-none}
use Rattle.book.proofs.plans_are_sound.Goals.{then-all_common, else-all_common}
use Rattle.book.proofs.plans_are_sound.Goals as goal

pub all_common-requires : goal.all_common-requires
all_common-requires c = (omega arith, omega arith)

pub plans_in_range-requires : goal.plans_in_range-requires
plans_in_range-requires c = record { plan_wide_in_bounds = omega arith; book_value = sym c.all_common.ensures ∙ c.if-all_common.true }

pub keys_rise-requires : goal.keys_rise-requires
keys_rise-requires c = (omega arith, omega arith)

pub returns-then-plans_in_range : goal.returns-then-plans_in_range
returns-then-plans_in_range c =
    let a = c.args in
    let good : all_plans (bodies a.plans a.book.now) ≡ true =
    elim c.if-all_common.branch [ then-all_common w ↦ sym w.plans_in_range.ensures ∙ sym w.value-is ∙ c.if-plans_in_range.true | else-all_common w ↦ absurd (false≢true (sym w.if-all_common.false ∙ sym w.value-is ∙ c.if-plans_in_range.true)) ] in
    c.keys_rise.ensures ∙ sym (rw good)

pub returns-else-plans_in_range : goal.returns-else-plans_in_range
returns-else-plans_in_range c =
    let a = c.args in
    let bad : all_plans (bodies a.plans a.book.now) ≡ false =
    elim c.if-all_common.branch [ then-all_common w ↦ sym w.plans_in_range.ensures ∙ sym w.value-is ∙ c.if-plans_in_range.false | else-all_common w ↦ plans-none (bodies a.plans a.book.now) (sym c.all_common.ensures ∙ w.if-all_common.false) ] in
    c.if-plans_in_range.false ∙ sym (rw bad)
