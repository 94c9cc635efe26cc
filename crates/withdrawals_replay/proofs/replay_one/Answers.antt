use mathlib.Core.Path.{refl, sym, ◌∙◌}
use native.Mathlib.Omega.{arith}
use Rattle.withdrawals_replay.specs.inner.Slots.{slots_of}
use Rattle.withdrawals_replay.proofs.HeardLaws.{entry-own, entry-fallen, entry_other}
use Rattle.withdrawals_replay.proofs.replay_one.Goals as goal

pub returns-then-kind-ne2 : goal.returns-then-kind-ne2
returns-then-kind-ne2 c =
    let a = c.args in
    record { taken = entry-fallen a.number a.at a.book.now _ c.requires.entry_wide_in_bounds.0 c.if-kind-ne2.true; rest = refl }

pub returns-then-own-number : goal.returns-then-own-number
returns-then-own-number c =
    let a = c.args in
    record { taken = entry-own a.number a.at a.book.now _ c.requires.entry_wide_in_bounds.0 (sym c.get_number-own.ensures ∙ c.if-own-number.true); rest = refl }

pub take_update-requires : goal.take_update-requires
take_update-requires c =
    record { body_wide_in_bounds = (omega arith, c.requires.entry_wide_in_bounds.1); slots_value = c.requires.slots_value }

pub returns : goal.returns
returns c =
    let a = c.args in
    record { taken = c.take_update.ensures.taken ∙ entry_other a.number a.at a.book.now (slots_of a.names.named a.slots.now) c.requires.entry_wide_in_bounds.0 c.if-kind-ne2.false (λ e. c.if-own-number.false (c.get_number-own.ensures ∙ e)); rest = c.take_update.ensures.rest }
