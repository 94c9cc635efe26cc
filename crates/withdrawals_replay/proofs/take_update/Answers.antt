use mathlib.Core.Path.{refl, sym, ◌∙◌}
use Prim.Native.Nat.{◌<◌}
use native.Mathlib.Omega.{arith}
use Rattle.withdrawals_replay.proofs.HeardLaws.{update-below, update-taken, update-rest, update-missing}
use Rattle.withdrawals_replay.proofs.take_update.Goals as goal

pub overflow_mul-i : goal.overflow_mul-i
overflow_mul-i c =
    let below : c.in-Ok.i < c.args.names.named = let a = c.args in
    update-below a.names.named a.from a.book.now a.slots.now _ c.requires.body_wide_in_bounds.1 c.requires.body_wide_in_bounds.0 c.args.names.names_rise c.requires.slots_value _ (sym c.in-Ok.is ∙ c.find-f.ensures) in
    let h = below in
    omega arith

pub take_into-requires : goal.take_into-requires
take_into-requires c =
    let below : c.in-Ok.i < c.args.names.named = let a = c.args in
    update-below a.names.named a.from a.book.now a.slots.now _ c.requires.body_wide_in_bounds.1 c.requires.body_wide_in_bounds.0 c.args.names.names_rise c.requires.slots_value _ (sym c.in-Ok.is ∙ c.find-f.ensures) in
    let h = below in
    (omega arith, c.requires.body_wide_in_bounds.0)

pub returns-in-Ok : goal.returns-in-Ok
returns-in-Ok c =
    let a = c.args in
    let found = sym c.in-Ok.is ∙ c.find-f.ensures in
    record {
      taken =
          update-taken a.names.named a.from a.book.now a.slots.now _ c.requires.body_wide_in_bounds.1 c.requires.body_wide_in_bounds.0 c.args.names.names_rise c.requires.slots_value _ _ found c.take_into.ensures;
      rest =
          update-rest a.names.named a.from a.book.now a.slots.now _ c.requires.body_wide_in_bounds.1 c.requires.body_wide_in_bounds.0 c.args.names.names_rise c.requires.slots_value _ _ found c.take_into.ensures;
    }

pub returns-in-Err : goal.returns-in-Err
returns-in-Err c =
    let a = c.args in
    record { taken = update-missing a.names.named a.from a.book.now a.slots.now _ c.requires.body_wide_in_bounds.1 c.requires.body_wide_in_bounds.0 c.args.names.names_rise c.requires.slots_value _ (sym c.in-Err.is ∙ c.find-f.ensures); rest = refl }
