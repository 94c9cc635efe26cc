use native.Mathlib.Omega.{arith}
use Rattle.withdrawals.proofs.rework_few.Goals as goal

pub rework_with-requires : goal.rework_with-requires
rework_with-requires c =
    let few = c.requires.count_bound in
    record { count_bound = (omega arith, omega arith); areas = (omega arith, omega arith); counts_value = c.requires.counts_value; message_at = c.requires.message_at }
