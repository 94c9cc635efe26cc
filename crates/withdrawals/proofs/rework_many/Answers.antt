use native.Mathlib.Omega.{arith}
use Rattle.withdrawals.proofs.RoomLaws.{sound-parts}
use Rattle.withdrawals.proofs.WorkLaws.{few}
use Rattle.withdrawals.proofs.rework_many.Goals as goal

pub rework_with-requires : goal.rework_with-requires
rework_with-requires c =
    let a = c.args in
    let k = few a.counts.used a.at a.count a.book.now (sound-parts a.book.now a.table.now a.counts c.requires.counts_value).0 c.requires.message_at.within in
    record { count_bound = (omega arith, omega arith); areas = (omega arith, omega arith); counts_value = c.requires.counts_value; message_at = c.requires.message_at }
