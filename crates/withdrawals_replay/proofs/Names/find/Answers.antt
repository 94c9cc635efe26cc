use Prim.Native.Nat.{ℕ, ◌<◌}
use native.Mathlib.Omega.{arith}
use lib.ListN.{take}
use Rattle.lists.proofs.EachLaws.{each_all}
use Rattle.withdrawals_replay.proofs.Names.find.Goals as goal

pub find_place-requires : goal.find_place-requires
find_place-requires c =
    let n = c.args.self in
    record { key_wide_bound = (omega arith, n.entries_there, n.named_there, c.requires); each = each_all (λ (j : ℕ). j < n.entries) (take n.named n.order.now) 0 n.places_below; order_value = n.names_rise }

pub returns : goal.returns
returns c = c.find_place.ensures
