use mathlib.Core.Path.{◌≡◌}
use Prim.Native.Nat.{◌<◌, ◌^◌}
use lib.ListN.{drop}
use Rattle.field_types.specs.Digits.{all_digits, value, value_from}
use Rattle.field_types.proofs.read_number.Given as goal

abbrev pub invariant-loop-b : goal.invariant-loop-b
invariant-loop-b l =
    (l.n < 10 ^ l.b-index)
    × (all_digits l.field ≡ all_digits (drop l.b-index l.field))
    × (value l.field ≡ value_from l.n (drop l.b-index l.field))
