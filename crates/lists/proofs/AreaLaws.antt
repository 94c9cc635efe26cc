-- Areas that a function makes and lends: how long they are, by a law, since to count one takes long. Assumes nothing.
use mathlib.Core.Path.{◌≡◌}
use mathlib.Core.List.{List}
use Prim.Native.Nat.{ℕ, ◌≤◌}
use native.Mathlib.Omega.{arith}
use lib.ListN.{length, replicate, length-replicate}

-- one of k bytes has room for n ≤ k
pub made-room : (n k : ℕ) → n ≤ k → n ≤ length (replicate {A = ℕ} k 0)
made-room n k h = rw (length-replicate {A = ℕ} k 0) h

-- and so has one that is as long as it was
pub room_for : (n k : ℕ) (area : List ℕ) → length area ≡ k → n ≤ k → n ≤ length area
room_for n k area e h = omega arith
