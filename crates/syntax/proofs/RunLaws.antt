use Prim.Native.Nat.{ℕ, ◌+◌, ◌≤◌, ◌<◌}
use native.Mathlib.Numerals.{add-one}
use mathlib.Core.Path.{◌≡◌, sym, ap}
use mathlib.Core.Bool.{true, false}
use mathlib.Core.List.{List}
use lib.ListN.{length, get_or, drop, drop_of_length-le}
use lib.Seq.{drop-cons}
use Rattle.std.specs.Prelude.{Some, None, Ok, Err}
use Rattle.syntax.specs.declared.State.{State}
use Rattle.syntax.specs.Machine.{step, accepting, run}

-- What a loop over `run` cites: a turn that goes on, a turn that ends in a fault, and the end of the bytes.
-- Assumes nothing.

pub run-bad : (s : State) (d : List ℕ) (i : ℕ) → i < length d → step s (get_or d i 0) ≡ None → run s (drop i d) i ≡ Err i
unfolding run
run-bad s d i h e = rw (drop-cons d i 0 h) (rw e)

pub run-to : (s t : State) (d : List ℕ) (i : ℕ) → i < length d → step s (get_or d i 0) ≡ Some t → run s (drop i d) i ≡ run t (drop (i + 1) d) (i + 1)
unfolding run
run-to s t d i h e = rw (drop-cons d i 0 h) (rw e (ap (λ (n : ℕ). run t (drop n d) (i + 1)) (sym (add-one i))))

pub run-fine : (s : State) (d : List ℕ) (i : ℕ) → length d ≤ i → accepting s ≡ true → run s (drop i d) i ≡ Ok tt
unfolding run
run-fine s d i h e = rw (drop_of_length-le d h) (rw e)

pub run_short : (s : State) (d : List ℕ) (i : ℕ) → length d ≤ i → accepting s ≡ false → run s (drop i d) i ≡ Err i
unfolding run
run_short s d i h e = rw (drop_of_length-le d h) (rw e)

-- two states that go the same way from a byte
pub run-alike : (s t : State) (d : List ℕ) (i : ℕ) → i < length d → step s (get_or d i 0) ≡ step t (get_or d i 0) → run s (drop i d) i ≡ run t (drop i d) i
unfolding run
run-alike s t d i h e = rw (drop-cons d i 0 h) (rw e)
