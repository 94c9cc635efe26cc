-- Rows of any width, one after another. Assumes nothing.
use mathlib.Core.Path.{◌≡◌}
use Prim.Native.Nat.{ℕ, suc, ◌+◌, ◌*◌, ◌≤◌, ◌<◌}
use native.Mathlib.Nat.{suc-mul, mul-le-mul_right}
use native.Mathlib.Numerals.{add-one}
use native.Mathlib.Omega.{arith}

pub next_row : (w i : ℕ) → (i + 1) * w ≡ i * w + w
next_row w i = rw add-one (suc-mul i w)

within : (a b w at len : ℕ) → a + w ≤ b → at + b ≤ len → at + a + w ≤ len
within a b w at len h k = omega arith

-- each of n rows that lie within a list lies within it
pub row_fits : (w n i at len : ℕ) → i < n → at + n * w ≤ len → at + i * w + w ≤ len
row_fits w n i at len h k =
    let m : suc i * w ≤ n * w = mul-le-mul_right w h in
    within (i * w) (n * w) w at len (rw suc-mul at m) k
