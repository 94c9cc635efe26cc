-- Where a test first holds of bytes. The test is told by what it may answer of a byte. Assumes nothing.
use Rattle.std.specs.Prelude.{ℕ, ◌≤◌, ◌<◌, Bool, true, false, List, length, get_or}

-- the test holds of none of the first n bytes of l
abbrev pub Clear : (ℕ → Bool → Type 0) → List ℕ → ℕ → Type 0
Clear may l n = (k : ℕ) → k < n → may (get_or l k 0) false

-- n is where it first holds of the bytes l, or how many they are where it holds of none
pub record IsFirst (may : ℕ → Bool → Type 0) (l : List ℕ) (n : ℕ) : Type 0 where
  pub within : n ≤ length l
  pub clear : Clear may l n
  pub there : n < length l → may (get_or l n 0) true
