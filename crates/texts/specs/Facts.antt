-- What a text is, over any width. Assumes nothing.
use Rattle.std.specs.Prelude.{ℕ, ◌≤◌, List, length}
use Rattle.lists.specs.Each.{Each}

-- of a text that may be kept in w bytes
pub record TextFacts (w : ℕ) (t : List ℕ) : Type 0 where
  pub least : 1 ≤ length t
  pub most : length t ≤ w
  pub bytes : Each (λ (b : ℕ). (32 ≤ b) × (b ≤ 126)) t
