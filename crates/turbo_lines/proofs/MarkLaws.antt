use Prim.Native.Nat.{ℕ, ◌≤◌, ◌<◌}
use native.Mathlib.Omega.{arith}
use mathlib.Core.Path.{◌≡◌, refl, sym, ap}
use mathlib.Core.List.{List, [], ◌∷◌}
use borrow.Author.Tests.{eq-eqb, ne_eqb}
use lib.ListN.{length, get_or}
use Rattle.turbo_lines.specs.declared.Mark.{Mark}
use Rattle.turbo_lines.specs.declared.Mark.TheVariants.{Data}
use Rattle.turbo_lines.specs.Lines.{letter, mark_of, behind, after_mark}

-- Laws of a line's mark. Assumes nothing.

pub mark-short : (l : List ℕ) → length l < 2 → Data ≡ mark_of l
unfolding mark_of
mark-short [] h = refl
mark-short (a ∷ []) h = refl
mark-short (a ∷ b ∷ l) h = absurd (omega arith)

pub mark-plain : (l : List ℕ) → (get_or l 0 0 ≡ 92 → ⊥) → Data ≡ mark_of l
unfolding mark_of
mark-plain [] h = refl
mark-plain (a ∷ []) h = refl
mark-plain (a ∷ b ∷ l) h = rw (ne_eqb a 92 h)

pub mark-slash : (l : List ℕ) → 2 ≤ length l → get_or l 0 0 ≡ 92 → letter (get_or l 1 0) ≡ mark_of l
unfolding mark_of
mark-slash [] h e = absurd (omega arith)
mark-slash (a ∷ []) h e = absurd (omega arith)
mark-slash (a ∷ b ∷ l) h e = rw (eq-eqb a 92 e)

-- a line with a mark m has two bytes for it
pub mark-long : (l : List ℕ) (m : Mark) → m ≡ mark_of l → (Data ≡ m → ⊥) → 2 ≤ length l
unfolding mark_of
mark-long [] m e h = absurd (h (sym e))
mark-long (a ∷ []) m e h = absurd (h (sym e))
mark-long (a ∷ b ∷ l) m e h = omega arith

pub behind-mark : (l : List ℕ) (m : Mark) → m ≡ mark_of l → behind m l ≡ after_mark l
unfolding after_mark
behind-mark l m e = ap (λ (k : Mark). behind k l) e
