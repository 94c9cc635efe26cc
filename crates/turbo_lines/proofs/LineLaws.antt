use Prim.Native.Nat.{ℕ, suc, ◌+◌, ◌≤◌, ◌<◌, ◌-◌}
use native.Mathlib.Omega.{arith}
use mathlib.Core.Path.{◌≡◌, refl, sym, ◌∙◌}
use mathlib.Core.Bool.{Bool, true, false}
use mathlib.Core.List.{List, [], ◌∷◌}
use lib.ListN.{length, take, drop, drop_of_length-le, length-drop}
use lib.Seq.{drop-drop}
use lib.Dec.{eqb}
use Rattle.lists.specs.Logic.{on}
use Rattle.lists.proofs.PartLaws.{tail_all}
use Rattle.turbo.specs.Split.{until, past, into_first}
use Rattle.turbo.proofs.SplitLaws.{past-drop}
use Rattle.turbo_lines.specs.Lines.{lines_from, lines}

-- Laws of lines: by the first of them, and what the walk over them cites. Assumes nothing.

-- what is left after a line's CR LF, at n where its CR was found
pub after_line : (n : ℕ) (l : List ℕ) → n ≡ length (until 13 l) → drop (n + 2) l ≡ drop 1 (past 13 l)
after_line n l e =
    let q : n + 2 ≡ suc (length (until 13 l)) + 1 = omega arith in
    rw (past-drop 13 l, q) (sym (drop-drop 1 (suc (length (until 13 l))) l))

pub after-line-tail : (n : ℕ) (l : List ℕ) → n ≡ length (until 13 l) → take (length l - (n + 2)) (drop (n + 2) l) ≡ drop 1 (past 13 l)
after-line-tail n l e = tail_all (n + 2) l ∙ after_line n l e

pub after-line-none : (n : ℕ) (l : List ℕ) → n ≡ length (until 13 l) → length l - n < 2 → take (length l - length l) (drop (length l) l) ≡ drop 1 (past 13 l)
after-line-none n l e h = tail_all (length l) l ∙ drop_of_length-le l {i = length l} (omega arith) ∙ sym (drop_of_length-le l {i = n + 2} (omega arith)) ∙ after_line n l e

skip-line : (l : List ℕ) → lines_from true l ≡ lines_from false (drop 1 l)
unfolding lines_from
skip-line [] = refl
skip-line (b ∷ l) = refl

-- the lines by their first
pub lines_cons : (l : List ℕ) → 0 < length l → lines l ≡ until 13 l ∷ lines (drop 1 (past 13 l))
unfolding lines_from until past
lines_cons [] h = absurd (omega arith)
lines_cons (b ∷ []) h = go (eqb b 13)
  where
    go : (t : Bool) → on t ([] ∷ []) (into_first b []) ≡ on t [] (b ∷ []) ∷ lines_from false (drop 1 (on t [] []))
    go true = refl
    go false = refl
lines_cons (b ∷ c ∷ l) h = go (eqb b 13) (lines_cons (c ∷ l) (omega arith))
  where
    go : (t : Bool) → lines (c ∷ l) ≡ until 13 (c ∷ l) ∷ lines (drop 1 (past 13 (c ∷ l))) → on t ([] ∷ lines_from true (c ∷ l)) (into_first b (lines (c ∷ l))) ≡ on t [] (b ∷ until 13 (c ∷ l)) ∷ lines (drop 1 (on t (c ∷ l) (past 13 (c ∷ l))))
    go true e = refl
    go false e = rw e refl

pub lines_none : (l : List ℕ) → length l ≤ 0 → lines l ≡ []
unfolding lines_from
lines_none [] h = refl
lines_none (b ∷ l) h = absurd (omega arith)

pub after-line-shorter : (l : List ℕ) → 0 < length l → length (drop 1 (past 13 l)) < length l
after-line-shorter l h = rw (← after_line (length (until 13 l)) l refl) (omega (arith, length-drop (length (until 13 l) + 2) l))
