-- Cells one behind the other: each is a part of the row, and a row whose parts are the cells is the cells. Over any widths. Assumes nothing.
use mathlib.Core.Path.{◌≡◌, refl, sym, ap, ◌∙◌}
use mathlib.Core.List.{List, [], ◌∷◌, ◌++◌, append_assoc}
use Prim.Native.Nat.{ℕ, zero, suc, ◌+◌, ◌<◌, ◌≤◌}
use native.Mathlib.Nat.{le_of_suc-le-suc, not-suc-le-zero}
use native.Mathlib.Omega.{arith}
use lib.ListN.{length, take, drop, get_or, length-append}
use lib.Seq.{take-add, take_at, drop_at, drop-drop}
use Rattle.lists.specs.Part.{part}
use Rattle.lists.specs.Rows.{flat}
use Rattle.columns.specs.Layout.{total}

-- ---- where cells of the widths ws begin

abbrev pub begins : List ℕ → ℕ → ℕ
begins ws j = total (take j ws)

-- the next begins where this one ends
pub begins-next : (ws : List ℕ) (j : ℕ) → j < length ws → begins ws (suc j) ≡ begins ws j + get_or ws j 0
unfolding total
begins-next [] j h = absurd (not-suc-le-zero h)
begins-next (w ∷ ws) zero h = omega arith
begins-next (w ∷ ws) (suc j) h = let n = begins-next ws j (le_of_suc-le-suc h) in omega arith

-- each ends within the whole, and in front of each later one
pub begins-within : (ws : List ℕ) (j : ℕ) → j < length ws → begins ws j + get_or ws j 0 ≤ total ws
unfolding total
begins-within [] j h = absurd (not-suc-le-zero h)
begins-within (w ∷ ws) zero h = omega arith
begins-within (w ∷ ws) (suc j) h = let n = begins-within ws j (le_of_suc-le-suc h) in omega arith

pub begins-apart : (ws : List ℕ) (j k : ℕ) → j < k → k < length ws → begins ws j + get_or ws j 0 ≤ begins ws k
unfolding total
begins-apart [] j k h l = absurd (not-suc-le-zero l)
begins-apart (w ∷ ws) j zero h l = absurd (not-suc-le-zero h)
begins-apart (w ∷ ws) zero (suc k) h l = omega arith
begins-apart (w ∷ ws) (suc j) (suc k) h l = let n = begins-apart ws j k (le_of_suc-le-suc h) (le_of_suc-le-suc l) in omega arith

-- ---- parts and cells

-- a part behind the first w bytes
part-behind : (w at n : ℕ) (row : List ℕ) → part (w + at) n row ≡ part at n (drop w row)
unfolding part
part-behind w at n row = ap (take n) (sym (drop-drop at w row))

-- a row whose parts are the cells
pub parts-flat :
    (ws : List ℕ) (cells : List (List ℕ)) (row : List ℕ) → length cells ≡ length ws
    → ((j : ℕ) → j < length ws → part (begins ws j) (get_or ws j 0) row ≡ get_or cells j [])
    → take (total ws) row ≡ flat cells
unfolding total flat part
parts-flat [] [] row e h = refl
parts-flat [] (c ∷ cells) row e h = absurd (omega arith)
parts-flat (w ∷ ws) [] row e h = absurd (omega arith)
parts-flat (w ∷ ws) (c ∷ cells) row e h =
    let first : take w row ≡ c = h 0 (omega arith) in
    let rest = parts-flat ws cells (drop w row) (omega arith) (λ j l. sym (part-behind w (begins ws j) (get_or ws j 0) row) ∙ h (suc j) (omega arith)) in
    take-add w (total ws) row ∙ rw (first, rest)

-- each cell has its width
abbrev pub Fit : List ℕ → List (List ℕ) → Type 0
Fit [] [] = Unit {0}
Fit [] (c ∷ cells) = ⊥
Fit (w ∷ ws) [] = ⊥
Fit (w ∷ ws) (c ∷ cells) = (length c ≡ w) × Fit ws cells

-- the cells of a row, and what stands behind them
pub length-flat : (ws : List ℕ) (cells : List (List ℕ)) → Fit ws cells → length (flat cells) ≡ total ws
unfolding total flat
length-flat [] [] h = refl
length-flat [] (c ∷ cells) h = absurd h
length-flat (w ∷ ws) [] h = absurd h
length-flat (w ∷ ws) (c ∷ cells) h = length-append c (flat cells) ∙ rw (h.0, length-flat ws cells h.1)

pub flat-part :
    (ws : List ℕ) (cells : List (List ℕ)) (z : List ℕ) → Fit ws cells
    → (j : ℕ) → j < length ws → part (begins ws j) (get_or ws j 0) (flat cells ++ z) ≡ get_or cells j []
unfolding total flat part
flat-part [] [] z h j l = absurd (not-suc-le-zero l)
flat-part [] (c ∷ cells) z h j l = absurd h
flat-part (w ∷ ws) [] z h j l = absurd h
flat-part (w ∷ ws) (c ∷ cells) z h zero l = rw (append_assoc c (flat cells) z) (take_at c (flat cells ++ z) w h.0)
flat-part (w ∷ ws) (c ∷ cells) z h (suc j) l =
    part-behind w (begins ws j) (get_or ws j 0) ((c ++ flat cells) ++ z)
    ∙ rw (append_assoc c (flat cells) z, drop_at c (flat cells ++ z) w h.0) (flat-part ws cells z h.1 j (le_of_suc-le-suc l))
