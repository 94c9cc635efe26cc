-- A trial on a copy of the rows, and where none is needed. Assumes nothing.
use mathlib.Core.Path.{◌≡◌, refl, sym, ap, ◌∙◌}
use mathlib.Core.Bool.{true, false}
use mathlib.Core.List.{List, ◌++◌}
use Prim.Native.Nat.{ℕ, ◌+◌, ◌-◌, ◌*◌, ◌≤◌, ◌<◌}
use native.Mathlib.Omega.{arith}
use borrow.Author.Tests.{le-leb, lt-leb}
use lib.Dec.{leb}
use lib.ListN.{length, take, drop}
use lib.Seq.{length-take-le}
use Rattle.lists.specs.Part.{over}
use Rattle.lists.specs.Rows.{rows_of, flat, store}
use Rattle.lists.proofs.OverLaws.{onto-fits, length_over}
use Rattle.lists.proofs.RowLaws.{length-rows_of, flat-rows_of}
use Rattle.lists.proofs.WideLaws.{wide-rows_of, rows_of-flat}
use Rattle.passage.specs.Layout.{body_wide, row_wide}
use Rattle.keys.specs.Sorted.{sorted_rows}
use Rattle.keys.specs.Replay.{taken}
use Rattle.update.specs.Rule.{row_rule}
use Rattle.messages_take.proofs.LoopLaws.{after, body, after-rises, after-most, after-step, Taking, taking-start, taking-length, taking-end, taking-asked, taking-next}

-- the rows of a copy of the n rows of t are those rows
copied-rows : (n : ℕ) (t z : List ℕ) → n * row_wide ≤ length t → n * row_wide ≤ length z → rows_of row_wide n (over 0 (take (n * row_wide - 0) (drop 0 t)) z) ≡ rows_of row_wide n t
unfolding over
copied-rows n t z h k =
    let rs = rows_of row_wide n t in
    let m : n * row_wide - 0 ≡ n * row_wide = omega arith in
    let l : length (take (n * row_wide) t) ≡ n * row_wide = length-take-le (n * row_wide) t h in
    let f : take (n * row_wide) t ≡ flat rs = sym (flat-rows_of row_wide n t) in
    let rest = drop (length (take (n * row_wide) t)) z in
    let g : rows_of row_wide n (flat rs ++ rest) ≡ rs = rw (length-rows_of row_wide n t) at (rows_of-flat row_wide rs rest (wide-rows_of row_wide n t h)) in
    rw (m, onto-fits (take (n * row_wide) t) z (omega arith)) (ap (λ (x : List ℕ). rows_of row_wide n (x ++ rest)) f ∙ g)

-- i updates are tried on the copy d and made d' of it, and there are not too many rows yet
abbrev pub Trying : (s d : List ℕ) (n m most i count : ℕ) (d' : List ℕ) → Type 0
Trying s d n m most i count d' = (i ≤ m) × (length d' ≡ length d) × (count ≤ most) × Taking s d n i count d'

-- what a trial needs, and the copy d that it begins with, made over the bytes z
module _
    (s t z d : List ℕ) (n m most : ℕ)
    (p : ((n * row_wide ≤ length t) × (m * body_wide ≤ length s) × (n ≤ most) × ((most + 1) * row_wide ≤ length z)) × (sorted_rows (rows_of row_wide n t) ≡ true))
    (e : d ≡ over 0 (take (n * row_wide - 0) (drop 0 t)) z) where
  abbrev rs : List (List ℕ)
  rs = rows_of row_wide n d

  room : (most + 1) * row_wide ≤ length d
  room = rw (ap length e, length_over 0 (take (n * row_wide - 0) (drop 0 t)) z) p.0.3

  fits : n * row_wide ≤ length d
  fits = let h = room in let k = p.0.2 in omega arith

  same : rs ≡ rows_of row_wide n t
  same =
      let h : n * row_wide ≤ length z = let k = p.0.3 in let l = p.0.2 in omega arith in
      ap (rows_of row_wide n) e ∙ copied-rows n t z p.0.0 h

  pub trying_start : Trying s d n m most 0 n d
  trying_start = (omega arith, refl, p.0.2, taking-start s d n fits)

  module _ (i count : ℕ) (d' : List ℕ) (h : i < m) (l : Trying s d n m most i count d') where
    there : i * body_wide + body_wide ≤ length s
    there = let k = p.0.1 in omega arith

    room_next : length (after s rs (i + 1)) * row_wide ≤ length d
    room_next = let k = room in omega (arith, after-step s rs i, l.3.counted, l.2)

    -- what `take_row` asks for
    pub trying-asked :
        ((count * row_wide ≤ length d') × (i * body_wide + body_wide ≤ length s))
        × ((sorted_rows (rows_of row_wide count d') ≡ true) × (length (taken row_rule (body s i) (rows_of row_wide count d')) * row_wide ≤ length d'))
    trying-asked = taking-asked s d n fits i count d' l.3 there room_next (ap sorted_rows same ∙ p.1)

    -- what `take_row` gives
    module _
        (count' : ℕ) (d'' : List ℕ)
        (g : (count' ≡ length (taken row_rule (body s i) (rows_of row_wide count d'))) × (d'' ≡ store row_wide count (taken row_rule (body s i) (rows_of row_wide count d')) d')) where
      next : Taking s d n (i + 1) count' d''
      next = taking-next s d n fits i count d' l.3 there room_next count' d'' g.0 g.1

      pub trying-again : count' ≤ most → Trying s d n m most (i + 1) count' d''
      trying-again k = (omega arith, taking-length s d n fits (i + 1) count' d'' next, k, next)

      -- too many rows at once are too many in the end
      pub trying-over : most < count' → false ≡ leb (length (after s (rows_of row_wide n t) m)) most
      trying-over k =
          let r : length (after s rs (i + 1)) ≤ length (after s (rows_of row_wide n t) m) = rw same (after-rises s (rows_of row_wide n t) (i + 1) m (omega arith)) in
          sym (lt-leb (length (after s (rows_of row_wide n t) m)) most (omega (arith, r, k, next.counted)))

  pub trying-end : (i count : ℕ) (d' : List ℕ) → m ≤ i → Trying s d n m most i count d' → true ≡ leb (length (after s (rows_of row_wide n t) m)) most
  trying-end i count d' h l =
      let end = taking-end s d n fits i m count d' (omega (arith, h, l.0)) l.3 in
      let k : length (after s rs m) ≤ most = omega (arith, l.2, end.0) in
      sym (le-leb (length (after s (rows_of row_wide n t) m)) most (rw same at k))

-- no trial is needed where each update may bring a row
pub all_fit : (s t : List ℕ) (n m most : ℕ) → n + m ≤ most → true ≡ leb (length (after s (rows_of row_wide n t) m)) most
all_fit s t n m most h =
    sym (le-leb (length (after s (rows_of row_wide n t) m)) most (omega (arith, after-most s (rows_of row_wide n t) m, length-rows_of row_wide n t)))
