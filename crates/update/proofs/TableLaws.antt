-- Table 17 as the code reads it, a line for each status and a letter for each. Assumes nothing.
use mathlib.Core.Path.{◌≡◌}
use mathlib.Core.Bool.{Bool, false}
use mathlib.Core.List.{[]}
use Prim.Native.Nat.{ℕ, ◌≤◌, ◌<◌}
use native.Mathlib.Omega.{arith}
use lib.Dec.{eqb, eqb→eq}
use lib.ListN.{length, get_or, get_or-eq_default}
use Rattle.clock.proofs.BelowLaws.{below_at}
use Rattle.update.specs.Moves.{table17, may_move}

six : ℕ → Bool
unfolding table17
six held = eqb (length (get_or table17 held [])) 6

pub line-six : (held : ℕ) → held < 6 → length (get_or table17 held []) ≡ 6
unfolding six table17
line-six held h = eqb→eq (length (get_or table17 held [])) 6 (below_at six 6 tt held h)

module _ (held said : ℕ) where
  -- there is no other status
  pub none-held : 5 < held → may_move held said ≡ false
  unfolding may_move table17
  none-held h =
      let e : get_or table17 held [] ≡ [] = get_or-eq_default table17 [] h in
      rw e

  pub none_said : held ≤ 5 → 5 < said → may_move held said ≡ false
  unfolding may_move
  none_said h k =
      let l : length (get_or table17 held []) ≡ 6 = line-six held (omega arith) in
      let e : get_or (get_or table17 held []) said 0 ≡ 0 = get_or-eq_default (get_or table17 held []) 0 (omega arith) in
      rw e
