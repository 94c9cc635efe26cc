-- The call: refusals in their order, then the list of a pass; and its numbers. Assumes nothing.
use mathlib.Core.Path.{◌≡◌, refl, ap, ◌∙◌}
use mathlib.Core.Bool.{Bool, true, false, not}
use mathlib.Core.List.{List, [], ◌∷◌}
use Prim.Native.Nat.{ℕ, ◌+◌, ◌<◌}
use native.Mathlib.Omega.{arith}
use lib.ListN.{length}
use Rattle.lists.specs.Logic.{on, first_held}
use Rattle.clock.specs.declared.ClockSeconds.{ClockSeconds}
use Rattle.clock.specs.Moment.{later}
use Rattle.texts.specs.Texts.{padded}
use Rattle.table.specs.Rules.{rows, table_sound}
use Rattle.board_show.specs.Ask.{Question, asks_in_range, now_of}
use Rattle.board_show.specs.inner.Look.{showing}
use Rattle.board_show.proofs.AskLaws.{end_fits}
use Rattle.board_show.proofs.ShowLaws.{showing-is}
use Rattle.std.specs.Prelude.{Err}
use Rattle.board.specs.declared.Refusal.TheVariants.{Unsound, OutOfRange}
use Rattle.board.specs.Rules.{Listing, listed, board_of, Board, board_with, fitted, board_leaves, board_numbers, board_gives}

module _ (q : Question) (table : List ℕ) (n : ℕ) (places : List ℕ) where
  pub unsound : table_sound n table ≡ false → board_with (Err Unsound) places ≡ board_leaves q table n places
  unfolding board_leaves
  unsound e = rw e

  pub out_of_range : table_sound n table ≡ true → asks_in_range q ≡ false → board_with (Err OutOfRange) places ≡ board_leaves q table n places
  unfolding board_leaves
  out_of_range e f = rw (e, f)

  pub listed-all : table_sound n table ≡ true → asks_in_range q ≡ true → fitted (board_of q table n) places ≡ board_leaves q table n places
  unfolding board_leaves
  listed-all e f = rw (e, f)

  -- the numbers of the answer are those due
  pub numbers-due : board_numbers (board_leaves q table n places).answer ≡ board_gives q table n (length places)
  unfolding board_leaves board_gives
  numbers-due = go (table_sound n table) (asks_in_range q) (board_of q table n)
    where
      go : (s a : Bool) (l : List ℕ)
          → board_numbers (on s (on a (fitted l places) (board_with (Err OutOfRange) places)) (board_with (Err Unsound) places)).answer
          ≡ first_held ((not s, (1, 0, 0)) ∷ (not a, (13, 0, 0)) ∷ []) (board_numbers (fitted l places).answer)
      go true true l = refl
      go true false l = refl
      go false a l = refl

  -- what a call that leaves this promises
  pub with-numbers : (r : Listing) (p : List ℕ) → board_with r p ≡ board_leaves q table n places
      → (board_with r p ≡ board_leaves q table n places) × (board_numbers r ≡ board_gives q table n (length places))
  with-numbers r p e = (e, ap (λ (b : Board). board_numbers b.answer) e ∙ numbers-due)

  -- what a pass gives, from texts that were padded and a moment that was worked out
  pub listed-given : (whose here : List ℕ) (m : ClockSeconds) → whose ≡ padded q.owner → here ≡ padded q.stop → m ≡ now_of q
      → table_sound n table ≡ true → asks_in_range q ≡ true
      → fitted (listed (showing whose here m (later m q.horizon)) (rows n table)) places ≡ board_leaves q table n places
  unfolding board_of
  listed-given whose here m o s w e f = rw (o, s, w, showing-is q) (listed-all e f)

-- its last moment fits
pub till-fits : (q : Question) (m : ClockSeconds) → m ≡ now_of q → asks_in_range q ≡ true → m.0 + q.horizon < 4294967296
till-fits q m w f = omega (arith, end_fits q f, ap (λ (x : ClockSeconds). x.0) w)
