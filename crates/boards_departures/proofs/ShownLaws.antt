-- What a listing says of the table and the question. Assumes nothing.
use mathlib.Core.Path.{◌≡◌, refl, ap, ◌∙◌}
use mathlib.Core.Bool.{Bool, true, false, not, ◌&&◌}
use mathlib.Core.List.{List}
use Prim.Native.Nat.{ℕ}
use native.Mathlib.Omega.{arith}
use lib.ListN.{length, take}
use Rattle.lists.specs.Logic.{on}
use Rattle.script_text.specs.Rules.{word_at}
use Rattle.table.specs.Rules.{table_sound}
use Rattle.board_show.specs.Ask.{Question, asked, asks_in_range}
use Rattle.std.specs.Prelude.{Ok, Err}
use Rattle.board.specs.declared.Refusal.TheVariants as Refusals
use Rattle.board.specs.Rules.{Listing, board_of, board_numbers, board_gives}
use Rattle.boards_departures.specs.Shown.{is_listed, is_shown}

-- by its number: what is listed is of a sound table and in range, and what is not is not
listed-number : (l : Listing) (t u : Bool) (y z : ℕ)
    → (board_numbers l).0 ≡ (on {A = ℕ × ℕ × ℕ} (not t) (1, 0, 0) (on {A = ℕ × ℕ × ℕ} (not u) (13, 0, 0) (0, y, z))).0
    → is_listed l ≡ (t && u)
listed-number (Ok found) true true y z e = refl
listed-number (Ok found) true false y z e = absurd (omega (arith, e))
listed-number (Ok found) false u y z e = absurd (omega (arith, e))
listed-number (Err Refusals.Unsound) true true y z e = absurd (omega (arith, e))
listed-number (Err Refusals.Unsound) true false y z e = absurd (omega (arith, e))
listed-number (Err Refusals.Unsound) false u y z e = refl
listed-number (Err Refusals.OutOfRange) true true y z e = absurd (omega (arith, e))
listed-number (Err Refusals.OutOfRange) true false y z e = refl
listed-number (Err Refusals.OutOfRange) false u y z e = refl

listed-asked : (q : Question) (table : List ℕ) (n room : ℕ) (l : Listing) → board_numbers l ≡ board_gives q table n room → is_listed l ≡ (table_sound n table && asks_in_range q)
unfolding board_gives
listed-asked q table n room l e =
    listed-number l (table_sound n table) (asks_in_range q) (length (take room (board_of q table n))) (length (board_of q table n)) (ap (λ (x : ℕ × ℕ × ℕ). x.0) e)

-- the words of the line are what is asked
pub shown-is : (line owner stop : List ℕ) (date second horizon : ℕ) (table : List ℕ) (rows room : ℕ) (l : Listing) (r : Bool)
    → owner ≡ word_at 1 line
    → stop ≡ word_at 2 line
    → board_numbers l ≡ board_gives (asked owner stop date second horizon) table rows room
    → r ≡ is_listed l
    → r ≡ is_shown line date second horizon rows table
shown-is line owner stop date second horizon table rows room l r e f g h =
    h
    ∙ listed-asked (asked owner stop date second horizon) table rows room l g
    ∙ ap (λ (x : List ℕ). table_sound rows table && asks_in_range (asked x stop date second horizon)) e
    ∙ ap (λ (x : List ℕ). table_sound rows table && asks_in_range (asked (word_at 1 line) x date second horizon)) f
