-- The proofs of this crate's claims. Assumes nothing.
use mathlib.Core.Path.{◌≡◌, refl, ap, subst, ◌∙◌}
use mathlib.Core.Bool.{Bool, true, false}
use mathlib.Core.Logic.{⊎_elim}
use Prim.Native.Nat.{ℕ}
use mathlib.Core.List.{List}
use Rattle.lists.specs.Logic.{on}
use Rattle.boards_orders.specs.declared.Order.{Order}
use Rattle.boards_departures.specs.Shown.{is_shown}
use Rattle.boards_saved.specs.Saved.{day_in, register_from, book_from, table_from}
use Rattle.boards_deeds.specs.Deeds.{State, not_done, refused_once}
use Rattle.boards.specs.Leaves.{LineLeaves}
use Rattle.boards.specs.Claims.{Same, BadChangesNothing, BoardChangesNothing, ListsChangeNothing, SaveChangesNothing, UnsoundFileChangesNothing, PartsAsMessage, All}

-- carried along an equation
same_by : (s t u : State) → t ≡ u → Same s u → Same s t
same_by s t u q p =
    record {
      register = ap (λ (x : State). x.register) q ∙ p.register;
      book = ap (λ (x : State). x.book) q ∙ p.book;
      table = ap (λ (x : State). x.table) q ∙ p.table;
      counts = ap (λ (x : State). x.held.counts) q ∙ p.counts;
      pairs = ap (λ (x : State). x.held.register) q ∙ p.pairs;
      day = ap (λ (x : State). x.held.day) q ∙ p.day;
    }

same-same : (s : State) → Same s s
same-same s = record { register = refl; book = refl; table = refl; counts = refl; pairs = refl; day = refl }

same-missed : (s : State) → Same s (not_done s)
same-missed s = record { register = refl; book = refl; table = refl; counts = refl; pairs = refl; day = refl }

same-refused : (s : State) → Same s (refused_once s)
same-refused s = record { register = refl; book = refl; table = refl; counts = refl; pairs = refl; day = refl }

-- what is asked, in place of what the line asks
by : (o o' : Order) (line : List ℕ) (s t : State) → o ≡ o' → LineLeaves o line s t → LineLeaves o' line s t
by o o' line s t e p = subst (λ (x : Order). LineLeaves x line s t) e p

bad-changes-nothing : BadChangesNothing
bad-changes-nothing day line k why s t e p = same_by s t (not_done s) (by _ _ line s t e p) (same-missed s)

board-changes-nothing : BoardChangesNothing
board-changes-nothing day line date second horizon most s t e p = same_by s t _ (by _ _ line s t e p) (go (is_shown line date second horizon s.held.counts.rows s.table))
  where
    go : (b : Bool) → Same s (on b s (refused_once s))
    go true = same-same s
    go false = same-refused s

lists-change-nothing : ListsChangeNothing
lists-change-nothing day line s t p = (λ e. same_by s t s (by _ _ line s t e p) (same-same s), λ e. same_by s t s (by _ _ line s t e p) (same-same s))

save-changes-nothing : SaveChangesNothing
save-changes-nothing day line s t e p = ⊎_elim (λ q. same_by s t s q (same-same s)) (λ q. same_by s t (not_done s) q (same-missed s)) (by _ _ line s t e p)

unsound-file-changes-nothing : UnsoundFileChangesNothing
unfolding day_in register_from book_from table_from
unsound-file-changes-nothing file s e = rw e (same-refused s)

parts-as-message : PartsAsMessage
parts-as-message sender size form line s t = (λ p. p, λ p. p)

pub claims : All
claims = (bad-changes-nothing, board-changes-nothing, lists-change-nothing, save-changes-nothing, unsound-file-changes-nothing, parts-as-message)
