-- The promise of each public function allows one outcome: its answer follows from what was passed. Assumes nothing.
use mathlib.Core.Path.{sym, ◌∙◌}
use Rattle.lists.proofs.Promise.{OneResult}
use Rattle.board_show.proofs.is_owned.Kinds as is-owned
use Rattle.board_show.proofs.is_owned.Reads as is-owned-reads
use Rattle.board_show.proofs.shown_at.Kinds as shown-at
use Rattle.board_show.proofs.shown_at.Reads as shown-at-reads
use Rattle.board_show.proofs.asks_in_range.Kinds as asks-in-range
use Rattle.board_show.proofs.asks_in_range.Reads as asks-in-range-reads

pub is-owned-determined : OneResult 2 is-owned.ps is-owned.r is-owned-reads.Post
is-owned-determined κs a x y s t p q = p ∙ sym q

pub shown-at-determined : OneResult 3 shown-at.ps shown-at.r shown-at-reads.Post
shown-at-determined κs a x y s t p q = p ∙ sym q

pub asks-in-range-determined : OneResult 2 asks-in-range.ps asks-in-range.r asks-in-range-reads.Post
asks-in-range-determined κs a x y s t p q = p ∙ sym q
