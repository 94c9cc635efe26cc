-- The promise of each public function allows one result, which follows from what was passed. Assumes nothing.
use mathlib.Core.Path.{sym, ◌∙◌}
use Rattle.lists.proofs.Promise.{OneResult}
use Rattle.syntax_bytewise.proofs.next_state.Kinds as next-state
use Rattle.syntax_bytewise.proofs.next_state.Reads as next-state-reads
use Rattle.syntax_bytewise.proofs.may_end.Kinds as may-end
use Rattle.syntax_bytewise.proofs.may_end.Reads as may-end-reads

pub next-state-determined : OneResult 0 next-state.ps next-state.r next-state-reads.Post
next-state-determined κs a x y s t p q = p ∙ sym q

pub may-end-determined : OneResult 0 may-end.ps may-end.r may-end-reads.Post
may-end-determined κs a x y s t p q = p ∙ sym q
