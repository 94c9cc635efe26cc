-- Each promise allows one result. Assumes nothing.
use mathlib.Core.Path.{sym, ◌∙◌}
use Rattle.lists.proofs.Promise.{OneResult}
use Rattle.calls.proofs.unchanged.Kinds as unchanged-kinds
use Rattle.calls.proofs.unchanged.Reads as unchanged-reads
use Rattle.calls.proofs.accepted.Kinds as accepted-kinds
use Rattle.calls.proofs.accepted.Reads as accepted-reads
use Rattle.calls.proofs.passed.Kinds as passed-kinds
use Rattle.calls.proofs.passed.Reads as Passed-reads
use Rattle.calls.proofs.numbers.Kinds as numbers-kinds
use Rattle.calls.proofs.numbers.Reads as numbers-reads

pub unchanged-determined : OneResult 0 unchanged-kinds.ps unchanged-kinds.r unchanged-reads.Post
unchanged-determined κs a x y s t p q = p ∙ sym q

pub accepted-determined : OneResult 0 accepted-kinds.ps accepted-kinds.r accepted-reads.Post
accepted-determined κs a x y s t p q = p ∙ sym q

pub passed-determined : OneResult 0 passed-kinds.ps passed-kinds.r Passed-reads.Post
passed-determined κs a x y s t p q = p ∙ sym q

pub numbers-determined : OneResult 0 numbers-kinds.ps numbers-kinds.r numbers-reads.Post
numbers-determined κs a x y s t p q = p ∙ sym q
