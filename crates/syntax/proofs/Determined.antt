-- The promise of each public function allows one result, which follows from what was passed. Assumes nothing.
use mathlib.Core.Path.{sym, ◌∙◌}
use Rattle.lists.proofs.Promise.{OneResult}
use Rattle.syntax.proofs.check_syntax.Kinds as check-syntax
use Rattle.syntax.proofs.check_syntax.Reads as check-syntax-reads
use Rattle.syntax.proofs.ends_after.Kinds as ends-after
use Rattle.syntax.proofs.ends_after.Reads as ends-after-reads
use Rattle.syntax.proofs.quiet_end.Kinds as quiet-end
use Rattle.syntax.proofs.quiet_end.Reads as quiet-end-reads
use Rattle.syntax.proofs.begins.Kinds as begins
use Rattle.syntax.proofs.begins.Reads as begins-reads

pub check-syntax-determined : OneResult 1 check-syntax.ps check-syntax.r check-syntax-reads.Post
check-syntax-determined κs a x y s t p q = p ∙ sym q

pub ends-after-determined : OneResult 0 ends-after.ps ends-after.r ends-after-reads.Post
ends-after-determined κs a x y s t p q = p ∙ sym q

pub quiet-end-determined : OneResult 1 quiet-end.ps quiet-end.r quiet-end-reads.Post
quiet-end-determined κs a x y s t p q = p ∙ sym q

pub begins-determined : OneResult 1 begins.ps begins.r begins-reads.Post
begins-determined κs a x y s t p q = p ∙ sym q
