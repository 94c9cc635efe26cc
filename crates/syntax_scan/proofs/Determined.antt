-- The promise of the public function allows one result, which follows from what was passed. Assumes nothing.
use mathlib.Core.Path.{sym, ◌∙◌}
use Rattle.lists.proofs.Promise.{OneResult}
use Rattle.syntax_scan.proofs.scan.Kinds as scan
use Rattle.syntax_scan.proofs.scan.Reads as scan-reads

pub scan-determined : OneResult 1 scan.ps scan.r scan-reads.Post
scan-determined κs a x y s t p q = p ∙ sym q
