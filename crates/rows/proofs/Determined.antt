-- The promise of each public function allows one answer: it follows from what was passed. Assumes nothing.
use mathlib.Core.Path.{sym, ◌∙◌}
use Rattle.lists.proofs.Promise.{OneResult}
use Rattle.rows.proofs.read_labels.Kinds as read-labels
use Rattle.rows.proofs.read_labels.Reads as read-labels-reads
use Rattle.rows.proofs.restored.Kinds as restored
use Rattle.rows.proofs.restored.Reads as restored-reads
use Rattle.rows.proofs.read_row.Kinds as read-row
use Rattle.rows.proofs.read_row.Reads as read-row-reads

pub read-labels-determined : OneResult 1 read-labels.ps read-labels.r read-labels-reads.Post
read-labels-determined κs a x y s t p q = p ∙ sym q

pub restored-determined : OneResult 0 restored.ps restored.r restored-reads.Post
restored-determined κs a x y s t p q = p ∙ sym q

pub read-row-determined : OneResult 1 read-row.ps read-row.r read-row-reads.Post
read-row-determined κs a x y s t p q = p ∙ sym q
