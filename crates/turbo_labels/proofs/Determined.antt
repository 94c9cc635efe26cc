-- The promise of each public function allows one outcome: its result, and the bytes of a part that it hands back, follow from what was passed. Assumes nothing.
use mathlib.Core.Path.{◌≡◌, sym, ap, ◌∙◌}
use Rattle.lists.proofs.Promise.{Determined, OneResult}
use Rattle.turbo_labels.proofs.column_of.Kinds as column-of
use Rattle.turbo_labels.proofs.column_of.Reads as column-of-reads
use Rattle.turbo_labels.proofs.lookup.Kinds as lookup
use Rattle.turbo_labels.proofs.lookup.Reads as lookup-reads
use Rattle.turbo_labels.proofs.find_columns.Kinds as find-columns
use Rattle.turbo_labels.proofs.find_columns.Reads as find-columns-reads

pub column-of-determined : OneResult 2 column-of.ps column-of.r column-of-reads.Post
column-of-determined κs a x y s t p q = p ∙ sym q

pub lookup-determined : Determined 1 lookup.ps lookup.r lookup-reads.Post (λ κs x s. x.now)
lookup-determined κs a x y s t p q = p ∙ sym q

pub find-columns-determined : OneResult 2 find-columns.ps find-columns.r find-columns-reads.Post
find-columns-determined κs a x y s t p q = p ∙ sym q
