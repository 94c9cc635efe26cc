-- The promise of each public function allows one outcome: its result, the bytes of a part that it hands back, and what it leaves behind a `&mut` follow from what was passed. Assumes nothing.
use mathlib.Core.Path.{sym, ◌∙◌}
use Rattle.lists.proofs.Promise.{Determined, OneResult}
use Rattle.turbo.proofs.escaped.Kinds as escaped
use Rattle.turbo.proofs.escaped.Reads as escaped-reads
use Rattle.turbo.proofs.find.Kinds as find
use Rattle.turbo.proofs.find.Reads as find-reads
use Rattle.turbo.proofs.find_far.Kinds as find-far
use Rattle.turbo.proofs.find_far.Reads as find-far-reads
use Rattle.turbo.proofs.first_field.Kinds as first_field
use Rattle.turbo.proofs.first_field.Reads as first-field-reads
use Rattle.turbo.proofs.rest_after_bar.Kinds as rest-after-bar
use Rattle.turbo.proofs.rest_after_bar.Reads as rest-after-bar-reads
use Rattle.turbo.proofs.rest_after_bars.Kinds as rest-after-bars
use Rattle.turbo.proofs.rest_after_bars.Reads as rest-after-bars-reads
use Rattle.turbo.proofs.read_field.Kinds as read-field
use Rattle.turbo.proofs.read_field.Reads as read-field-reads
use Rattle.turbo.proofs.cut.Kinds as cut
use Rattle.turbo.proofs.cut.Reads as cut-reads
use Rattle.turbo.proofs.split.Kinds as split
use Rattle.turbo.proofs.split.Reads as split-reads
use Rattle.turbo.proofs.field_of.Kinds as field_of
use Rattle.turbo.proofs.field_of.Reads as field-of-reads
use Rattle.turbo.proofs.count_fields.Kinds as count-fields
use Rattle.turbo.proofs.count_fields.Reads as count-fields-reads

pub escaped-determined : OneResult 0 escaped.ps escaped.r escaped-reads.Post
escaped-determined κs a x y s t p q = p ∙ sym q

pub find-determined : OneResult 1 find.ps find.r find-reads.Post
find-determined κs a x y s t p q = p.0 ∙ sym q.0

pub find-far-determined : OneResult 1 find-far.ps find-far.r find-far-reads.Post
find-far-determined κs a x y s t p q = p.0 ∙ sym q.0

pub first-field-determined : Determined 1 first_field.ps first_field.r first-field-reads.Post (λ κs x s. x.now)
first-field-determined κs a x y s t p q = p ∙ sym q

pub rest-after-bar-determined : Determined 1 rest-after-bar.ps rest-after-bar.r rest-after-bar-reads.Post (λ κs x s. x.now)
rest-after-bar-determined κs a x y s t p q = p ∙ sym q

pub rest-after-bars-determined : Determined 1 rest-after-bars.ps rest-after-bars.r rest-after-bars-reads.Post (λ κs x s. x.now)
rest-after-bars-determined κs a x y s t p q = p ∙ sym q

pub read-field-determined : Determined 1 read-field.ps read-field.r read-field-reads.Post (λ κs x s. x.0.now)
read-field-determined κs a x y s t p q = p.0 ∙ sym q.0

pub read-field-tail-determined : Determined 1 read-field.ps read-field.r read-field-reads.Post (λ κs x s. x.1.now)
read-field-tail-determined κs a x y s t p q = p.1 ∙ sym q.1

pub cut-before-determined : Determined 1 cut.ps cut.r cut-reads.Post (λ κs x s. x.0.now)
cut-before-determined κs a x y s t p q = p.0 ∙ sym q.0

pub cut-behind-determined : Determined 1 cut.ps cut.r cut-reads.Post (λ κs x s. x.1.now)
cut-behind-determined κs a x y s t p q = p.1 ∙ sym q.1

pub split-before-determined : Determined 1 split.ps split.r split-reads.Post (λ κs x s. x.0.now)
split-before-determined κs a x y s t p q = p.0 ∙ sym q.0

pub split-behind-determined : Determined 1 split.ps split.r split-reads.Post (λ κs x s. x.1.now)
split-behind-determined κs a x y s t p q = p.1 ∙ sym q.1

pub field-of-determined : Determined 1 field_of.ps field_of.r field-of-reads.Post (λ κs x s. x.now)
field-of-determined κs a x y s t p q = p ∙ sym q

pub count-fields-determined : OneResult 1 count-fields.ps count-fields.r count-fields-reads.Post
count-fields-determined κs a x y s t p q = p ∙ sym q
