-- The promise of each public function allows one answer: it follows from what was passed. Assumes nothing.
use mathlib.Core.Path.{sym, ◌∙◌}
use Rattle.lists.proofs.Promise.{OneResult}
use Rattle.columns.proofs.is_form.Kinds as is-form
use Rattle.columns.proofs.is_form.Reads as is-form-reads
use Rattle.columns.proofs.form_of.Kinds as form-of
use Rattle.columns.proofs.form_of.Reads as form-of-reads
use Rattle.columns.proofs.row_width.Kinds as row-width
use Rattle.columns.proofs.row_width.Reads as row-width-reads
use Rattle.columns.proofs.wanted.Kinds as wanted
use Rattle.columns.proofs.wanted.Reads as wanted-reads
use Rattle.columns.proofs.kind_of.Kinds as kind-of
use Rattle.columns.proofs.kind_of.Reads as kind-of-reads
use Rattle.columns.proofs.offset_of.Kinds as offset-of
use Rattle.columns.proofs.offset_of.Reads as offset-of-reads
use Rattle.columns.proofs.is_optional.Kinds as is-optional
use Rattle.columns.proofs.is_optional.Reads as is-optional-reads

pub is-form-determined : OneResult 0 is-form.ps is-form.r is-form-reads.Post
is-form-determined κs a x y s t p q = p ∙ sym q

pub form-of-determined : OneResult 0 form-of.ps form-of.r form-of-reads.Post
form-of-determined κs a x y s t p q = p ∙ sym q

pub row-width-determined : OneResult 0 row-width.ps row-width.r row-width-reads.Post
row-width-determined κs a x y s t p q = p ∙ sym q

pub wanted-determined : OneResult 0 wanted.ps wanted.r wanted-reads.Post
wanted-determined κs a x y s t p q = p ∙ sym q

pub kind-of-determined : OneResult 0 kind-of.ps kind-of.r kind-of-reads.Post
kind-of-determined κs a x y s t p q = p ∙ sym q

pub offset-of-determined : OneResult 0 offset-of.ps offset-of.r offset-of-reads.Post
offset-of-determined κs a x y s t p q = p ∙ sym q

pub is-optional-determined : OneResult 0 is-optional.ps is-optional.r is-optional-reads.Post
is-optional-determined κs a x y s t p q = p ∙ sym q
