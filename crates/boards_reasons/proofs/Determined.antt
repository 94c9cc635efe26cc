-- Each function prints and gives nothing back, so there is one outcome. None is lent bytes to write. Assumes nothing.
use mathlib.Core.Path.{refl}
use Rattle.lists.proofs.Promise.{OneResult}
use Rattle.boards_reasons.proofs.tell_syntax.Kinds as tell-syntax
use Rattle.boards_reasons.proofs.tell_syntax.Reads as tell-syntax-reads
use Rattle.boards_reasons.proofs.tell_form.Kinds as tell-form
use Rattle.boards_reasons.proofs.tell_form.Reads as tell-form-reads
use Rattle.boards_reasons.proofs.tell_field.Kinds as tell-field
use Rattle.boards_reasons.proofs.tell_field.Reads as tell-field-reads
use Rattle.boards_reasons.proofs.tell_owner.Kinds as tell-owner
use Rattle.boards_reasons.proofs.tell_owner.Reads as tell-owner-reads

pub tell-syntax-determined : OneResult 2 tell-syntax.ps tell-syntax.r tell-syntax-reads.Post
tell-syntax-determined κs a x y s t p q = refl

pub tell-form-determined : OneResult 2 tell-form.ps tell-form.r tell-form-reads.Post
tell-form-determined κs a x y s t p q = refl

pub tell-field-determined : OneResult 2 tell-field.ps tell-field.r tell-field-reads.Post
tell-field-determined κs a x y s t p q = refl

pub tell-owner-determined : OneResult 2 tell-owner.ps tell-owner.r tell-owner-reads.Post
tell-owner-determined κs a x y s t p q = refl
