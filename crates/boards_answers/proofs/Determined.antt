-- Each function prints and gives nothing back, so there is one outcome. None is lent bytes to write. Assumes nothing.
use mathlib.Core.Path.{refl}
use Rattle.lists.proofs.Promise.{OneResult}
use Rattle.boards_answers.proofs.opened.Kinds as opened
use Rattle.boards_answers.proofs.opened.Reads as opened-reads
use Rattle.boards_answers.proofs.sent.Kinds as sent
use Rattle.boards_answers.proofs.sent.Reads as sent-reads
use Rattle.boards_answers.proofs.withdrawn.Kinds as withdrawn
use Rattle.boards_answers.proofs.withdrawn.Reads as withdrawn-reads
use Rattle.boards_answers.proofs.enrolled.Kinds as enrolled
use Rattle.boards_answers.proofs.enrolled.Reads as enrolled-reads
use Rattle.boards_answers.proofs.saved.Kinds as saved
use Rattle.boards_answers.proofs.saved.Reads as saved-reads
use Rattle.boards_answers.proofs.loaded.Kinds as loaded
use Rattle.boards_answers.proofs.loaded.Reads as loaded-reads
use Rattle.boards_answers.proofs.no_day.Kinds as no-day
use Rattle.boards_answers.proofs.no_day.Reads as no-day-reads

pub opened-determined : OneResult 3 opened.ps opened.r opened-reads.Post
opened-determined κs a x y s t p q = refl

pub sent-determined : OneResult 2 sent.ps sent.r sent-reads.Post
sent-determined κs a x y s t p q = refl

pub withdrawn-determined : OneResult 1 withdrawn.ps withdrawn.r withdrawn-reads.Post
withdrawn-determined κs a x y s t p q = refl

pub enrolled-determined : OneResult 1 enrolled.ps enrolled.r enrolled-reads.Post
enrolled-determined κs a x y s t p q = refl

pub saved-determined : OneResult 1 saved.ps saved.r saved-reads.Post
saved-determined κs a x y s t p q = refl

pub loaded-determined : OneResult 1 loaded.ps loaded.r loaded-reads.Post
loaded-determined κs a x y s t p q = refl

pub no-day-determined : OneResult 1 no-day.ps no-day.r no-day-reads.Post
no-day-determined κs a x y s t p q = refl
