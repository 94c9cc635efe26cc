-- Each function prints and gives nothing back, so there is one outcome. None is lent bytes to write. Assumes nothing.
use mathlib.Core.Path.{refl}
use Rattle.lists.proofs.Promise.{OneResult}
use Rattle.boards_words.proofs.tell.Kinds as tell
use Rattle.boards_words.proofs.tell.Reads as tell-reads
use Rattle.boards_words.proofs.refuse.Kinds as refuse
use Rattle.boards_words.proofs.refuse.Reads as refuse-reads
use Rattle.boards_words.proofs.miss.Kinds as miss
use Rattle.boards_words.proofs.miss.Reads as miss-reads
use Rattle.boards_words.proofs.usage.Kinds as usage
use Rattle.boards_words.proofs.usage.Reads as usage-reads

pub tell-determined : OneResult 6 tell.ps tell.r tell-reads.Post
tell-determined κs a x y s t p q = refl

pub refuse-determined : OneResult 6 refuse.ps refuse.r refuse-reads.Post
refuse-determined κs a x y s t p q = refl

pub miss-determined : OneResult 1 miss.ps miss.r miss-reads.Post
miss-determined κs a x y s t p q = refl

pub usage-determined : OneResult 0 usage.ps usage.r usage-reads.Post
usage-determined κs a x y s t p q = refl
