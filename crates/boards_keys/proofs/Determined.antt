-- It prints and gives nothing back, so there is one outcome. It is lent no bytes to write. Assumes nothing.
use mathlib.Core.Path.{refl}
use Rattle.lists.proofs.Promise.{OneResult}
use Rattle.boards_keys.proofs.tell.Kinds as tell
use Rattle.boards_keys.proofs.tell.Reads as tell-reads

pub tell-determined : OneResult 3 tell.ps tell.r tell-reads.Post
tell-determined κs a x y s t p q = refl
