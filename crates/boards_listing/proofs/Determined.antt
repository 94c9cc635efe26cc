-- Each function prints and gives nothing back, so there is one outcome. None is lent bytes to write. Assumes nothing.
use mathlib.Core.Path.{refl}
use Rattle.lists.proofs.Promise.{OneResult}
use Rattle.boards_listing.proofs.messages.Kinds as messages
use Rattle.boards_listing.proofs.messages.Reads as messages-reads
use Rattle.boards_listing.proofs.pairs.Kinds as pairs
use Rattle.boards_listing.proofs.pairs.Reads as pairs-reads

pub messages-determined : OneResult 2 messages.ps messages.r messages-reads.Post
messages-determined κs a x y s t p q = refl

pub pairs-determined : OneResult 2 pairs.ps pairs.r pairs-reads.Post
pairs-determined κs a x y s t p q = refl
