-- What a line asks follows from its bytes. Assumes nothing.
use mathlib.Core.Path.{sym, ◌∙◌}
use Rattle.lists.proofs.Promise.{OneResult}
use Rattle.boards_orders.proofs.read_order.Kinds as read-order
use Rattle.boards_orders.proofs.read_order.Reads as read-order-reads

pub read-order-determined : OneResult 1 read-order.ps read-order.r read-order-reads.Post
read-order-determined κs a x y s t p q = p ∙ sym q
