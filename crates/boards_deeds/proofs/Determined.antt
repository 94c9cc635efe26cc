-- Each promise allows one outcome: what is held, and every byte of register, book and table afterwards. Assumes nothing.
use Rattle.std.proofs.Common.{[], sym, refl, ap, ◌∙◌}
use Rattle.lists.proofs.Promise.{Determined, OneResult}
use Rattle.boards_deeds.specs.Deeds.{State, state}
use Rattle.boards_deeds.proofs.DeedLaws.{state-is}
use Rattle.boards_deeds.proofs.bad.Kinds as bad
use Rattle.boards_deeds.proofs.bad.Reads as bad-reads
use Rattle.boards_deeds.proofs.next.Kinds as next
use Rattle.boards_deeds.proofs.next.Reads as next-reads
use Rattle.boards_deeds.proofs.long.Kinds as long
use Rattle.boards_deeds.proofs.long.Reads as long-reads
use Rattle.boards_deeds.proofs.unread.Kinds as unread
use Rattle.boards_deeds.proofs.unread.Reads as unread-reads
use Rattle.boards_deeds.proofs.open.Kinds as opens
use Rattle.boards_deeds.proofs.open.Reads as opens-reads
use Rattle.boards_deeds.proofs.enrol.Kinds as enrol
use Rattle.boards_deeds.proofs.enrol.Reads as enrol-reads
use Rattle.boards_deeds.proofs.send.Kinds as send
use Rattle.boards_deeds.proofs.send.Reads as send-reads
use Rattle.boards_deeds.proofs.withdraw.Kinds as withdraw
use Rattle.boards_deeds.proofs.withdraw.Reads as withdraw-reads
use Rattle.boards_deeds.proofs.ask.Kinds as ask
use Rattle.boards_deeds.proofs.ask.Reads as ask-reads
use Rattle.boards_deeds.proofs.load.Kinds as load
use Rattle.boards_deeds.proofs.load.Reads as load-reads

pub bad-determined : OneResult 1 bad.ps bad.r bad-reads.Post
bad-determined κs a x y s t p q = p ∙ sym q

pub next-determined : OneResult 0 next.ps next.r next-reads.Post
next-determined κs a x y s t p q = p ∙ sym q

pub long-determined : OneResult 0 long.ps long.r long-reads.Post
long-determined κs a x y s t p q = p ∙ sym q

pub unread-determined : OneResult 0 unread.ps unread.r unread-reads.Post
unread-determined κs a x y s t p q = p ∙ sym q

pub open-determined : Determined 5 opens.ps opens.r opens-reads.Post (λ κs x s. state x [] s.1.1.1.1.0.now s.1.1.1.1.1.0.now)
open-determined κs a x y s t p q = p [] ∙ sym (q [])

pub enrol-determined : Determined 2 enrol.ps enrol.r enrol-reads.Post (λ κs x s. state x s.1.1.1.0.now [] [])
enrol-determined κs a x y s t p q = state-is _ _ _ _ [] [] [] [] (p.0 ∙ sym q.0) (p.1 ∙ sym q.1) refl refl

pub send-determined : Determined 5 send.ps send.r send-reads.Post (λ κs x s. state x [] s.1.1.1.1.1.1.1.0.now s.1.1.1.1.1.1.1.1.0.now)
send-determined κs a x y s t p q = ap (λ (z : State). state z.held [] z.book z.table) (p ∙ sym q)

pub withdraw-determined : Determined 3 withdraw.ps withdraw.r withdraw-reads.Post (λ κs x s. state x [] s.1.1.1.1.0.now s.1.1.1.1.1.0.now)
withdraw-determined κs a x y s t p q = p [] ∙ sym (q [])

pub ask-determined : OneResult 2 ask.ps ask.r ask-reads.Post
ask-determined κs a x y s t p q = ap (λ (z : State). z.held) (p [] [] ∙ sym (q [] []))

pub load-determined : Determined 5 load.ps load.r load-reads.Post (λ κs x s. state x s.1.1.1.0.now s.1.1.1.1.0.now s.1.1.1.1.1.0.now)
load-determined κs a x y s t p q = p ∙ sym q
