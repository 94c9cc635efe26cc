use mathlib.Core.Path.{refl}
use native.Mathlib.Omega.{arith}
use borrow.Author.Tests.{eq-eqb, ne_eqb}
use Rattle.std.specs.Prelude.{Err}
use Rattle.book.proofs.SoundLaws.{sound-facts, used-within}
use Rattle.calls.specs.declared.Refusal.TheVariants.{AlreadyWithdrawn, OtherSender}
use Rattle.withdrawals.proofs.RoomLaws.{sound-parts}
use Rattle.withdrawals.proofs.AnswerLaws.{refused_all, other-sender, already, goes_on}
use Rattle.withdrawals.proofs.withdraw_found.Goals as goal

pub bounds-book-at : goal.bounds-book-at
bounds-book-at c =
    let a = c.args in
    let u = (used-within a.counts.used a.book.now (sound-facts a.counts.used a.book.now (sound-parts a.book.now a.table.now a.counts c.requires.counts_value).0)).0 in
    let w = c.requires.message_at.within in
    let s = c.requires.message_at.some in
    omega arith

pub bounds-book-at-2 : goal.bounds-book-at-2
bounds-book-at-2 c =
    let a = c.args in
    let u = (used-within a.counts.used a.book.now (sound-facts a.counts.used a.book.now (sound-parts a.book.now a.table.now a.counts c.requires.counts_value).0)).0 in
    let w = c.requires.message_at.within in
    let s = c.requires.message_at.some in
    omega arith

pub returns-then-kind-eq3 : goal.returns-then-kind-eq3
returns-then-kind-eq3 c =
    let a = c.args in
    refused_all a.number a.sender a.book.now a.table.now a.counts (Err AlreadyWithdrawn) _
    (already a.number a.sender a.book.now a.table.now a.counts c.requires.counts_value a.at a.count c.requires.message_at c.if-sender-own.true (eq-eqb _ _ c.if-kind-eq3.true))
    refl c.unchanged.ensures

pub returns-then-count-le-FEW : goal.returns-then-count-le-FEW
returns-then-count-le-FEW c =
    let a = c.args in
    goes_on a.number a.sender a.book.now a.table.now a.counts c.requires.counts_value a.at a.count c.requires.message_at c.if-sender-own.true (ne_eqb _ _ c.if-kind-eq3.false) _ _ _ c.rework_few.ensures

pub returns-then-sender-own : goal.returns-then-sender-own
returns-then-sender-own c =
    let a = c.args in
    goes_on a.number a.sender a.book.now a.table.now a.counts c.requires.counts_value a.at a.count c.requires.message_at c.if-sender-own.true (ne_eqb _ _ c.if-kind-eq3.false) _ _ _ c.rework_many.ensures

pub returns : goal.returns
returns c =
    let a = c.args in
    refused_all a.number a.sender a.book.now a.table.now a.counts (Err OtherSender) _
    (other-sender a.number a.sender a.book.now a.table.now a.counts c.requires.counts_value a.at a.count c.requires.message_at c.if-sender-own.false)
    refl c.unchanged-2.ensures
