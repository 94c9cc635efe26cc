use mathlib.Core.Path.{sym, ◌∙◌}
use native.Mathlib.Omega.{arith}
use Rattle.passage.proofs.CommonLaws.{common-start, common-now}
use Rattle.book.specs.Entries.{body_at, entry_wide}
use Rattle.book.proofs.ChainLaws.{chain-start, chain-turn, chain-broken, chain-end}
use borrow.Author.Rules.{rules}
use Rattle.book.proofs.updates_follow.Goals as goal

pub loop-i-init : goal.loop-i-init
loop-i-init c = let a = c.args in (chain-start a.book.now a.at a.entries, sym (common-start entry_wide body_at a.entries a.at a.book.now) ∙ c.requires.book_value)

pub entry_is_sound-requires : goal.entry_is_sound-requires
entry_is_sound-requires c =
    let a = c.args in
    let common = common-now entry_wide body_at a.entries a.at a.book.now c.loop-i.i c.loop-i-test.true (omega arith) c.loop-i.invariant.1 in
    record { entry_wide_in_bounds = search rules; book_value = common.0 }

pub loop-i-preserved : goal.loop-i-preserved
loop-i-preserved c =
    let a = c.args in
    let l = c.loop-i in
    let h = c.head_at-last.ensures in
    let common = common-now entry_wide body_at a.entries a.at a.book.now l.i c.loop-i-test.true (omega arith) l.invariant.1 in
    let t = chain-turn a.book.now a.at a.entries l.i c.loop-i-test.true l.last.number l.last.sender l.last.kind _ c.entry_is_sound.ensures c.if-not-entry_is_sound.false in
    (rw (h.number, h.sender, h.kind) (sym t ∙ l.invariant.0), common.1)

pub returns-then-not-entry_is_sound : goal.returns-then-not-entry_is_sound
returns-then-not-entry_is_sound c =
    let a = c.args in
    let l = c.loop-i in
    sym (chain-broken a.book.now a.at a.entries l.i c.loop-i-test.true l.last.number l.last.sender l.last.kind _ c.entry_is_sound.ensures c.if-not-entry_is_sound.true) ∙ l.invariant.0

pub returns : goal.returns
returns c =
    let a = c.args in
    let l = c.loop-i in
    sym (chain-end a.book.now a.at a.entries l.i l.last.number l.last.sender l.last.kind (search rules)) ∙ l.invariant.0
