use mathlib.Core.Path.{refl, sym, ◌∙◌}
use Rattle.std.specs.Prelude.{Err}
use Rattle.calls.proofs.NumbersLaws.{withdraw-told}
use Rattle.calls.specs.declared.Refusal.TheVariants.{Unsound}
use Rattle.withdrawals.proofs.AnswerLaws.{refused_all, not_sound}
use Rattle.withdrawals.proofs.withdraw.Goals as goal

pub withdraw_sound-requires : goal.withdraw_sound-requires
withdraw_sound-requires c = sym c.is_sound.ensures ∙ c.if-is_sound.true

pub returns-then-is_sound : goal.returns-then-is_sound
returns-then-is_sound c =
    let a = c.args in
    let t = withdraw-told a.number a.sender a.book.now a.table.now a.counts _ _ _ c.withdraw_sound.ensures in record { lent = t.0; numbers = t.1 }

pub returns : goal.returns
returns c =
    let a = c.args in
    let t = withdraw-told a.number a.sender a.book.now a.table.now a.counts _ _ _
    (refused_all a.number a.sender a.book.now a.table.now a.counts (Err Unsound) _
    (not_sound a.number a.sender a.book.now a.table.now a.counts (sym c.is_sound.ensures ∙ c.if-is_sound.false))
    refl c.unchanged.ensures) in record { lent = t.0; numbers = t.1 }
