-- `end_kept` meets its contract. Assumes nothing.
use mathlib.Core.Path.{sym, ◌∙◌}
use Rattle.feeds_end.proofs.EndLaws.{right-few, lent-unsound, kept-unsound, all_right}
use Rattle.feeds_end.proofs.end_kept.Goals as goal

pub end_known-requires : goal.end_known-requires
end_known-requires c =
    let a = c.args in
    record { counts_value = sym c.is_sound.ensures ∙ c.if-is_sound.true; staged_le_most_rows = right-few a.staging.now a.feed (sym c.staged_right.ensures ∙ c.if-staged_right.true) c.requires }

pub returns-then-staged_right : goal.returns-then-staged_right
returns-then-staged_right c =
    let a = c.args in
    all_right a.register.now a.staging.now a.book.now a.table.now a.counts a.feed (sym c.is_sound.ensures ∙ c.if-is_sound.true) (sym c.staged_right.ensures ∙ c.if-staged_right.true) _ c.end_known.ensures

pub returns-then-is_sound : goal.returns-then-is_sound
returns-then-is_sound c =
    let a = c.args in
    kept-unsound a.register.now a.staging.now a.book.now a.table.now a.counts a.feed (sym c.is_sound.ensures ∙ c.if-is_sound.true) (sym c.staged_right.ensures ∙ c.if-staged_right.false) c.unchanged.result c.unchanged.ensures

pub returns : goal.returns
returns c =
    let a = c.args in
    lent-unsound a.register.now a.staging.now a.book.now a.table.now a.counts a.feed (sym c.is_sound.ensures ∙ c.if-is_sound.false) c.unchanged-2.result c.unchanged-2.ensures
