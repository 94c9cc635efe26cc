-- `post` meets its contract. Assumes nothing.
use Prim.Native.Nat.{◌≤◌}
use native.Mathlib.Nat.{le_trans}
use mathlib.Core.Path.{◌≡◌, sym, ◌∙◌}
use Rattle.lists.specs.Rows.{rows_of}
use Rattle.passage.specs.Layout.{body_wide}
use Rattle.calls.specs.End.{most_rows, staged_rows}
use Rattle.calls.proofs.AcceptedLaws.{sound-parts}
use Rattle.feeds_end.proofs.EndLaws.{rows-here, least-few, post-denied, post-short, post-taken}
use Rattle.feeds_end.proofs.post.Goals as goal

pub returns-then-any_denied : goal.returns-then-any_denied
returns-then-any_denied c =
    let here-rows : rows_of body_wide c.staged_here-here.result c.args.staging.now ≡ staged_rows c.args.staging.now c.args.feed = rows-here c.args.staging.now c.args.feed c.staged_here-here.result c.staged_here-here.ensures.is in
    let a = c.args in
    post-denied a.register.now a.staging.now a.book.now a.table.now a.counts a.feed _ here-rows (sym c.any_denied.ensures ∙ c.if-any_denied.true) c.unchanged.result c.unchanged.ensures

pub returns-then-falls_short : goal.returns-then-falls_short
returns-then-falls_short c =
    let here-rows : rows_of body_wide c.staged_here-here.result c.args.staging.now ≡ staged_rows c.args.staging.now c.args.feed = rows-here c.args.staging.now c.args.feed c.staged_here-here.result c.staged_here-here.ensures.is in
    let a = c.args in
    post-short a.register.now a.staging.now a.book.now a.table.now a.counts a.feed _ here-rows (sym c.any_denied.ensures ∙ c.if-any_denied.false) (sym c.falls_short.ensures ∙ c.if-falls_short.true) c.unchanged-then-falls_short.result c.unchanged-then-falls_short.ensures

pub take_rows-requires : goal.take_rows-requires
take_rows-requires c =
    let here-few : c.staged_here-here.result ≤ most_rows = rw c.staged_here-here.ensures.is (le_trans (least-few _ _) c.requires.staged_le_most_rows) in
    let a = c.args in
    let parts = sound-parts a.staging.now a.register.now a.book.now a.table.now a.feed.sender a.feed.form a.counts c.requires.counts_value in
    record { count_le_most_updates = (here-few, c.staged_here-here.ensures.within); book_value = (parts.1, parts.2) }

pub returns : goal.returns
returns c =
    let here-rows : rows_of body_wide c.staged_here-here.result c.args.staging.now ≡ staged_rows c.args.staging.now c.args.feed = rows-here c.args.staging.now c.args.feed c.staged_here-here.result c.staged_here-here.ensures.is in
    let a = c.args in
    post-taken a.register.now a.staging.now a.book.now a.table.now a.counts a.feed _ here-rows (sym c.any_denied.ensures ∙ c.if-any_denied.false) (sym c.falls_short.ensures ∙ c.if-falls_short.false) c.take_rows.result _ _ c.take_rows.ensures
