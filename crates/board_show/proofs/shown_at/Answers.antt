use mathlib.Core.Path.{◌≡◌, sym, ◌∙◌}
use Rattle.lists.specs.Logic.{on}
use Rattle.lists.specs.Part.{part}
use Rattle.passage.specs.Layout.{row_wide}
use Rattle.std.specs.Prelude.{Some, None}
use Rattle.board_show.specs.inner.Look.{shown_at}
use Rattle.board_show.proofs.ShowLaws.{is-of-lent, shown-other, shown-last, shown-may, departs-lent, date-lent, time-lent}
use Rattle.board_show.proofs.shown_at.Goals as goal

pub returns-then-table-at-eq2 : goal.returns-then-table-at-eq2
returns-then-table-at-eq2 c =
    let a = c.args in
    sym (shown-last a.owner.now a.stop.now a.table.now a.at a.span.from a.span.till c.if-table-at-eq2.true)

pub moment-moment-requires : goal.moment-moment-requires
moment-moment-requires c =
    let a = c.args in (
      rw c.get_number-date.ensures (date-lent a.owner.now a.stop.now a.table.now a.at a.span.from a.span.till c.requires.1),
      rw c.get_number-time.ensures (time-lent a.owner.now a.stop.now a.table.now a.at a.span.from a.span.till c.requires.1 c.if-table-at-eq2.false),
    )

pub returns-then-is_shown : goal.returns-then-is_shown
returns-then-is_shown c =
    let decided : let a = c.args in shown_at a.owner.now a.stop.now a.span.from a.span.till (part a.at row_wide a.table.now) ≡ on c.is_shown.result (Some c.moment-moment.result) None = let a = c.args in
    shown-may a.owner.now a.stop.now a.table.now a.at a.span.from a.span.till
    (sym (is-of-lent a.owner.now a.stop.now a.table.now a.at c.requires.3) ∙ sym c.same_text-here.ensures ∙ c.if-not-here.false)
    c.if-table-at-eq2.false
    c.moment-moment.result
    (departs-lent a.owner.now a.stop.now a.table.now a.at a.span.from a.span.till _ _ _ c.get_number-date.ensures c.get_number-time.ensures c.moment-moment.ensures)
    ∙ rw (← c.is_shown.ensures) in
    sym (decided ∙ rw c.if-is_shown.true)

pub returns-else-is_shown : goal.returns-else-is_shown
returns-else-is_shown c =
    let decided : let a = c.args in shown_at a.owner.now a.stop.now a.span.from a.span.till (part a.at row_wide a.table.now) ≡ on c.is_shown.result (Some c.moment-moment.result) None = let a = c.args in
    shown-may a.owner.now a.stop.now a.table.now a.at a.span.from a.span.till
    (sym (is-of-lent a.owner.now a.stop.now a.table.now a.at c.requires.3) ∙ sym c.same_text-here.ensures ∙ c.if-not-here.false)
    c.if-table-at-eq2.false
    c.moment-moment.result
    (departs-lent a.owner.now a.stop.now a.table.now a.at a.span.from a.span.till _ _ _ c.get_number-date.ensures c.get_number-time.ensures c.moment-moment.ensures)
    ∙ rw (← c.is_shown.ensures) in
    sym (decided ∙ rw c.if-is_shown.false)

pub returns-then-not-here : goal.returns-then-not-here
returns-then-not-here c =
    let a = c.args in
    sym (shown-other a.owner.now a.stop.now a.table.now a.at a.span.from a.span.till (sym (is-of-lent a.owner.now a.stop.now a.table.now a.at c.requires.3) ∙ sym c.same_text-here.ensures ∙ c.if-not-here.true))
