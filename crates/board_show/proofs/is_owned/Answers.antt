use mathlib.Core.Path.{◌∙◌}
use Rattle.board_show.proofs.ShowLaws.{is-owned-lent}
use Rattle.board_show.proofs.is_owned.Goals as goal

pub returns : goal.returns
returns c =
    let a = c.args in
    c.same_text.ensures ∙ is-owned-lent a.owner.now a.table.now a.at
