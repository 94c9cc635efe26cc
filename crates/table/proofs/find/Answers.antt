use mathlib.Core.Path.{◌∙◌}
use native.Mathlib.Omega.{arith}
use Rattle.lists.specs.Part.{part}
use Rattle.passage.specs.Layout.{key_wide}
use Rattle.table.specs.Rules.{rows}
use Rattle.table.proofs.RowKeyLaws.{rows-looked}
use Rattle.table.proofs.SoundLaws.{rows-rise}
use Rattle.table.proofs.find.Goals as goal

pub find_key-requires : goal.find_key-requires
find_key-requires c =
    record { width_in_bounds = (c.requires.row_wide_in_bounds.0, omega arith, c.requires.row_wide_in_bounds.1); bytes_value = rows-rise (rows c.args.count c.args.table.now) ∙ c.requires.table_value }

pub returns : goal.returns
returns c =
    let a = c.args in
    c.find_key.ensures ∙ rows-looked (part a.from key_wide a.key.now) (rows a.count a.table.now)
