use native.Mathlib.Omega.{arith}
use Rattle.turbo.proofs.BarLaws.{fields-bars}
use Rattle.turbo.proofs.count_fields.Goals as goal

pub returns : goal.returns
returns c = omega (arith, c.bars_in_blocks-wide.ensures.bars, c.bars_in_blocks-narrow.ensures.bars, c.count_bars.ensures, fields-bars c.args.line.now)
