use native.Mathlib.Omega.{arith}
use Rattle.syntax.proofs.LineLaws.{quiet-place}
use Rattle.syntax_scan.proofs.TurnLaws.{text-ends, text-null, text-on}
use Rattle.syntax_scan.proofs.pass_text.Goals as goal

pub begins-begun-requires : goal.begins-begun-requires
begins-begun-requires c = let p = quiet-place c.args.bytes.now c.args.i c.quiet_end-j.result (omega arith) c.quiet_end-j.ensures in (p.0, p.1)

pub returns-then-bytes-j : goal.returns-then-bytes-j
returns-then-bytes-j c = let t = text-ends c.args.bytes.now c.args.i c.requires c.args.fresh c.args.kind c.quiet_end-j.ensures c.begins-begun.ensures c.text_state-state.ensures c.if-bytes-j.true in record { ahead = t.0; leads = t.1 }

pub returns-then-begun-null_at : goal.returns-then-begun-null_at
returns-then-begun-null_at c =
    let t = text-null c.args.bytes.now c.args.i c.requires c.args.fresh c.args.kind c.quiet_end-j.ensures c.begins-begun.ensures
    c.text_state-state.ensures
    c.null_at.ensures
    c.if-begun-null_at.true in record { ahead = t.0; leads = t.1 }

pub returns : goal.returns
returns c =
    let t = text-on c.args.bytes.now c.args.i c.requires c.args.fresh c.args.kind c.quiet_end-j.ensures c.begins-begun.ensures
    c.text_state-state.ensures
    c.pass_byte.result
    c.pass_byte.ensures.ahead
    c.pass_byte.ensures.leads in record { ahead = t.0; leads = t.1 }
