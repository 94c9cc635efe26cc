use Rattle.syntax_scan.proofs.TurnLaws.{byte-on, byte-stuck}
use Rattle.syntax_scan.proofs.pass_byte.Goals as goal

pub returns-in-Some-clause-leads : goal.returns-in-Some-clause-leads
returns-in-Some-clause-leads c = byte-on c.args.state c.args.bytes.now c.args.i c.requires c.next_state.ensures c.in-Some.next c.in-Some.is

pub returns-in-None-clause-leads : goal.returns-in-None-clause-leads
returns-in-None-clause-leads c = byte-stuck c.args.state c.args.bytes.now c.args.i c.requires c.next_state.ensures c.in-None.is
