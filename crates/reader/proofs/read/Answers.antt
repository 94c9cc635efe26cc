use Prim.Native.Nat.{◌-◌}
use mathlib.Core.Path.{sym, ◌∙◌}
use Rattle.reader.proofs.LookLaws.{numbered, look-long, look-syntax, look-lines}
use Rattle.reader.proofs.read.Goals as goal

pub returns-then-dossier-gt65536 : goal.returns-then-dossier-gt65536
returns-then-dossier-gt65536 c = let t = numbered c.args.table c.args.register.now c.args.sender c.args.dossier.now c.args.staging.now (look-long c.args.table c.args.register.now c.args.sender c.args.dossier.now c.args.staging.now c.if-dossier-gt65536.true) in record { answer = t.0; area = t.1.0; numbers = t.1.1 }

pub returns-in-Err : goal.returns-in-Err
returns-in-Err c = let t = numbered c.args.table c.args.register.now c.args.sender c.args.dossier.now c.args.staging.now (look-syntax c.args.table c.args.register.now c.args.sender c.args.dossier.now c.args.staging.now c.if-dossier-gt65536.false c.in-Err.i (sym c.check_syntax.ensures ∙ c.in-Err.is)) in record { answer = t.0; area = t.1.0; numbers = t.1.1 }

pub returns-in-Ok : goal.returns-in-Ok
returns-in-Ok c = let l = look-lines c.args.table c.args.register.now c.args.sender c.args.dossier.now c.args.staging.now c.if-dossier-gt65536.false (sym c.check_syntax.ensures ∙ c.in-Ok.is) in let r = c.read_lines in let t = numbered c.args.table c.args.register.now c.args.sender c.args.dossier.now c.args.staging.now (r.ensures.answer ∙ l.0, r.ensures.area ∙ l.1) in record { answer = t.0; area = t.1.0; numbers = t.1.1 }
