use Prim.Native.Nat.{◌-◌}
use native.Mathlib.Omega.{arith}
use mathlib.Core.Path.{refl, sym, ap, ◌∙◌}
use lib.ListN.{length}
use Rattle.turbo_lines.proofs.LineLaws.{after-line-shorter}
use Rattle.reader.proofs.ReadLaws.{line_reads, line-fronts, holds-shape}
use Rattle.reader.proofs.ShortLaws.{going_start, going_done, going-long, going-fewer, going-ends, going_on, going-length}
use Rattle.reader.proofs.read_lines.Goals as goal

pub loop-rest-init : goal.loop-rest-init
loop-rest-init c = (going_start c.args.table c.args.register.now c.args.sender c.args.dossier.now c.args.staging.now c.start-state.result c.start-state.ensures, refl)

pub returns-then-line-gt4094 : goal.returns-then-line-gt4094
returns-then-line-gt4094 c = let k = c.loop-rest in let r = c.read_line in let t = going-long c.args.table c.args.register.now c.args.sender c.args.dossier.now c.args.staging.now k.state k.rest.now k.staging k.invariant.0 c.loop-rest-test.true (length r.result.0.now) (ap length r.ensures.line) c.if-line-gt4094.true in record { answer = t.0; area = t.1 }

pub advance-requires : goal.advance-requires
advance-requires c = let k = c.loop-rest in let i = k.invariant.0 in let g = i.reading in (omega (arith, i.bytes, c.requires), omega (arith, i.bytes, g.few, c.requires), holds-shape c.args.table k.state g.place g.agrees)

pub form_unless_long-requires : goal.form_unless_long-requires
form_unless_long-requires c = let m = (let s = c in let k = c.loop-rest in let n = c.advance in let r = c.read_line in going-fewer s.args.table s.args.register.now s.args.sender s.args.dossier.now s.args.staging.now k.state k.rest.now k.staging k.invariant.0 c.loop-rest-test.true (length r.result.0.now) (ap length r.ensures.line) c.if-line-gt4094.false r.result.0.now r.ensures.line r.result.1.now r.ensures.tail n.new.state n.ensures.state n.new.staging n.ensures.area (line_reads s.args.table s.args.register.now s.args.sender r.result.0.now) (line-fronts s.args.table r.result.0.now)) in (m.0, omega (arith, m.1, c.requires))

pub returns-then-state-ne0 : goal.returns-then-state-ne0
returns-then-state-ne0 c = let k = c.loop-rest in let n = c.advance in let r = c.read_line in let t = going-ends c.args.table c.args.register.now c.args.sender c.args.dossier.now c.args.staging.now k.state k.rest.now k.staging k.invariant.0 c.loop-rest-test.true (length r.result.0.now) (ap length r.ensures.line) c.if-line-gt4094.false r.result.0.now r.ensures.line r.result.1.now r.ensures.tail n.new.state n.ensures.state n.new.staging n.ensures.area (line_reads c.args.table c.args.register.now c.args.sender r.result.0.now) (line-fronts c.args.table r.result.0.now) c.if-state-ne0.true c.form_unless_long.result c.form_unless_long.ensures in record { answer = t.0; area = t.1 }

pub loop-rest-smaller : goal.loop-rest-smaller
loop-rest-smaller c = let k = c.loop-rest in omega (arith, ap length c.read_line.ensures.tail, after-line-shorter k.rest.now c.loop-rest-test.true)

pub loop-rest-preserved : goal.loop-rest-preserved
loop-rest-preserved c = let g = (let k = c.loop-rest in let n = c.advance in let r = c.read_line in going_on c.args.table c.args.register.now c.args.sender c.args.dossier.now c.args.staging.now k.state k.rest.now k.staging k.invariant.0 c.loop-rest-test.true (length r.result.0.now) (ap length r.ensures.line) c.if-line-gt4094.false r.result.0.now r.ensures.line r.result.1.now r.ensures.tail n.new.state n.ensures.state n.new.staging n.ensures.area (line_reads c.args.table c.args.register.now c.args.sender r.result.0.now) (line-fronts c.args.table r.result.0.now) c.if-state-ne0.false) in let n = c.advance in let r = c.read_line in (g, going-length c.args.table c.args.register.now c.args.sender c.args.dossier.now c.args.staging.now n.new.state r.result.1.now n.new.staging g)

pub returns : goal.returns
returns c = let k = c.loop-rest in let r = going_done c.args.table c.args.register.now c.args.sender c.args.dossier.now c.args.staging.now k.state k.rest.now k.staging k.invariant.0 c.loop-rest-test.false in record { answer = c.settle.ensures ∙ r.0; area = r.1 }
