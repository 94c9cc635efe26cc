use native.Mathlib.Omega.{arith}
use Rattle.std.proofs.lemmas.Result.{err_from_is_err_and}
use Rattle.syntax.proofs.LineLaws.{started, quiet-place, stopped-short, stopped, turned, ended}
use Rattle.syntax.proofs.line_end.Goals as goal

pub loop-i-init : goal.loop-i-init
loop-i-init c = started c.args.dossier.now c.args.i c.requires

pub quiet_end-j-requires : goal.quiet_end-j-requires
quiet_end-j-requires c = c.loop-i.invariant.within

pub begins-fresh-requires : goal.begins-fresh-requires
begins-fresh-requires c = let p = quiet-place c.args.dossier.now c.loop-i.p c.quiet_end-j.result c.loop-i.invariant.within c.quiet_end-j.ensures in (p.0, p.1)

pub returns-then-dossier-j : goal.returns-then-dossier-j
returns-then-dossier-j c = let t = stopped-short c.args.dossier.now c.args.i c.loop-i.p c.loop-i.fresh c.loop-i.invariant c.quiet_end-j.result c.quiet_end-j.ensures c.if-dossier-j.true in record { ahead = t.0; leads = t.1 }

pub ret_end-requires : goal.ret_end-requires
ret_end-requires c = let l = c.loop-i in let q = c.quiet_end-j in (c.if-dossier-j.false, (quiet-place c.args.dossier.now l.p q.result l.invariant.within q.ensures).2 c.if-dossier-j.false, c.if-dossier-j-ne92.true)

pub returns-then-dossier-j-ne92 : goal.returns-then-dossier-j-ne92
returns-then-dossier-j-ne92 c = let l = c.loop-i in let q = c.quiet_end-j in let t = ended c.args.dossier.now c.args.i l.p l.fresh l.invariant q.result q.ensures c.ret_end.result c.ret_end.ensures.ahead c.ret_end.ensures.leads in record { ahead = t.0; leads = t.1 }

pub escape_end-requires : goal.escape_end-requires
escape_end-requires c = (c.if-dossier-j.false, c.if-dossier-j-ne92.false)

pub loop-i-smaller : goal.loop-i-smaller
loop-i-smaller c = let l = c.loop-i in let q = c.quiet_end-j in let o = c.in_ok-p in omega (arith, (turned c.args.dossier.now c.args.i l.p l.fresh l.invariant q.result q.ensures c.begins-fresh.result c.begins-fresh.ensures o.p o.ensures.ahead o.ensures.leads).0)

pub loop-i-preserved : goal.loop-i-preserved
loop-i-preserved c = let l = c.loop-i in let q = c.quiet_end-j in let o = c.in_ok-p in (turned c.args.dossier.now c.args.i l.p l.fresh l.invariant q.result q.ensures c.begins-fresh.result c.begins-fresh.ensures o.p o.ensures.ahead o.ensures.leads).1

pub returns-in_err-p : goal.returns-in_err-p
returns-in_err-p c =
    let l = c.loop-i in let q = c.quiet_end-j in let o = c.in_err-p in
    let t = err_from_is_err_and c.from_residual.result c.from_residual.ensures.1 in
    rw (t.1, t.2) (record { ahead = o.ensures.ahead; leads = stopped c.args.dossier.now c.args.i l.p l.fresh l.invariant q.result q.ensures c.begins-fresh.result c.begins-fresh.ensures _ o.ensures.leads })
