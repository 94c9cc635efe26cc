use Prim.Native.Nat.{◌+◌}
use native.Mathlib.Omega.{arith}
use lib.ListN.{get_or}
use Rattle.syntax.proofs.EndLaws.{plain-line, plain-begun, mark-ends, marked-line, marked-begun}
use Rattle.syntax.proofs.line_start.Goals as goal

pub returns-then-dossier-i-ne92 : goal.returns-then-dossier-i-ne92
returns-then-dossier-i-ne92 c = rw c.plain_start.ensures (record { ahead = plain-begun c.args.dossier.now c.args.i c.requires c.args.k; leads = plain-line c.args.dossier.now c.args.i c.requires c.args.k c.if-dossier-i-ne92.true })

pub returns-then-dossier-a : goal.returns-then-dossier-a
returns-then-dossier-a c = record { ahead = omega arith; leads = mark-ends c.args.dossier.now c.args.i c.requires c.if-dossier-i-ne92.false c.args.k c.if-dossier-a.true }

pub returns : goal.returns
returns c = let d = c.args.dossier.now in let i = c.args.i in let e = c.if-dossier-i-ne92.false in rw c.marked_start.ensures (record { ahead = marked-begun d i c.requires e (omega arith) c.args.k (get_or d (i + 1) 0); leads = marked-line d i c.requires e (omega arith) c.args.k })
