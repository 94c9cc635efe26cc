-- `append` meets its contract. Assumes nothing.
use native.Mathlib.Omega.{arith}
use Rattle.script_text.proofs.TextLaws.{append-none, append-fits}
use Rattle.script_text.proofs.append.Goals as goal

pub returns-then-area-place : goal.returns-then-area-place
returns-then-area-place c = let t = append-none _ _ _ (omega arith) in record { end = t.0; bytes = t.1 }

pub returns-then-area-place-2 : goal.returns-then-area-place-2
returns-then-area-place-2 c = let t = append-none _ _ _ (omega arith) in record { end = t.0; bytes = t.1 }

pub returns : goal.returns
returns c = let t = append-fits _ _ _ _ (omega arith) c.copy_to.ensures in record { end = t.0; bytes = t.1 }
