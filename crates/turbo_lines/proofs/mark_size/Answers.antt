use Rattle.turbo_lines.specs.Lines.{mark_of}
use Rattle.turbo_lines.specs.declared.Mark.TheVariants.{Group, Table, Labels, Data}
use Prim.Native.Nat.{ℕ, ◌-◌}
use native.Mathlib.Omega.{arith}
use mathlib.Core.Path.{◌≡◌, sym, ◌∙◌}
use Rattle.turbo_lines.proofs.MarkLaws.{mark-long, behind-mark}
use Rattle.turbo_lines.proofs.mark_size.Goals as goal

pub returns-in-Group : goal.returns-in-Group
returns-in-Group c = let l = c.args.line.now in let e : Group ≡ mark_of l = sym c.in-Group.is ∙ c.mark_of.ensures in record { is = behind-mark l Group e; within = mark-long l Group e (λ q. let z : ◌≡◌ {A = ℕ} 0 1 = cc in omega arith) }

pub returns-in-Table : goal.returns-in-Table
returns-in-Table c = let l = c.args.line.now in let e : Table ≡ mark_of l = sym c.in-Table.is ∙ c.mark_of.ensures in record { is = behind-mark l Table e; within = mark-long l Table e (λ q. let z : ◌≡◌ {A = ℕ} 0 1 = cc in omega arith) }

pub returns-in-Labels : goal.returns-in-Labels
returns-in-Labels c = let l = c.args.line.now in let e : Labels ≡ mark_of l = sym c.in-Labels.is ∙ c.mark_of.ensures in record { is = behind-mark l Labels e; within = mark-long l Labels e (λ q. let z : ◌≡◌ {A = ℕ} 0 1 = cc in omega arith) }

pub returns-in-Data : goal.returns-in-Data
returns-in-Data c = let l = c.args.line.now in record { is = behind-mark l Data (sym c.in-Data.is ∙ c.mark_of.ensures); within = omega arith }
