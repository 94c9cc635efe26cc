-- The promise of each public function allows one outcome: its result, and every lent byte afterwards. Assumes nothing.
use mathlib.Core.Path.{sym, ◌∙◌}
use Rattle.lists.proofs.Promise.{Determined, OneResult}
use Rattle.boards_saved.proofs.load.Kinds as load
use Rattle.boards_saved.proofs.load.Reads as load-reads
use Rattle.boards_saved.proofs.write_heading.Kinds as write-heading
use Rattle.boards_saved.proofs.write_heading.Reads as write-heading-reads

pub load-determined : OneResult 4 load.ps load.r load-reads.Post
load-determined κs a x y s t p q = p.0 ∙ sym q.0

pub load-register-determined : Determined 4 load.ps load.r load-reads.Post (λ κs x s. s.1.0.now)
load-register-determined κs a x y s t p q = p.1.0 ∙ sym q.1.0

pub load-book-determined : Determined 4 load.ps load.r load-reads.Post (λ κs x s. s.1.1.0.now)
load-book-determined κs a x y s t p q = p.1.1.0 ∙ sym q.1.1.0

pub load-table-determined : Determined 4 load.ps load.r load-reads.Post (λ κs x s. s.1.1.1.0.now)
load-table-determined κs a x y s t p q = p.1.1.1 ∙ sym q.1.1.1

pub write-heading-determined : Determined 1 write-heading.ps write-heading.r write-heading-reads.Post (λ κs x s. s.0.now)
write-heading-determined κs a x y s t p q = p ∙ sym q
