-- The promise of each public function allows one outcome: its answer, or the lent bytes afterwards, follows from what was passed. Assumes nothing.
use mathlib.Core.Path.{sym, ◌∙◌}
use mir.Syntax.{Dict}
use denote.RattleType.{RattleType}
use denote.Param.Laws.{Laws, IsCopy}
use Rattle.std.specs.declared.clone.Clone.{Ghosts}
use Rattle.lists.proofs.Promise.{Determined, OneResult}
use Rattle.lists.proofs.same_bytes.Kinds as same_bytes
use Rattle.lists.proofs.same_bytes.Reads as same-bytes-reads
use Rattle.lists.proofs.copy_to.Kinds as copy-to
use Rattle.lists.proofs.copy_to.Reads as copy-to-reads
use Rattle.lists.proofs.clear.Kinds as clear
use Rattle.lists.proofs.clear.Reads as clear_reads
use Rattle.lists.proofs.shift_up.Kinds as shift-up
use Rattle.lists.proofs.shift_up.Reads as shift-up-reads
use Rattle.lists.proofs.shift_down.Kinds as shift-down
use Rattle.lists.proofs.shift_down.Reads as shift-down-reads
use Rattle.lists.proofs.get_number.Kinds as get-number
use Rattle.lists.proofs.get_number.Reads as get-number-reads
use Rattle.lists.proofs.put_number.Kinds as put-number
use Rattle.lists.proofs.put_number.Reads as put-number-reads

-- ---- functions that answer, and write nothing

pub same-bytes-determined : OneResult 2 same_bytes.ps same_bytes.r same-bytes-reads.Post
same-bytes-determined κs a x y s t p q = p ∙ sym q

pub get-number-determined : OneResult 1 get-number.ps get-number.r get-number-reads.Post
get-number-determined κs a x y s t p q = p ∙ sym q

-- ---- functions that write into their first parameter, and answer nothing

pub copy-to-determined : (T : RattleType) (l : Laws T) (k : IsCopy T) (c : Ghosts T.Denot) (d : Dict) → Determined 3 (copy-to.ps T l k) (copy-to.r T l k) (copy-to-reads.Post T l k c d) (λ κs x s. s.0.now)
copy-to-determined T l k c d κs a x y s t p q = p ∙ sym q

pub clear-determined : Determined 1 clear.ps clear.r clear_reads.Post (λ κs x s. s.0.now)
clear-determined κs a x y s t p q = p ∙ sym q

pub shift-up-determined : (T : RattleType) (l : Laws T) (k : IsCopy T) (c : Ghosts T.Denot) (d : Dict) → Determined 2 (shift-up.ps T l k) (shift-up.r T l k) (shift-up-reads.Post T l k c d) (λ κs x s. s.0.now)
shift-up-determined T l k c d κs a x y s t p q = p ∙ sym q

pub shift-down-determined : (T : RattleType) (l : Laws T) (k : IsCopy T) (c : Ghosts T.Denot) (d : Dict) → Determined 2 (shift-down.ps T l k) (shift-down.r T l k) (shift-down-reads.Post T l k c d) (λ κs x s. s.0.now)
shift-down-determined T l k c d κs a x y s t p q = p ∙ sym q

pub put-number-determined : Determined 1 put-number.ps put-number.r put-number-reads.Post (λ κs x s. s.0.now)
put-number-determined κs a x y s t p q = p ∙ sym q
