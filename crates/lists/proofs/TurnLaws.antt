-- A turn of a loop that writes upwards. Assumes nothing.
use mathlib.Core.Path.{◌≡◌}
use mathlib.Core.List.{List, [], ◌∷◌, ◌++◌}
use Prim.Native.Nat.{ℕ, ◌+◌, ◌<◌}
use native.Mathlib.Numerals.{add-one}
use native.Mathlib.Omega.{arith}
use lib.ListN.{length, take, get_or, set}
use lib.Seq.{take-suc, length-take-le}
use Rattle.lists.specs.Part.{over}
use Rattle.lists.proofs.PartLaws.{take_snoc}
use Rattle.lists.proofs.OverLaws.{over-snoc}

-- a loop that runs up puts v behind the run
pub put_up : {A : Type 0} (a i : ℕ) (v : A) (vs s₀ s : List A) → s ≡ over a vs s₀ → length vs ≡ i → set s (a + i) v ≡ over a (vs ++ v ∷ []) s₀
put_up a i v vs s₀ s e l = rw (e, ← l) (over-snoc a v vs s₀)

pub element-turn : {A : Type 0} (a i : ℕ) (v : A) (b s₀ s : List A) → s ≡ over a (take i b) s₀ → i < length b → v ≡ get_or b i v → set s (a + i) v ≡ over a (take (i + 1) b) s₀
element-turn a i v b s₀ s e h k = rw (add-one, take-suc b i v h, ← k) (put_up a i v (take i b) s₀ s e (length-take-le i b (omega arith)))

pub copy-turn : (a i : ℕ) (b s₀ s : List ℕ) → s ≡ over a (take i b) s₀ → i < length b → set s (a + i) (get_or b i 0) ≡ over a (take (i + 1) b) s₀
copy-turn a i b s₀ s e h = rw (take_snoc i b h) (put_up a i (get_or b i 0) (take i b) s₀ s e (length-take-le i b (omega arith)))
