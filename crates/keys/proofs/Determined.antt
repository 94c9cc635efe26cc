-- The promise of each public function allows one answer. Assumes nothing.
use mathlib.Core.Path.{◌≡◌, sym, ◌∙◌}
use mathlib.Core.Bool.{true}
use mathlib.Core.List.{List}
use Prim.Native.Nat.{ℕ}
use lib.ListN.{length}
use Rattle.std.specs.Prelude.{Result}
use Rattle.std.specs.declared.cmp.Ordering.{Ordering}
use Rattle.keys.specs.Sorted.{sorted_rows, lookup, Compares}
use Rattle.lists.proofs.Promise.{OneResult}
use Rattle.keys.proofs.compare_key.Kinds as compare-key
use Rattle.keys.proofs.compare_key.Reads as compare-key-reads
use Rattle.keys.proofs.find_key.Kinds as find-key
use Rattle.keys.proofs.find_key.Reads as find-key-reads
use Rattle.keys.proofs.keys_rise.Kinds as keys-rise
use Rattle.keys.proofs.keys_rise.Reads as keys-rise-reads

pub find-key-determined : OneResult 2 find-key.ps find-key.r find-key-reads.Post
find-key-determined κs a x y s t p q = p ∙ sym q

pub compare-key-determined : OneResult 2 compare-key.ps compare-key.r compare-key-reads.Post
compare-key-determined κs a x y s t p q = p ∙ sym q

pub keys-rise-determined : OneResult 1 keys-rise.ps keys-rise.r keys-rise-reads.Post
keys-rise-determined κs a x y s t p q = p ∙ sym q

-- what `search_by` promises of its answer x, where R is what its closure may tell of n places
abbrev pub Answers : (ℕ → Ordering → Type 0) → ℕ → Result ℕ ℕ → Type 0
Answers R n x = (k : List ℕ) (rs : List (List ℕ)) → length rs ≡ n → sorted_rows rs ≡ true → Compares R k rs → x ≡ lookup k rs

-- it is one wherever the closure tells the order of rows
pub one-answer : (R : ℕ → Ordering → Type 0) (n : ℕ) (x y : Result ℕ ℕ) → Answers R n x → Answers R n y → (k : List ℕ) (rs : List (List ℕ)) → length rs ≡ n → sorted_rows rs ≡ true → Compares R k rs → x ≡ y
one-answer R n x y p q k rs l s c = p k rs l s c ∙ sym (q k rs l s c)
