-- The key of a row among rows in bytes, and the search over them. Assumes nothing.
use mathlib.Core.Path.{◌≡◌, ap, ◌∙◌}
use mathlib.Core.Bool.{true}
use mathlib.Core.List.{List, [], map}
use Prim.Native.Nat.{ℕ, ◌*◌, ◌<◌}
use native.Mathlib.Nat.{add-zero}
use native.Mathlib.Omega.{arith}
use lib.ListN.{get_or}
use Rattle.lists.specs.Part.{part}
use Rattle.lists.proofs.PartLaws.{part-part}
use Rattle.lists.proofs.RowLaws.{length-rows_of, row-at}
use Rattle.passage.specs.Layout.{key_of, key_wide, row_wide}
use Rattle.keys.specs.Sorted.{sorted_rows, lookup}
use Rattle.keys.proofs.FindLaws.{Seek, seek-start}
use Rattle.keys.proofs.StrideLaws.{lookup-keys}
use Rattle.table.specs.Rules.{rows}

-- a row's key is its first bytes
pub key-part : (p : ℕ) (t : List ℕ) → key_of (part p row_wide t) ≡ part p key_wide t
key-part p t = part-part 0 key_wide p row_wide t (omega arith) ∙ ap (λ (m : ℕ). part m key_wide t) (add-zero p)

pub key-at : (n i : ℕ) (t : List ℕ) → i < n → key_of (get_or (rows n t) i []) ≡ part (i * row_wide) key_wide t
key-at n i t h = ap key_of (row-at row_wide n i t h) ∙ key-part (i * row_wide) t

pub seek-rows : (n : ℕ) (t k : List ℕ) → sorted_rows (rows n t) ≡ true → Seek (rows n t) k 0 n
seek-rows n t k h = rw (length-rows_of row_wide n t) at (seek-start (rows n t) k h)

-- whole rows are searched as they are
pub rows-looked : (k : List ℕ) (rs : List (List ℕ)) → lookup k (map (part 0 row_wide) rs) ≡ lookup k rs
rows-looked k rs = lookup-keys (part 0 row_wide) (λ r. part-part 0 key_wide 0 row_wide r (omega arith)) k rs
