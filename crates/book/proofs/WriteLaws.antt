-- Entries that are written or marked: how wide and how many they are; a lent part, one byte written, and one row more. Assumes nothing.
use mathlib.Core.Path.{◌≡◌, ◌∙◌}
use mathlib.Core.List.{List, [], ◌∷◌, ◌++◌, map}
use Prim.Native.Nat.{ℕ, ◌+◌, ◌*◌, ◌-◌}
use native.Mathlib.Nat.{add-zero}
use native.Mathlib.Omega.{arith}
use lib.ListN.{length, take, drop, set, length-append, length-set, length-map}
use Rattle.lists.specs.Part.{part, over}
use Rattle.lists.specs.Rows.{rows_of, Wide}
use Rattle.lists.proofs.BigEndianLaws.{length-spelled}
use Rattle.lists.proofs.OverLaws.{over-nil, over-snoc}
use Rattle.lists.proofs.RowLaws.{rows_of-append}
use Rattle.passage.specs.Layout.{body_wide}
use Rattle.book.specs.Entries.{entry_wide, entry_of, entries_of}
use Rattle.book.specs.Rules.{marked_withdrawn}

-- a part of n bytes, as `&l[a..a + n]` is written out
pub lent-part : (a n : ℕ) (l : List ℕ) → take (a + n - a) (drop a l) ≡ part a n l
unfolding part
lent-part a n l = let e : a + n - a ≡ n = omega arith in rw e

-- one byte written
pub set-over : (at v : ℕ) (d : List ℕ) → set d at v ≡ over at (v ∷ []) d
set-over at v d = rw (over-nil, add-zero) at (over-snoc at v [] d)

-- i rows and the next
pub rows_of-snoc : (w i : ℕ) (t : List ℕ) → rows_of w (i + 1) t ≡ rows_of w i t ++ part (i * w) w t ∷ []
unfolding rows_of part
rows_of-snoc w i t = rows_of-append w i 1 t

-- ---- entries

pub length-entry_of : (n s : ℕ) (body : List ℕ) → length body ≡ body_wide → length (entry_of n s body) ≡ entry_wide
unfolding entry_of
length-entry_of n s body h = simp (length-append, length-spelled, h)

pub wide-entries_of : (n s : ℕ) (bodies : List (List ℕ)) → Wide body_wide bodies → Wide entry_wide (entries_of n s bodies)
unfolding entries_of
wide-entries_of n s [] h = tt
wide-entries_of n s (b ∷ bs) h = (length-entry_of n s b h.0, wide-entries_of n s bs h.1)

pub length-entries_of : (n s : ℕ) (bodies : List (List ℕ)) → length (entries_of n s bodies) ≡ length bodies
unfolding entries_of
length-entries_of n s bodies = length-map bodies (entry_of n s)

-- ---- marks

pub length_marked : (e : List ℕ) → length (marked_withdrawn e) ≡ length e
unfolding marked_withdrawn
length_marked e = length-set e 0 3

pub wide-marked : (w : ℕ) (es : List (List ℕ)) → Wide w es → Wide w (map marked_withdrawn es)
wide-marked w [] h = tt
wide-marked w (e ∷ es) h = (length_marked e ∙ h.0, wide-marked w es h.1)
