-- What the writers of values cite: which case of a rule holds, and what was written. Assumes nothing.
use mathlib.Core.Path.{◌≡◌, refl, sym}
use mathlib.Core.Bool.{Bool, true, false}
use mathlib.Core.List.{List, []}
use Prim.Native.Nat.{ℕ, ◌<◌}
use native.Mathlib.Omega.{arith}
use lib.ListN.{length}
use Rattle.lists.specs.Text.{same}
use Rattle.lists.specs.Part.{over, some}
use Rattle.lists.specs.BigEndian.{spelled}
use Rattle.lists.proofs.OverLaws.{over-nil}
use Rattle.lists.proofs.BigEndianLaws.{length-spelled}
use Rattle.field_types.specs.Times.{time}
use Rattle.columns.specs.Cell.{null, time_cell, missing_time, time_at}
use Rattle.columns.proofs.CellLaws.{some-long}

-- ---- what a writer of a cell promises: it answers whether something is kept, and has written that

abbrev pub Kept : ℕ → List ℕ → List ℕ → Bool → List ℕ → Type 0
Kept at l row r row' = (r ≡ some l) × (row' ≡ over at l row)

module _ (at : ℕ) {l : List ℕ} (row : List ℕ) where
  pub kept-none : l ≡ [] → Kept at l row false row
  kept-none e = rw e (refl, sym (over-nil at row))

  pub kept-as : {m : List ℕ} {r : Bool} {row' : List ℕ} → m ≡ l → Kept at m row r row' → Kept at l row r row'
  kept-as e k = rw (← e) k

  pub kept-long : {m row' : List ℕ} → m ≡ l → 0 < length m → row' ≡ over at m row → Kept at l row true row'
  kept-long {m} e h k = kept-as e (sym (some-long m h), k)

  pub kept-spelled : (w v : ℕ) {row' : List ℕ} → spelled w v ≡ l → 0 < w → row' ≡ over at (spelled w v) row → Kept at l row true row'
  kept-spelled w v e h k = let s = length-spelled w v in kept-long e (omega arith) k

-- ---- which case of a time holds

module _ (word stop f : List ℕ) where
  pub time-missing : same f null ≡ true → same stop word ≡ true → missing_time ≡ time_at word stop f
  time-missing n s = rw (n, s)

  pub time-none : same f null ≡ true → same stop word ≡ false → time_at word stop f ≡ []
  time-none n s = rw (n, s)

  pub time-told : same f null ≡ false → time_cell (time f) ≡ time_at word stop f
  time-told n = rw n
