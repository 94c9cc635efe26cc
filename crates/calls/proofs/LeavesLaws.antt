-- What a call leaves, by its answer: a refusal gives the day back, an acceptance leaves the new one. Assumes nothing.
use Prim.Native.Nat.{ℕ}
use native.Mathlib.Omega.{arith}
use mathlib.Core.Path.{◌≡◌, refl, sym, ap}
use mathlib.Core.Bool.{false}
use mathlib.Core.List.{List}
use Rattle.std.specs.Prelude.{Ok, Err}
use Rattle.reader.specs.Rules.{Reading}
use Rattle.calls.specs.declared.Refusal.{Refusal}
use Rattle.calls.specs.declared.Counts.{Counts}
use Rattle.calls.specs.declared.Outcome.{Outcome}
use Rattle.calls.specs.Answers.{Answer, is_accepted, unless_refused}
use Rattle.calls.specs.Leaves.{Day, day_of, leaves, leaves_by, outcome_of}
use Rattle.calls.specs.inner.Steps.{passed_of}

-- the call's answer x is the refusal a
pub leaves-refused : (x a : Answer) (new : Day) (book table : List ℕ) (c : Counts) → x ≡ a → is_accepted a ≡ false → (r : Outcome) → r ≡ outcome_of a c → leaves r book table ≡ leaves_by x new (day_of book table c)
leaves-refused x a new book table c e f r told = rw (e, f, told) refl

-- the call's answer x is acceptance with the number n
pub leaves-accepted : (x : Answer) (n : ℕ) (new given : Day) → x ≡ Ok n → (r : Outcome) (b t : List ℕ) (c : Counts) → r ≡ outcome_of (Ok n) c → c ≡ new.counts → b ≡ new.book → t ≡ new.table → leaves r b t ≡ leaves_by x new given
leaves-accepted x n new given e r b t c told f g h = rw (e, told, f, g, h) refl

-- ---- a dossier that was read

-- a refusal of it is the call's answer, whatever comes next
pub passed-off : (w : ℕ) (x : Reading) (a : Refusal) → passed_of w x ≡ Err a → (next : Answer) → unless_refused w x next ≡ Err a
passed-off w (Err f) a e next = e
passed-off w (Ok n) a e next = absurd (let z : ◌≡◌ {A = ℕ} 0 1 = cc in omega arith)

-- only rows go on
pub passed_on : (w : ℕ) (x : Reading) (n : ℕ) → passed_of w x ≡ Ok n → x ≡ Ok n
passed_on w (Err f) n e = absurd (let z : ◌≡◌ {A = ℕ} 0 1 = cc in omega arith)
passed_on w (Ok m) n e = cc
