-- What a log says, as the book has it: its entries, its standing rows, the next number, and a message struck out. Assumes nothing.
use mathlib.Core.Path.{◌≡◌, refl, sym, ap, ◌∙◌}
use mathlib.Core.Bool.{Bool, true, false}
use mathlib.Core.List.{List, [], ◌∷◌, ◌++◌, map, append_assoc, append-nil}
use Prim.Native.Nat.{ℕ, suc, ◌+◌, ◌^◌, ◌≤◌, ◌<◌}
use native.Mathlib.Nat.{add-zero, add-suc, suc-add}
use native.Mathlib.Omega.{arith}
use lib.Dec.{eqb}
use lib.ListN.{length, length-append, length-map}
use Rattle.lists.specs.Logic.{on}
use Rattle.lists.specs.Each.{Each}
use Rattle.lists.specs.Rows.{Wide}
use Rattle.lists.proofs.EachLaws.{each_append}
use Rattle.passage.specs.Layout.{body_wide}
use Rattle.passage.specs.Ranges.{update_in_range}
use Rattle.book.specs.Entries.{entry_wide, number_of, entries_of}
use Rattle.book.specs.Rules.{withdrawn, standing, no_entry, last_from, next_number}
use Rattle.book.proofs.NumberLaws.{no-number}
use Rattle.book.proofs.StandingLaws.{standing-append}
use Rattle.runs.specs.Runs.{Taken, undone, struck, taken_entries, log_entries, log_standing}
use Rattle.runs.proofs.EntryLaws.{entries_as, entries-standing, entries-marked, entries-wide, standing-as, withdrawn-as, last_as, withdrawn-append, last-append}

-- an update as a message has it
abbrev pub Update : List ℕ → Type 0
Update u = (length u ≡ body_wide) × (update_in_range u ≡ true)

-- what follows from a property of each follows for each
pub each-so : {P Q : List ℕ → Type 0} → ((r : List ℕ) → P r → Q r) → (l : List (List ℕ)) → Each P l → Each Q l
each-so f [] h = tt
each-so f (r ∷ l) h = (f r h.0, each-so f l h.1)

pub updates-wide : (us : List (List ℕ)) → Each Update us → Wide body_wide us
updates-wide = each-so (λ u h. h.0)

-- a message that was noted when n others were
pub record Noted (n : ℕ) (m : Taken) : Type 0 where
  pub follows : m.number ≡ suc n
  pub fits : m.number < 256 ^ 4
  pub filled : 0 < length m.bodies
  pub updates : Each Update m.bodies

-- the messages of a log are numbered on from n
abbrev pub NotedFrom : ℕ → List Taken → Type 0
NotedFrom n [] = Unit {0}
NotedFrom n (m ∷ log) = Noted n m × NotedFrom (suc n) log

pub noted-append : (n : ℕ) (log : List Taken) (m : Taken) → NotedFrom n log → Noted (n + length log) m → NotedFrom n (log ++ m ∷ [])
noted-append n [] m h k = (rw add-zero at k, tt)
noted-append n (x ∷ log) m h k = (h.0, noted-append (suc n) log m h.1 (let e : n + length (x ∷ log) ≡ suc n + length log = omega arith in rw e at k))

-- ---- one message

-- its kind in the book
abbrev pub kind_for : Bool → ℕ
kind_for stands = on stands 2 3

pub taken-entries : (m : Taken) → taken_entries m ≡ entries_as (kind_for m.stands) m.number m.sender m.bodies
taken-entries m = go m.stands
  where
    go : (t : Bool) → taken_entries (record { number = m.number; sender = m.sender; bodies = m.bodies; stands = t }) ≡ entries_as (kind_for t) m.number m.sender m.bodies
    go true = entries-standing m.number m.sender m.bodies
    go false = entries-marked m.number m.sender m.bodies

struck-entries : (n : ℕ) (m : Taken) → taken_entries (struck n m) ≡ entries_as (on (eqb m.number n) 3 (kind_for m.stands)) m.number m.sender m.bodies
struck-entries n m = go (eqb m.number n)
  where
    go : (t : Bool) → taken_entries (on t (undone m) m) ≡ entries_as (on t 3 (kind_for m.stands)) m.number m.sender m.bodies
    go true = entries-marked m.number m.sender m.bodies
    go false = taken-entries m

struck-noted : (n k : ℕ) (m : Taken) → Noted k m → Noted k (struck n m)
struck-noted n k m h = go (eqb m.number n)
  where
    go : (t : Bool) → Noted k (on t (undone m) m)
    go true = record { follows = h.follows; fits = h.fits; filled = h.filled; updates = h.updates }
    go false = h

pub log-struck : (n k : ℕ) (log : List Taken) → NotedFrom k log → NotedFrom k (map (struck n) log)
log-struck n k [] h = tt
log-struck n k (m ∷ log) h = (struck-noted n k m h.0, log-struck n (suc k) log h.1)

-- ---- the whole log

log-append : (xs ys : List Taken) → log_entries (xs ++ ys) ≡ log_entries xs ++ log_entries ys
unfolding log_entries
log-append [] ys = refl
log-append (m ∷ xs) ys = ap (λ (l : List (List ℕ)). taken_entries m ++ l) (log-append xs ys) ∙ sym (append_assoc (taken_entries m) (log_entries xs) (log_entries ys))

pub standing-behind : (xs ys : List Taken) → log_standing (xs ++ ys) ≡ log_standing xs ++ log_standing ys
unfolding log_standing
standing-behind [] ys = refl
standing-behind (m ∷ xs) ys = ap (λ (l : List (List ℕ)). on m.stands m.bodies [] ++ l) (standing-behind xs ys) ∙ sym (append_assoc (on m.stands m.bodies []) (log_standing xs) (log_standing ys))

module _ (log : List Taken) (n sender : ℕ) (bodies : List (List ℕ)) where
  abbrev more : List Taken
  more = log ++ record { number = n; sender = sender; bodies = bodies; stands = true } ∷ []

  pub log-more : log_entries more ≡ log_entries log ++ entries_of n sender bodies
  unfolding log_entries
  log-more = log-append log _ ∙ ap (λ (l : List (List ℕ)). log_entries log ++ l) (append-nil (entries_of n sender bodies))

  pub standing-more : log_standing more ≡ log_standing log ++ bodies
  unfolding log_standing
  standing-more = standing-behind log _ ∙ ap (λ (l : List (List ℕ)). log_standing log ++ l) (append-nil bodies)

pub log-wide : (k : ℕ) (log : List Taken) → NotedFrom k log → Wide entry_wide (log_entries log)
unfolding log_entries
log-wide k [] h = tt
log-wide k (m ∷ log) h =
    each_append (λ (e : List ℕ). length e ≡ entry_wide) (taken_entries m) (log_entries log)
    (rw (taken-entries m) (entries-wide (kind_for m.stands) m.number m.sender m.bodies (updates-wide m.bodies h.0.updates)))
    (log-wide (suc k) log h.1)

-- the standing entries are the rows of the messages that stand
pub log-standing : (k : ℕ) (log : List Taken) → NotedFrom k log → standing (log_entries log) ≡ log_standing log
unfolding log_entries log_standing standing
log-standing k [] h = refl
log-standing k (m ∷ log) h =
    standing-append (taken_entries m) (log_entries log)
    ∙ ap (λ (l : List (List ℕ)). l ++ standing (log_entries log)) one
    ∙ ap (λ (l : List (List ℕ)). on m.stands m.bodies [] ++ l) (log-standing (suc k) log h.1)
  where
    kind : (t : Bool) → on (eqb (kind_for t) 2) m.bodies [] ≡ on t m.bodies []
    kind true = refl
    kind false = refl

    one : standing (taken_entries m) ≡ on m.stands m.bodies []
    one =
        ap standing (taken-entries m)
        ∙ standing-as (kind_for m.stands) m.number m.sender m.bodies (updates-wide m.bodies h.0.updates)
        ∙ kind m.stands

pub standing-updates : (k : ℕ) (log : List Taken) → NotedFrom k log → Each Update (log_standing log)
unfolding log_standing
standing-updates k [] h = tt
standing-updates k (m ∷ log) h = each_append Update (on m.stands m.bodies []) (log_standing log) (go m.stands) (standing-updates (suc k) log h.1)
  where
    go : (t : Bool) → Each Update (on t m.bodies [])
    go true = h.0.updates
    go false = tt

-- the book's withdrawal strikes the message out
pub log-withdrawn : (n k : ℕ) (log : List Taken) → NotedFrom k log → withdrawn n (log_entries log) ≡ log_entries (map (struck n) log)
unfolding log_entries withdrawn
log-withdrawn n k [] h = refl
log-withdrawn n k (m ∷ log) h =
    withdrawn-append n (taken_entries m) (log_entries log)
    ∙ ap (λ (l : List (List ℕ)). l ++ withdrawn n (log_entries log)) one
    ∙ ap (λ (l : List (List ℕ)). taken_entries (struck n m) ++ l) (log-withdrawn n (suc k) log h.1)
  where
    one : withdrawn n (taken_entries m) ≡ taken_entries (struck n m)
    one = ap (withdrawn n) (taken-entries m) ∙ withdrawn-as (kind_for m.stands) m.number m.sender h.0.fits n m.bodies ∙ sym (struck-entries n m)

pub length-withdrawn : (n : ℕ) (es : List (List ℕ)) → length (withdrawn n es) ≡ length es
unfolding withdrawn
length-withdrawn n [] = refl
length-withdrawn n (e ∷ es) = ap suc (length-withdrawn n es)

-- ---- numbers

-- each message has an entry
pub log-least : (k : ℕ) (log : List Taken) → NotedFrom k log → length log ≤ length (log_entries log)
unfolding log_entries
log-least k [] h = omega arith
log-least k (m ∷ log) h =
    let a : 0 < length m.bodies = h.0.filled in
    let b : length (taken_entries m) ≡ length m.bodies = ap length (taken-entries m) ∙ length-map m.bodies _ in
    let c = log-least (suc k) log h.1 in
    let d = length-append (taken_entries m) (log_entries log) in
    omega arith

last-number : (k : ℕ) (log : List Taken) (e : List ℕ) → NotedFrom k log → number_of e ≡ k → number_of (last_from e (log_entries log)) ≡ k + length log
unfolding log_entries last_from
last-number k [] e h i = i ∙ sym (add-zero k)
last-number k (m ∷ log) e h i =
    ap number_of (last-append e (taken_entries m) (log_entries log))
    ∙ last-number (suc k) log (last_from e (taken_entries m)) h.1 one
    ∙ suc-add k (length log)
    ∙ sym (add-suc k (length log))
  where
    one : number_of (last_from e (taken_entries m)) ≡ suc k
    one =
        ap (λ (l : List (List ℕ)). number_of (last_from e l)) (taken-entries m)
        ∙ last_as (kind_for m.stands) m.number m.sender h.0.fits m.bodies e h.0.filled
        ∙ h.0.follows

-- the next number counts every message, withdrawn or not
pub log-next : (log : List Taken) → NotedFrom 0 log → next_number (log_entries log) ≡ suc (length log)
unfolding next_number
log-next log h = let e = last-number 0 log no_entry h no-number in omega arith
