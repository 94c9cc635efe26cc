-- A plan entry by its place, what a turn of the loop over updates decides, and where a message stands among the updates. Assumes nothing.
use Rattle.std.specs.Prelude.{ℕ, suc, ◌+◌, ◌*◌, Bool, true, ◌&&◌, ◌||◌, List, [], ◌∷◌, eqb}
use Rattle.lists.specs.Logic.{on}
use Rattle.lists.specs.Part.{part}
use Rattle.passage.specs.Layout.{body_wide}
use Rattle.book.specs.Entries.{kind_wide, plan_wide, kind_of, number_of, sender_of}
use Rattle.book.specs.Rules.{entry_in_range}

-- the body of the plan entry at place i
abbrev pub plan_body_at : ℕ → List ℕ → List ℕ
plan_body_at i b = part (i * plan_wide + kind_wide) body_wide b

-- the entry e may stand behind one with number n, sender s and kind k
unfoldable pub follows_as : ℕ → ℕ → ℕ → List ℕ → Bool
follows_as n s k e = eqb (number_of e) (n + 1) || (eqb (number_of e) n && eqb (sender_of e) s && eqb (kind_of e) k)

-- entries that may stand behind such a one
unfoldable pub chained_as : ℕ → ℕ → ℕ → List (List ℕ) → Bool
chained_as n s k [] = true
chained_as n s k (e ∷ es) = entry_in_range e && follows_as n s k e && chained_as (number_of e) (sender_of e) (kind_of e) es

-- how many updates stand before the first of message n
unfoldable pub first_entry_of : ℕ → List (List ℕ) → ℕ
first_entry_of n [] = 0
first_entry_of n (e ∷ es) = on (eqb (number_of e) n) 0 (suc (first_entry_of n es))

-- how many updates of message n these begin with
unfoldable pub run_of : ℕ → List (List ℕ) → ℕ
run_of n [] = 0
run_of n (e ∷ es) = on (eqb (number_of e) n) (suc (run_of n es)) 0
