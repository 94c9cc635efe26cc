-- A withdrawal step by step: where its message stands, and what is answered once nothing bars it. Assumes nothing.
use Rattle.std.specs.Prelude.{◌≡◌, List, map, ℕ, ◌+◌, ◌*◌, ◌≤◌, ◌<◌, drop}
use Rattle.lists.specs.Part.{part, over}
use Rattle.lists.specs.Rows.{rows_of, flat}
use Rattle.sorting.specs.Rules.{key_at, sorted_places}
use Rattle.book.specs.Entries.{entry_wide, body_at, plan_bodies, updates_in}
use Rattle.book.specs.Rules.{message_entries, marked_withdrawn}
use Rattle.calls.specs.declared.Counts.{Counts}
use Rattle.calls.specs.Leaves.{Leaves}
use Rattle.calls.specs.Withdraw.{room_without, book_without, without_by}
use Rattle.withdrawals_replay.specs.inner.Worked.{begun_slot, heard_in, names_at}

-- message n has m entries, from byte `at` of the book on
pub record MessageAt (n used : ℕ) (b : List ℕ) (at m : ℕ) : Type 0 where
  pub entries : message_entries n (updates_in used b) ≡ rows_of entry_wide m (drop at b)
  pub some : 0 < m
  pub within : at + m * entry_wide ≤ used
  pub marks : over at (flat (map marked_withdrawn (rows_of entry_wide m (drop at b)))) b ≡ book_without n b used

-- ---- its passages

-- the keys that its entries name, sorted, each once
unfoldable pub names_in : ℕ → ℕ → List ℕ → List (List ℕ)
names_in at m b = names_at (part at (m * entry_wide) b) (sorted_places (key_at (part at (m * entry_wide) b) body_at entry_wide) m)

-- the slot of a key once message n is withdrawn
unfoldable pub worked_out : ℕ → ℕ → List ℕ → List ℕ → List ℕ
worked_out n used b k = heard_in n (updates_in used b) (begun_slot (plan_bodies used b) k)

-- ---- 8, or acceptance, and what it leaves

abbrev pub room_leaves : ℕ → List ℕ → List ℕ → Counts → Leaves
room_leaves n book table c = without_by (room_without n book table c) n book table c
