-- Withdraw: what is answered, and what becomes of book, table and counts. Assumes nothing.
use Rattle.std.specs.Prelude.{ℕ, ◌*◌, Bool, ◌&&◌, ◌||◌, List, [], ◌∷◌, eqb, leb, length, Ok, Err}
use Rattle.lists.specs.Logic.{on}
use Rattle.lists.specs.Part.{over}
use Rattle.lists.specs.Rows.{rows_of, flat, store}
use Rattle.passage.specs.Layout.{row_wide}
use Rattle.keys.specs.Replay.{reworked}
use Rattle.update.specs.Rule.{row_rule}
use Rattle.table.specs.Rules.{table_sound, table_room}
use Rattle.book.specs.Entries.{plan_wide, kind_of, sender_of, plan_count, plan_bodies, updates_in}
use Rattle.book.specs.Rules.{book_sound, message_entries, keys_named, withdrawn, row_for}
use Rattle.calls.specs.Answers.{Answer}
use Rattle.calls.specs.declared.Refusal.TheVariants.{Unsound, TableShort, NoMessage, AlreadyWithdrawn, OtherSender}
use Rattle.calls.specs.declared.Counts.{Counts}
use Rattle.calls.specs.Leaves.{Leaves, counts_of, day_of, leaves_by}

-- 1: what a withdrawal is lent
unfoldable pub withdraw_sound : List ℕ → List ℕ → Counts → Bool
withdraw_sound book table c = book_sound c.used book && table_sound c.rows table

-- each passage that message n names is worked out again from the book in which the message is withdrawn
unfoldable pub rows_without : ℕ → List ℕ → ℕ → List ℕ → ℕ → List (List ℕ)
rows_without n book used table m =
    reworked
    (row_for row_rule (plan_bodies used book) (withdrawn n (updates_in used book)))
    (keys_named (message_entries n (updates_in used book)))
    (rows_of row_wide m table)

-- 10, then 12, then 11: there is such a message, the sender is its own or the desk, it stands
abbrev pub unless_barred : List (List ℕ) → ℕ → Answer → Answer
unless_barred [] sender next = Err NoMessage
unless_barred (e ∷ es) sender next = on (eqb sender 0 || eqb sender (sender_of e)) (on (eqb (kind_of e) 3) (Err AlreadyWithdrawn) next) (Err OtherSender)

-- 8, or acceptance
unfoldable pub room_without : ℕ → List ℕ → List ℕ → Counts → Answer
room_without n book table c = on (leb (length (rows_without n book c.used table c.rows)) (table_room table)) (Ok 0) (Err TableShort)

unfoldable pub withdraw_answer : ℕ → ℕ → List ℕ → List ℕ → Counts → Answer
withdraw_answer number sender book table c =
    on (withdraw_sound book table c)
    (unless_barred (message_entries number (updates_in c.used book)) sender (room_without number book table c))
    (Err Unsound)

-- ---- afterwards

-- the book with the message's entries of kind 3
unfoldable pub book_without : ℕ → List ℕ → ℕ → List ℕ
book_without n book used = over (plan_count used book * plan_wide) (flat (withdrawn n (updates_in used book))) book

unfoldable pub table_without : ℕ → List ℕ → ℕ → List ℕ → ℕ → List ℕ
table_without n book used table m = store row_wide m (rows_without n book used table m) table

abbrev pub counts_without : List (List ℕ) → Counts → Counts
counts_without rows c = counts_of c.used (length rows)

-- what an answer leaves: message n withdrawn, or the day as it was
unfoldable pub without_by : Answer → ℕ → List ℕ → List ℕ → Counts → Leaves
without_by answer n book table c =
    leaves_by answer
    (day_of
    (book_without n book c.used)
    (table_without n book c.used table c.rows)
    (counts_without (rows_without n book c.used table c.rows) c))
    (day_of book table c)

unfoldable pub withdraw_leaves : ℕ → ℕ → List ℕ → List ℕ → Counts → Leaves
withdraw_leaves number sender book table c = without_by (withdraw_answer number sender book table c) number book table c
