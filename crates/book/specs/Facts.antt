-- What it means that a book is sound, fact by fact, by the places of its bytes. Assumes nothing.
use Rattle.std.specs.Prelude.{◌≡◌, List, ◌⊎◌, ℕ, ◌+◌, ◌*◌, ◌≤◌, ◌<◌, length, get_or}
use Rattle.lists.specs.Part.{part}
use Rattle.lists.specs.BigEndian.{number}
use Rattle.passage.specs.Layout.{key_wide, body_wide}
use Rattle.passage.specs.Facts.{PlanFacts, UpdateFacts}
use Rattle.std.specs.declared.cmp.Ordering.TheVariants.{Less}
use Rattle.keys.specs.Keys.{cmp}
use Rattle.book.specs.Entries.{kind_wide, plan_wide, number_offset, number_wide, sender_offset, body_at, entry_wide}

-- ---- the fields of the entry of b that begins at p

abbrev pub entry_kind_at : List ℕ → ℕ → ℕ
entry_kind_at b p = get_or b p 0

abbrev pub entry_number_at : List ℕ → ℕ → ℕ
entry_number_at b p = number (part (p + number_offset) number_wide b)

abbrev pub sender_at : List ℕ → ℕ → ℕ
sender_at b p = get_or b (p + sender_offset) 0

-- the key of a plan entry
abbrev pub plan_key_at : List ℕ → ℕ → List ℕ
plan_key_at b p = part (p + kind_wide) key_wide b

-- ---- one entry

-- of the plan entry that begins at p
pub record PlanEntryFacts (b : List ℕ) (p : ℕ) : Type 0 where
  pub kind : entry_kind_at b p ≡ 1
  pub body : PlanFacts (part (p + kind_wide) body_wide b)

-- of the update that begins at p; its sender is a byte, so 1 to 255
pub record UpdateEntryFacts (b : List ℕ) (p : ℕ) : Type 0 where
  pub kind : (entry_kind_at b p ≡ 2) ⊎ (entry_kind_at b p ≡ 3)
  pub sender : 1 ≤ sender_at b p
  pub body : UpdateFacts (part (p + body_at) body_wide b)

-- the update at q comes behind the one at p: it begins the next message, or goes on with the same, of one sender and one kind
abbrev pub ComesBehind : List ℕ → ℕ → ℕ → Type 0
ComesBehind b p q =
    (entry_number_at b q ≡ entry_number_at b p + 1)
    ⊎ ((entry_number_at b q ≡ entry_number_at b p) × (sender_at b q ≡ sender_at b p) × (entry_kind_at b q ≡ entry_kind_at b p))

-- ---- the book

-- where update i begins, behind n plan entries
abbrev pub update_at : ℕ → ℕ → ℕ
update_at n i = n * plan_wide + i * entry_wide

-- of the used bytes of b: so many plan entries, then so many updates, and nothing else
pub record BookFacts (used : ℕ) (b : List ℕ) : Type 0 where
  pub plans : ℕ
  pub updates : ℕ
  pub lent : used ≤ length b
  pub size : used ≤ 294912
  pub whole : used ≡ update_at plans updates
  pub plan-entries : (i : ℕ) → i < plans → PlanEntryFacts b (i * plan_wide)
  pub keys-rise : (i : ℕ) → i + 1 < plans → cmp (plan_key_at b (i * plan_wide)) (plan_key_at b ((i + 1) * plan_wide)) ≡ Less
  pub update-entries : (i : ℕ) → i < updates → UpdateEntryFacts b (update_at plans i)
  pub first-number : 0 < updates → entry_number_at b (update_at plans 0) ≡ 1
  pub numbers-go-on : (i : ℕ) → i + 1 < updates → ComesBehind b (update_at plans i) (update_at plans (i + 1))
