-- What is claimed of the rules of this crate, for any used bytes and any book. Assumes nothing.
use Rattle.std.specs.Prelude.{◌≡◌, true, List, [], ◌∷◌, ◌++◌, map, ◌↔◌, ℕ, suc, ◌+◌, ◌*◌, ◌^◌, ◌≤◌, ◌<◌, length, take, get_or, set}
use Rattle.lists.specs.Each.{Each}
use Rattle.lists.specs.Part.{part, over}
use Rattle.lists.specs.Rows.{flat}
use Rattle.passage.specs.Layout.{body_wide}
use Rattle.passage.specs.Ranges.{plan_in_range, update_in_range}
use Rattle.keys.specs.Sorted.{sorted_rows}
use Rattle.book.specs.Entries.{plan_wide, number_wide, entry_wide, kind_of, number_of, sender_of, entry_body, plan_entry, entry_of, entries_of, plan_count, plans_in, updates_in, plan_bodies}
use Rattle.book.specs.Rules.{book_room, book_sound, next_number, message_entries, marked_withdrawn, withdrawn, others, standing}
use Rattle.book.specs.Facts.{update_at, BookFacts}
use Rattle.book.specs.inner.Steps.{first_entry_of}

-- sound means these facts and nothing else
abbrev pub SoundExactly : Type 0
SoundExactly = (used : ℕ) (b : List ℕ) → (book_sound used b ≡ true) ↔ BookFacts used b

-- there is room for n used bytes exactly where the lent book has them and they are not too many
abbrev pub RoomExactly : Type 0
RoomExactly = (n : ℕ) (b : List ℕ) → (n ≤ book_room b) ↔ ((n ≤ 294912) × (n ≤ length b))

-- the entries of a sound book are what stands at their places, as many as the facts say
abbrev pub EntriesByPlace : Type 0
EntriesByPlace =
    (used : ℕ) (b : List ℕ) (f : BookFacts used b) →
    (length (plans_in used b) ≡ f.plans)
    × ((i : ℕ) → i < f.plans → get_or (plans_in used b) i [] ≡ part (i * plan_wide) plan_wide b)
    × (length (updates_in used b) ≡ f.updates)
    × ((i : ℕ) → i < f.updates → get_or (updates_in used b) i [] ≡ part (update_at f.plans i) entry_wide b)

-- plan entries first, then updates, nothing between
abbrev pub SplitWhole : Type 0
SplitWhole = (used : ℕ) (b : List ℕ) → book_sound used b ≡ true → take used b ≡ flat (plans_in used b) ++ flat (updates_in used b)

-- the bodies of a message
abbrev pub UpdateBodies : List (List ℕ) → Type 0
UpdateBodies bodies = Each (λ (u : List ℕ). (length u ≡ body_wide) × (update_in_range u ≡ true)) bodies

-- an entry of a message by its fields, and a message has one for each body, in their order
abbrev pub EntriesByField : Type 0
EntriesByField =
    (n sender : ℕ) →
    ((body : List ℕ) → n < 256 ^ number_wide → length body ≡ body_wide →
    let e = entry_of n sender body in
    (length e ≡ entry_wide) × (kind_of e ≡ 2) × (number_of e ≡ n) × (sender_of e ≡ sender) × (entry_body e ≡ body))
    × ((bodies : List (List ℕ)) →
    let es = entries_of n sender bodies in
    (length es ≡ length bodies) × ((i : ℕ) → i < length bodies → get_or es i [] ≡ entry_of n sender (get_or bodies i [])))

-- a message's entries, written behind the used bytes with the next number, leave a sound book with the same plan, and with these updates behind the others
abbrev pub AfterMessage : Type 0
AfterMessage =
    (used : ℕ) (b : List ℕ) (sender : ℕ) (bodies : List (List ℕ)) →
    book_sound used b ≡ true →
    UpdateBodies bodies →
    1 ≤ sender →
    used + length bodies * entry_wide ≤ book_room b →
    let new = entries_of (next_number (updates_in used b)) sender bodies in
    let more = used + length bodies * entry_wide in
    let after = over used (flat new) b in
    (book_sound more after ≡ true)
    × (plans_in more after ≡ plans_in used b)
    × (plan_bodies more after ≡ plan_bodies used b)
    × (updates_in more after ≡ updates_in used b ++ new)

-- with kind 3 written at the entries of message n, the book is sound, the plan is the same, and of the updates that message is withdrawn
abbrev pub AfterWithdrawal : Type 0
AfterWithdrawal =
    (used : ℕ) (b : List ℕ) (n : ℕ) →
    book_sound used b ≡ true →
    let us = updates_in used b in
    let after = over (plan_count used b * plan_wide + first_entry_of n us * entry_wide) (flat (map marked_withdrawn (message_entries n us))) b in
    (book_sound used after ≡ true)
    × (plans_in used after ≡ plans_in used b)
    × (plan_bodies used after ≡ plan_bodies used b)
    × (updates_in used after ≡ withdrawn n us)

-- the bodies that open writes
abbrev pub PlanBodies : List (List ℕ) → Type 0
PlanBodies bodies = Each (λ (u : List ℕ). (length u ≡ body_wide) × (plan_in_range u ≡ true)) bodies

-- plan entries by key strictly rising, written from the start, are a sound book with this plan and no updates
abbrev pub AfterOpen : Type 0
AfterOpen =
    (b : List ℕ) (bodies : List (List ℕ)) →
    PlanBodies bodies →
    sorted_rows bodies ≡ true →
    length bodies * plan_wide ≤ book_room b →
    let used = length bodies * plan_wide in
    let after = over 0 (flat (map plan_entry bodies)) b in
    (book_sound used after ≡ true) × (plan_bodies used after ≡ bodies) × (updates_in used after ≡ [])

-- numbers begin at 1 and rise by at most one from update to update, the next is above them all, and updates of one number share sender and kind
abbrev pub MessagesNumbered : Type 0
MessagesNumbered =
    (used : ℕ) (b : List ℕ) →
    book_sound used b ≡ true →
    let us = updates_in used b in
    (0 < length us → number_of (get_or us 0 []) ≡ 1)
    × ((i : ℕ) → suc i < length us → (number_of (get_or us i []) ≤ number_of (get_or us (suc i) [])) × (number_of (get_or us (suc i) []) ≤ number_of (get_or us i []) + 1))
    × Each (λ (e : List ℕ). (1 ≤ number_of e) × (number_of e < next_number us)) us
    × ((i j : ℕ) → i < length us → j < length us → number_of (get_or us i []) ≡ number_of (get_or us j []) →
    (sender_of (get_or us i []) ≡ sender_of (get_or us j [])) × (kind_of (get_or us i []) ≡ kind_of (get_or us j [])))

-- a withdrawal makes kind 3 of each update of message n, and leaves every other as it is, in its place
abbrev pub WithdrawnByPlace : Type 0
WithdrawnByPlace =
    (n : ℕ) (us : List (List ℕ)) →
    (length (withdrawn n us) ≡ length us)
    × ((i : ℕ) → i < length us →
    let e = get_or us i [] in
    (number_of e ≡ n → get_or (withdrawn n us) i [] ≡ set e 0 3) × ((number_of e ≡ n → ⊥) → get_or (withdrawn n us) i [] ≡ e))

-- whether a body stands, and whether an entry is of message n, is told by the entry alone; the order stays
abbrev pub ToldByEntry : Type 0
ToldByEntry =
    ((xs ys : List (List ℕ)) → standing (xs ++ ys) ≡ standing xs ++ standing ys)
    × ((e : List ℕ) → (kind_of e ≡ 2 → standing (e ∷ []) ≡ entry_body e ∷ []) × ((kind_of e ≡ 2 → ⊥) → standing (e ∷ []) ≡ []))
    × ((n : ℕ) (xs ys : List (List ℕ)) → message_entries n (xs ++ ys) ≡ message_entries n xs ++ message_entries n ys)
    × ((n : ℕ) (e : List ℕ) → (number_of e ≡ n → message_entries n (e ∷ []) ≡ e ∷ []) × ((number_of e ≡ n → ⊥) → message_entries n (e ∷ []) ≡ []))
    × ((n : ℕ) (xs ys : List (List ℕ)) → others n (xs ++ ys) ≡ others n xs ++ others n ys)
    × ((n : ℕ) (e : List ℕ) → (number_of e ≡ n → others n (e ∷ []) ≡ []) × ((number_of e ≡ n → ⊥) → others n (e ∷ []) ≡ e ∷ []))

-- a withdrawn message's bodies stand no longer, as if it had never come; the next number stays
abbrev pub WithdrawnIsAbsent : Type 0
WithdrawnIsAbsent =
    (used : ℕ) (b : List ℕ) (n : ℕ) →
    book_sound used b ≡ true →
    let us = updates_in used b in
    (standing (withdrawn n us) ≡ standing (others n us)) × (next_number (withdrawn n us) ≡ next_number us)

-- all of these
abbrev pub All : Type 0
All =
    SoundExactly
    × RoomExactly
    × EntriesByPlace
    × SplitWhole
    × EntriesByField
    × AfterMessage
    × AfterWithdrawal
    × AfterOpen
    × MessagesNumbered
    × WithdrawnByPlace
    × ToldByEntry
    × WithdrawnIsAbsent
