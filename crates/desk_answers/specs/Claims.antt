-- What is certain of the numbers of an answer, for any lent bytes and numbers. Assumes nothing.
use Rattle.std.specs.Prelude.{ℕ, ◌≡◌, true, ◌||◌, List, [], ◌∷◌, eqb, length, get_or}
use Rattle.lists.specs.Logic.{within}
use Rattle.calls.specs.declared.Outcome.{Outcome}
use Rattle.calls.specs.Claims.{is_one_of}
use Rattle.calls.specs.Leaves.{counts_of}
use Rattle.calls.specs.Message.{message_leaves}
use Rattle.calls.specs.Withdraw.{withdraw_leaves}
use Rattle.calls.specs.Open.{open_leaves}
use Rattle.calls.specs.End.{cleared, end_leaves}
use Rattle.feeds.specs.Feeding.{feed_leaves}
use Rattle.desk_answers.specs.Answered.{outcome_number, answered, Told, told_of, end_told_of}

-- an answer of a call on the day is six numbers, and the one returned is the first
abbrev pub NumbersOfAnswer : Type 0
NumbersOfAnswer = (o : Outcome) → (length (answered o) ≡ 6) × (get_or (answered o) 0 0 ≡ outcome_number o)

-- what a refused call gives back, by the number returned: both counts in the answer, the book and the table as they were
abbrev pub FaceGivesBack : Told → ℕ → ℕ → List ℕ → List ℕ → Type 0
FaceGivesBack t used rows book table =
    (t.number ≡ 0 → ⊥) → (get_or t.answer 4 0 ≡ used) × (get_or t.answer 5 0 ≡ rows) × (t.book ≡ book) × (t.table ≡ table)

abbrev pub OpenGivesBack : Type 0
OpenGivesBack =
    (planning calendar book table : List ℕ) (used rows : ℕ)
    → FaceGivesBack (told_of (open_leaves planning calendar book table (counts_of used rows))) used rows book table

abbrev pub MessageGivesBack : Type 0
MessageGivesBack =
    (dossier register book table : List ℕ) (sender form used rows : ℕ)
    → FaceGivesBack (told_of (message_leaves dossier sender form register book table (counts_of used rows))) used rows book table

abbrev pub WithdrawGivesBack : Type 0
WithdrawGivesBack =
    (book table : List ℕ) (number sender used rows : ℕ)
    → FaceGivesBack (told_of (withdraw_leaves number sender book table (counts_of used rows))) used rows book table

-- so does a refused end of a dossier in parts, and the feed's numbers are as they were
abbrev pub EndGivesBack : Type 0
EndGivesBack =
    (register staging book table : List ℕ) (used rows : ℕ) (feed : List ℕ)
    → let t = end_told_of (end_leaves register staging book table (counts_of used rows) feed) in
    (t.number ≡ 0 → ⊥)
    → (get_or t.answer 4 0 ≡ used) × (get_or t.answer 5 0 ≡ rows) × (t.book ≡ book) × (t.table ≡ table) × (t.feed ≡ feed)

-- a part that is refused changes nothing
abbrev pub FeedGivesBack : Type 0
FeedGivesBack =
    (part register staging line feed : List ℕ)
    → let t = feed_leaves part register staging line feed in
    (t.answer ≡ 0 → ⊥) → (t.kept ≡ feed) × (t.line ≡ line) × (t.staging ≡ staging)

-- an accepted end leaves all the feed's numbers zero, and these can neither be fed nor ended: both return 1
abbrev pub EndedOnce : Type 0
EndedOnce =
    (register staging book table : List ℕ) (used rows : ℕ) (feed : List ℕ)
    → let t = end_told_of (end_leaves register staging book table (counts_of used rows) feed) in
    (t.number ≡ 0 → t.feed ≡ cleared)
    × ((end_told_of (end_leaves register staging book table (counts_of used rows) cleared)).number ≡ 1)
    × ((part line : List ℕ) → (feed_leaves part register staging line cleared).answer ≡ 1)

-- the number returned is one of document 01's list for the call
abbrev pub FaceNumbersListed : Type 0
FaceNumbersListed =
    (planning calendar dossier register book table : List ℕ) (number sender form used rows : ℕ)
    → (is_one_of (0 ∷ 2 ∷ 3 ∷ 15 ∷ 4 ∷ 5 ∷ 7 ∷ 9 ∷ 8 ∷ []) (told_of (open_leaves planning calendar book table (counts_of used rows))).number ≡ true)
    × (is_one_of (0 ∷ 1 ∷ 18 ∷ 2 ∷ 3 ∷ 15 ∷ 4 ∷ 5 ∷ 6 ∷ 7 ∷ 8 ∷ []) (told_of (message_leaves dossier sender form register book table (counts_of used rows))).number ≡ true)
    × (is_one_of (0 ∷ 1 ∷ 10 ∷ 12 ∷ 11 ∷ 8 ∷ []) (told_of (withdraw_leaves number sender book table (counts_of used rows))).number ≡ true)

-- of a part fed, and of the end
abbrev pub FeedNumbersListed : Type 0
FeedNumbersListed =
    (part register staging line book table : List ℕ) (used rows : ℕ) (feed : List ℕ)
    → (is_one_of (0 ∷ 1 ∷ []) (feed_leaves part register staging line feed).answer ≡ true)
    × (is_one_of (0 ∷ 1 ∷ 18 ∷ 2 ∷ 3 ∷ 15 ∷ 4 ∷ 5 ∷ 6 ∷ 14 ∷ 7 ∷ 8 ∷ []) (end_told_of (end_leaves register staging book table (counts_of used rows) feed)).number ≡ true)

-- open names the dossier, 1 or 2, exactly with 2 to 5 or 15; the other calls name none
abbrev pub DossierNamed : Type 0
DossierNamed =
    (planning calendar dossier register book table : List ℕ) (number sender form used rows : ℕ)
    → let t = told_of (open_leaves planning calendar book table (counts_of used rows)) in
    (is_one_of (1 ∷ 2 ∷ []) (get_or t.answer 3 0) ≡ (within 2 5 t.number || eqb t.number 15))
    × (is_one_of (0 ∷ 1 ∷ 2 ∷ []) (get_or t.answer 3 0) ≡ true)
    × (get_or (told_of (message_leaves dossier sender form register book table (counts_of used rows))).answer 3 0 ≡ 0)
    × (get_or (told_of (withdraw_leaves number sender book table (counts_of used rows))).answer 3 0 ≡ 0)

-- all of these
abbrev pub All : Type 0
All =
    NumbersOfAnswer
    × OpenGivesBack
    × MessageGivesBack
    × WithdrawGivesBack
    × EndGivesBack
    × FeedGivesBack
    × EndedOnce
    × FaceNumbersListed
    × FeedNumbersListed
    × DossierNamed
