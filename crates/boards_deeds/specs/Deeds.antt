-- What a command leaves: what is held, and the lent register, book and table. Assumes nothing.
use Rattle.std.specs.Prelude.{ℕ, ◌+◌, ◌%◌, ◌^◌, Bool, true, List, [], ◌∷◌, take, nat_lt}
use Rattle.lists.specs.Logic.{on}
use Rattle.script_text.specs.Rules.{appended}
use Rattle.calls.specs.declared.Outcome.{Outcome}
use Rattle.calls.specs.Answers.{is_accepted}
use Rattle.calls.specs.Leaves.{counts_of, Leaves as CallLeaves}
use Rattle.calls.specs.Open.{open_leaves}
use Rattle.calls.specs.Message.{message_leaves}
use Rattle.calls.specs.Withdraw.{withdraw_leaves}
use Rattle.boards_departures.specs.Shown.{is_shown}
use Rattle.boards_saved.specs.declared.Saved.{Saved}
use Rattle.boards_saved.specs.declared.Saved.TheVariants.{Day, Other}
use Rattle.boards_saved.specs.Saved.{day_in, register_from, book_from, table_from}
use Rattle.boards_deeds.specs.declared.Held.{Held}

-- what is held between two lines, and what is lent
pub record State : Type 0 where
  pub held : Held
  pub register : List ℕ
  pub book : List ℕ
  pub table : List ℕ

abbrev pub state : Held → List ℕ → List ℕ → List ℕ → State
state h register book table = record { held = h; register = register; book = book; table = table }

-- one more, in 32 bits
abbrev pub more : ℕ → ℕ
more n = (n + 1) % 2 ^ 32

-- a line more
abbrev pub next_line : Held → Held
next_line h = record { counts = h.counts; register = h.register; day = h.day; line = more h.line; bad = h.bad; refused = h.refused }

-- a line more that is not done
abbrev pub missed : Held → Held
missed h = record { counts = h.counts; register = h.register; day = h.day; line = h.line; bad = more h.bad; refused = h.refused }

-- a line more that is refused
abbrev pub declined : Held → Held
declined h = record { counts = h.counts; register = h.register; day = h.day; line = h.line; bad = h.bad; refused = more h.refused }

-- the counts that a call gives back; an acceptance has a day open, and a refusal is counted
abbrev pub holding : Outcome → Held → Held
holding o h =
    record {
      counts = o.counts;
      register = h.register;
      day = on (is_accepted o.answer) true h.day;
      line = h.line;
      bad = h.bad;
      refused = on (is_accepted o.answer) h.refused (more h.refused);
    }

-- other held, the same bytes
abbrev pub holding_only : Held → State → State
holding_only h s = state h s.register s.book s.table

-- a line that is not done changes nothing but the count of such lines, and a refused question nothing but that of refusals
abbrev pub not_done : State → State
not_done s = holding_only (missed s.held) s

abbrev pub refused_once : State → State
refused_once s = holding_only (declined s.held) s

-- the pair that begins at n is not among the 64
abbrev pub is_full : ℕ → Bool
is_full n = nat_lt 693 n

-- a pair of eleven bytes more, where there is room
abbrev pub pair_held : Held → Held
pair_held h = record { counts = h.counts; register = h.register + 11; day = h.day; line = h.line; bad = h.bad; refused = h.refused }

abbrev pub enrolled_held : Held → Held
enrolled_held h = on (is_full h.register) (missed h) (pair_held h)

-- the sender, then the owner, from n on
unfoldable pub enrolled_register : ℕ → List ℕ → ℕ → List ℕ → List ℕ
enrolled_register sender owner n register = on (is_full n) register (appended (n + 1) owner (appended n (sender ∷ []) register))

abbrev pub enrolled : ℕ → List ℕ → State → State
enrolled sender owner s = state (enrolled_held s.held) (enrolled_register sender owner s.held.register s.register) s.book s.table

-- what a call leaves
abbrev pub left : CallLeaves → State → State
left l s = state (holding l.outcome s.held) s.register l.book l.table

abbrev pub opened_by : List ℕ → List ℕ → State → State
opened_by planning calendar s = left (open_leaves planning calendar s.book s.table s.held.counts) s

-- in the form that is stated; of the register its used part is lent
abbrev pub sent : List ℕ → ℕ → ℕ → State → State
sent dossier sender form s = left (message_leaves dossier sender form (take s.held.register s.register) s.book s.table s.held.counts) s

abbrev pub withdrawn_by : ℕ → ℕ → State → State
withdrawn_by number sender s = left (withdraw_leaves number sender s.book s.table s.held.counts) s

-- a board that is not shown is a refusal
abbrev pub asked_by : List ℕ → ℕ → ℕ → ℕ → State → State
asked_by line date second horizon s = on (is_shown line date second horizon s.held.counts.rows s.table) s (refused_once s)

-- what a file leaves of what is held: its day, where it is one, and that day is open
abbrev pub loaded_held : Saved → Held → Held
loaded_held (Day pairs used rows) h = record { counts = counts_of used rows; register = pairs; day = true; line = h.line; bad = h.bad; refused = h.refused }
loaded_held Other h = declined h

abbrev pub loaded_from : List ℕ → State → State
loaded_from file s = state (loaded_held (day_in file) s.held) (register_from file s.register) (book_from file s.book) (table_from file s.table)
