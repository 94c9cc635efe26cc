-- What the ways through a command come to. Assumes nothing.
use Rattle.std.specs.Prelude.{Ok, Err}
use Rattle.std.proofs.Common.{◌≡◌, ℕ, ◌+◌, ◌<◌, ◌≤◌, Bool, true, false, List, [], ◌∷◌, sym, refl, ap, ◌∙◌, arith, le-ltb, lt-ltb}
use Rattle.script_text.specs.Rules.{appended}
use Rattle.boards_departures.specs.Shown.{is_shown}
use Rattle.calls.specs.declared.Refusal.TheVariants as Answers
use Rattle.calls.specs.declared.Four.{Four}
use Rattle.calls.specs.declared.Outcome.{Outcome}
use Rattle.calls.specs.Answers.{Answer, numbers, is_accepted}
use Rattle.calls.specs.inner.Steps.{four_of}
use Rattle.calls.specs.Leaves.{Leaves as CallLeaves, leaves}
use Rattle.boards_saved.specs.declared.Saved.{Saved}
use Rattle.boards_saved.specs.Saved.{day_in, register_from, book_from, table_from}
use Rattle.boards_deeds.specs.declared.Held.{Held}
use Rattle.boards_deeds.specs.Deeds.{State, state, more, missed, declined, next_line, holding, pair_held, enrolled_held, enrolled_register, left, asked_by, loaded_held, loaded_from}

-- the same held and the same bytes are the same state
pub state-is : (h h' : Held) (r r' b b' t t' : List ℕ) → h ≡ h' → r ≡ r' → b ≡ b' → t ≡ t' → state h r b t ≡ state h' r' b' t'
state-is h h' r r' b b' t t' p q u v i = record { held = p i; register = q i; book = u i; table = v i }

-- other held, the same bytes
pub held-is : (h h' : Held) (r b t : List ℕ) → h ≡ h' → state h r b t ≡ state h' r b t
held-is h h' r b t p = ap (λ (x : Held). state x r b t) p

-- what a call leaves, with its counts held
pub left_is : (o : Outcome) (b t : List ℕ) (l : CallLeaves) (h r : Held) (s : State) → s.held ≡ h → r ≡ holding o h → leaves o b t ≡ l → state r s.register b t ≡ left l s
left_is o b t l h r s e p q =
    state-is
    r
    (holding l.outcome s.held)
    s.register
    s.register
    b
    l.book
    t
    l.table
    (p ∙ ap (λ (x : CallLeaves). holding x.outcome h) q ∙ ap (holding l.outcome) (sym e))
    refl
    (ap (λ (x : CallLeaves). x.book) q)
    (ap (λ (x : CallLeaves). x.table) q)

-- ---- what is held

pub missed-is : (h : Held) (n : ℕ) → n ≡ more h.bad → record { counts = h.counts; register = h.register; day = h.day; line = h.line; bad = n; refused = h.refused } ≡ missed h
missed-is h n e = ap (λ (b : ℕ). record { counts = h.counts; register = h.register; day = h.day; line = h.line; bad = b; refused = h.refused }) e

pub declined-is : (h : Held) (n : ℕ) → n ≡ more h.refused → record { counts = h.counts; register = h.register; day = h.day; line = h.line; bad = h.bad; refused = n } ≡ declined h
declined-is h n e = ap (λ (b : ℕ). record { counts = h.counts; register = h.register; day = h.day; line = h.line; bad = h.bad; refused = b }) e

pub next-is : (h : Held) (n : ℕ) → n ≡ more h.line → record { counts = h.counts; register = h.register; day = h.day; line = n; bad = h.bad; refused = h.refused } ≡ next_line h
next-is h n e = ap (λ (k : ℕ). record { counts = h.counts; register = h.register; day = h.day; line = k; bad = h.bad; refused = h.refused }) e

-- an answer's number says whether it is an acceptance
number-accepted : (a : Answer) → (numbers a).0 ≡ 0 → is_accepted a ≡ true
number-accepted (Ok n) h = refl
number-accepted (Err Answers.Unsound) h = absurd (omega (arith, h))
number-accepted (Err (Answers.TooLong w)) h = absurd (omega (arith, h))
number-accepted (Err (Answers.Syntax i w)) h = absurd (omega (arith, h))
number-accepted (Err (Answers.Long l w)) h = absurd (omega (arith, h))
number-accepted (Err (Answers.Form l w)) h = absurd (omega (arith, h))
number-accepted (Err (Answers.Field l c w)) h = absurd (omega (arith, h))
number-accepted (Err (Answers.Owner l)) h = absurd (omega (arith, h))
number-accepted (Err Answers.StagingShort) h = absurd (omega (arith, h))
number-accepted (Err Answers.BookShort) h = absurd (omega (arith, h))
number-accepted (Err Answers.TableShort) h = absurd (omega (arith, h))
number-accepted (Err Answers.KeyTwice) h = absurd (omega (arith, h))
number-accepted (Err Answers.NoMessage) h = absurd (omega (arith, h))
number-accepted (Err Answers.AlreadyWithdrawn) h = absurd (omega (arith, h))
number-accepted (Err Answers.OtherSender) h = absurd (omega (arith, h))
number-accepted (Err Answers.UnknownForm) h = absurd (omega (arith, h))

number-refused : (a : Answer) → ((numbers a).0 ≡ 0 → ⊥) → is_accepted a ≡ false
number-refused (Ok n) h = absurd (h refl)
number-refused (Err x) h = refl

pub told-accepted : (o : Outcome) (h : Held) (f : Four) → f ≡ four_of (numbers o.answer) → f.number ≡ 0
    → record { counts = o.counts; register = h.register; day = true; line = h.line; bad = h.bad; refused = h.refused } ≡ holding o h
told-accepted o h f e z = rw (number-accepted o.answer (ap (λ (x : Four). x.number) (sym e) ∙ z))

pub told-refused : (o : Outcome) (h d : Held) (f : Four) → f ≡ four_of (numbers o.answer) → (f.number ≡ 0 → ⊥) → d ≡ declined h
    → record { counts = o.counts; register = d.register; day = d.day; line = d.line; bad = d.bad; refused = d.refused } ≡ holding o h
told-refused o h d f e z g =
    ap (λ (x : Held). record { counts = o.counts; register = x.register; day = x.day; line = x.line; bad = x.bad; refused = x.refused }) g
    ∙ rw (number-refused o.answer (λ q. z (ap (λ (x : Four). x.number) e ∙ q))) refl

-- a pair more, or none
pub full-held : (h : Held) → 693 < h.register → missed h ≡ enrolled_held h
full-held h e = rw (lt-ltb 693 h.register e)

pub full-register : (sender : ℕ) (owner : List ℕ) (n : ℕ) (register : List ℕ) → 693 < n → register ≡ enrolled_register sender owner n register
unfolding enrolled_register
full-register sender owner n register e = rw (lt-ltb 693 n e)

pub pair-held : (h : Held) → h.register ≤ 693 → pair_held h ≡ enrolled_held h
pair-held h e = rw (le-ltb 693 h.register e)

pub pair-register : (sender : ℕ) (owner w : List ℕ) (n : ℕ) (register first last : List ℕ)
    → n ≤ 693
    → w ≡ owner
    → first ≡ appended n (sender ∷ []) register
    → last ≡ appended (n + 1) w first
    → last ≡ enrolled_register sender owner n register
unfolding enrolled_register
pair-register sender owner w n register first last e f g k = rw (le-ltb 693 n e, ← f, ← g) k

-- ---- a board

module _ (line : List ℕ) (date second horizon : ℕ) (table : List ℕ) (h : Held) (r : Bool) (e : r ≡ is_shown line date second horizon h.counts.rows table) where
  pub ask-shown : r ≡ true → (register book : List ℕ) → state h register book table ≡ asked_by line date second horizon (state h register book table)
  ask-shown k register book = rw (sym e ∙ k)

  pub ask-refused : (d : Held) → d ≡ declined h → r ≡ false → (register book : List ℕ) → state d register book table ≡ asked_by line date second horizon (state h register book table)
  ask-refused d q k register book = rw (sym e ∙ k) (held-is d (declined h) register book table q)

-- ---- a file

pub loaded-is : (file : List ℕ) (d : Saved) (h r : Held) (s s' b b' t t' : List ℕ) → d ≡ day_in file → s' ≡ register_from file s → b' ≡ book_from file b → t' ≡ table_from file t → r ≡ loaded_held d h
    → state r s' b' t' ≡ loaded_from file (state h s b t)
loaded-is file d h r s s' b b' t t' e p q u v = state-is r _ s' _ b' _ t' _ (v ∙ ap (λ (x : Saved). loaded_held x h) e) p q u
