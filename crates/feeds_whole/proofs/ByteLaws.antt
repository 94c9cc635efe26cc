use Prim.Native.Nat.{ℕ, suc, ◌+◌, ◌-◌, ◌≤◌, ◌<◌}
use native.Mathlib.Omega.{arith}
use mathlib.Core.Path.{◌≡◌, refl, sym, ap, subst, ◌∙◌}
use mathlib.Core.Bool.{Bool, true, false, ◌&&◌}
use mathlib.Core.List.{List, [], ◌∷◌, ◌++◌}
use borrow.Author.Tests.{lt-ltb, le-ltb, leb-true, leb-false, ltb-false, eq-eqb, ne_eqb, eqb-true, eqb-false}
use lib.Dec.{eqb, leb, ltb}
use lib.ListN.{length, take, drop, length-append, length-replicate}
use lib.Seq.{length-take-le, take-append-le}
use Rattle.std.specs.Prelude.{Option, Some, None, Result, Ok, Err, ⊤}
use Rattle.lists.specs.Logic.{on}
use Rattle.lists.specs.Part.{over}
use Rattle.lists.proofs.LogicLaws.{and-false, and-true}
use Rattle.lists.proofs.OverLaws.{over-nil, over-then, onto-fits}
use Rattle.syntax.specs.declared.State as Machine
use Rattle.syntax.specs.Machine.{step, follow, accepting, run}
use Rattle.turbo_lines.specs.Lines.{longest_line, is_long}
use Rattle.turbo_lines.specs.Ended.{without_return, ended_lines}
use Rattle.columns.specs.declared.Table.{Table}
use Rattle.columns.specs.declared.Table.TheVariants as Tables
use Rattle.columns.specs.Tables.{form_of}
use Rattle.reader_step.specs.declared.State as Lines
use Rattle.reader_step.specs.Step.{moved, line_step, line_staged}
use Rattle.reader.specs.Rules.{largest}
use Rattle.feeds.specs.declared.Feed.{Feed}
use Rattle.feeds.specs.Feed.{Fed, no_bytes, message_of, counted, faulted, runs_over, row_stays, skipped, line_read, ended, held_on, taken, is_open, fed_byte, fed}

-- A feed byte by byte: what its bytes make of it is what their lines make of it. Assumes nothing.

-- ---- what only a line's end changes

pub record Core : Type 0 where
  pub long : ℕ
  pub staged : ℕ
  pub lines : Lines.State
  pub staging : List ℕ

abbrev pub core_of : Fed → Core
core_of x = record { long = x.feed.long; staged = x.feed.staged; lines = x.feed.lines; staging = x.staging }

-- a line that is only counted
abbrev pub passed : ℕ → Core → Core
passed long c = record { long = long; staged = c.staged; lines = moved c.lines c.lines.place; staging = c.staging }

-- a line that is read
abbrev pub stepped : Table → List ℕ → ℕ → List ℕ → Core → Core
stepped t register sender l c =
    let after = line_step t register sender c.lines l in
    record {
      long = c.long;
      staged = on (row_stays t c.lines after c.staged c.staging) (c.staged + 1) c.staged;
      lines = after;
      staging = line_staged t register sender c.lines l c.staging;
    }

unfoldable pub line_on : Table → List ℕ → ℕ → Core → List ℕ → Core
line_on t register sender c l = on (eqb c.long 0) (on (is_long l) (passed c.lines.line c) (stepped t register sender l c)) (passed c.long c)

unfoldable pub lines_on : Table → List ℕ → ℕ → Core → List (List ℕ) → Core
lines_on t register sender c [] = c
lines_on t register sender c (l ∷ ls) = lines_on t register sender (line_on t register sender c l) ls

-- ---- the unfinished line

-- it has the bytes h
pub record Held (x : Fed) (h : List ℕ) : Type 0 where
  pub line : x.line ≡ over 0 h no_bytes
  pub size : x.feed.size ≡ length h

-- a line without its last byte
pub without-length : (h : List ℕ) → length (without_return h) ≡ length h - 1
without-length h = length-take-le (length h - 1) h (omega arith)

-- too long by the bytes held is too long by the line's
long_same : (h : List ℕ) → runs_over (length h) ≡ is_long (without_return h)
long_same h = go (leb longest_line (length h)) refl
  where
    go : (b : Bool) → leb longest_line (length h) ≡ b → b ≡ is_long (without_return h)
    go true e = let k : longest_line ≤ length h = leb-true longest_line (length h) e in sym (lt-ltb longest_line (length (without_return h) + 2) (omega (arith, without-length h)))
    go false e = let k : length h < longest_line = leb-false longest_line (length h) e in sym (le-ltb longest_line (length (without_return h) + 2) (omega (arith, without-length h)))

-- and what is read of the bytes held is the line
held-line : (h room : List ℕ) → length h ≤ length room → take (length h - 1) (over 0 h room) ≡ without_return h
unfolding over
held-line h room f = ap (take (length h - 1)) (onto-fits h room f) ∙ take-append-le (length h - 1) h (drop (length h) room) (omega arith)

pub room-length : length no_bytes ≡ longest_line
room-length = length-replicate {A = ℕ} longest_line 0

-- ---- a byte

-- y is x with a byte more, behind which the machine stands at t and the bytes h are held
pub record Turned (x y : Fed) (t : Machine.State) (h : List ℕ) : Type 0 where
  pub sender : y.feed.sender ≡ x.feed.sender
  pub form : y.feed.form ≡ x.feed.form
  pub at : y.feed.at ≡ x.feed.at + 1
  pub machine : y.feed.machine ≡ t
  pub fault : y.feed.fault ≡ x.feed.fault
  pub held : Held y h

on-turned : (b : Bool) (x y z : Fed) (t : Machine.State) (h : List ℕ) → Turned x y t h → Turned x z t h → Turned x (on b y z) t h
on-turned true x y z t h p q = p
on-turned false x y z t h p q = q

skipped-turned : (m : Machine.State) (long : ℕ) (x : Fed) → Turned x (skipped m long x) m []
skipped-turned m long x = record { sender = refl; form = refl; at = refl; machine = refl; fault = refl; held = record { line = sym (over-nil 0 no_bytes); size = refl } }

read-turned : (register : List ℕ) (m : Machine.State) (l : List ℕ) (x : Fed) → Turned x (line_read register m l x) m []
read-turned register m l x = record { sender = refl; form = refl; at = refl; machine = refl; fault = refl; held = record { line = sym (over-nil 0 no_bytes); size = refl } }

pub ended-turned : (register : List ℕ) (m : Machine.State) (x : Fed) → Turned x (ended register m x) m []
unfolding ended
ended-turned register m x =
    on-turned (eqb x.feed.long 0) x _ _ m []
    (on-turned (runs_over x.feed.size) x _ _ m [] (skipped-turned m x.feed.lines.line x) (read-turned register m (take (x.feed.size - 1) x.line) x))
    (skipped-turned m x.feed.long x)

zero-first : (n : ℕ) → n ≡ 0 + n
zero-first n = omega arith

pub held-turned : (m : Machine.State) (b : ℕ) (x : Fed) (h : List ℕ) → Held x h → Turned x (held_on m b x) m (h ++ b ∷ [])
held-turned m b x h now =
    record {
      sender = refl;
      form = refl;
      at = refl;
      machine = refl;
      fault = refl;
      held =
          record {
            line = ap (λ (l : List ℕ). over x.feed.size (b ∷ []) l) now.line ∙ ap (λ (n : ℕ). over n (b ∷ []) (over 0 h no_bytes)) (now.size ∙ zero-first (length h)) ∙ over-then 0 h (b ∷ []) no_bytes;
            size = ap (λ (n : ℕ). n + 1) now.size ∙ sym (length-append h (b ∷ []));
          };
    }

-- the core after a line's end
ended-core : (register : List ℕ) (m : Machine.State) (x : Fed) (h : List ℕ) → Held x h
    → core_of (ended register m x) ≡ line_on (message_of x.feed) register x.feed.sender (core_of x) (without_return h)
unfolding ended line_on
ended-core register m x h now = go (eqb x.feed.long 0) (runs_over x.feed.size) refl
  where
    go : (a b : Bool) → runs_over x.feed.size ≡ b
        → core_of (on a (on b (skipped m x.feed.lines.line x) (line_read register m (take (x.feed.size - 1) x.line) x)) (skipped m x.feed.long x))
        ≡ on a (on (is_long (without_return h)) (passed x.feed.lines.line (core_of x)) (stepped (message_of x.feed) register x.feed.sender (without_return h) (core_of x))) (passed x.feed.long (core_of x))
    go false b e = refl
    go true true e = ap (λ (t : Bool). on t (passed x.feed.lines.line (core_of x)) (stepped (message_of x.feed) register x.feed.sender (without_return h) (core_of x))) (sym e ∙ ap runs_over now.size ∙ long_same h)
    go true false e =
        let few : length h < longest_line = leb-false longest_line (length h) (sym (ap runs_over now.size) ∙ e) in
        let l : take (x.feed.size - 1) x.line ≡ without_return h =
        ap (λ (n : ℕ). take (n - 1) x.line) now.size ∙ ap (take (length h - 1)) now.line ∙ held-line h no_bytes (omega (arith, room-length)) in
        ap (λ (k : List ℕ). stepped (message_of x.feed) register x.feed.sender k (core_of x)) l
        ∙ ap (λ (t : Bool). on t (passed x.feed.lines.line (core_of x)) (stepped (message_of x.feed) register x.feed.sender (without_return h) (core_of x))) (sym e ∙ ap runs_over now.size ∙ long_same h)

-- ---- bytes that are only counted

counted-closed : (f : Feed) → is_open f ≡ false → is_open (counted f) ≡ false
counted-closed f = go (leb f.at largest) (eqb f.fault 0)
  where
    go : (a b : Bool) → (ltb f.at largest && b) ≡ false → (ltb (on a (f.at + 1) f.at) largest && b) ≡ false
    go a false h = and-false (ltb (on a (f.at + 1) f.at) largest)
    go true true h = let k : largest ≤ f.at = ltb-false f.at largest (sym (and-true _) ∙ h) in and-true _ ∙ le-ltb (f.at + 1) largest (omega arith)
    go false true h = h

-- y is x with n bytes more, which change nothing but how many bytes there were
pub record Counted (x y : Fed) (n : ℕ) : Type 0 where
  pub core : core_of y ≡ core_of x
  pub sender : y.feed.sender ≡ x.feed.sender
  pub form : y.feed.form ≡ x.feed.form
  pub machine : y.feed.machine ≡ x.feed.machine
  pub fault : y.feed.fault ≡ x.feed.fault
  pub few : x.feed.at + n ≤ largest + 1 → y.feed.at ≡ x.feed.at + n
  pub many : largest < x.feed.at + n → largest < y.feed.at

abbrev one_counted : Fed → Fed
one_counted x = record { feed = counted x.feed; line = x.line; staging = x.staging }

closed-byte : (register : List ℕ) (x : Fed) (b : ℕ) → is_open x.feed ≡ false → fed_byte register x b ≡ one_counted x
unfolding fed_byte
closed-byte register x b e = rw e refl

count-one : (at n : ℕ) (b : Bool) → leb at largest ≡ b → (at + suc n ≤ largest + 1 → on b (at + 1) at + n ≡ at + suc n) × (largest < at + suc n → largest < on b (at + 1) at + n)
count-one at n true e = (λ h. omega arith, λ h. omega arith)
count-one at n false e = let k : largest < at = leb-false at largest e in (λ h. absurd (omega arith), λ h. omega arith)

counted-one : (x y : Fed) (n : ℕ) → Counted (one_counted x) y n → Counted x y (suc n)
counted-one x y n c =
    let k = count-one x.feed.at n (leb x.feed.at largest) refl in
    record {
      core = c.core;
      sender = c.sender;
      form = c.form;
      machine = c.machine;
      fault = c.fault;
      few = λ h. c.few (omega (arith, k.0 h)) ∙ k.0 h;
      many = λ h. c.many (k.1 h);
    }

pub closed-bytes : (register w : List ℕ) (x : Fed) → is_open x.feed ≡ false → Counted x (fed register x w) (length w)
unfolding fed
closed-bytes register [] x e = record { core = refl; sender = refl; form = refl; machine = refl; fault = refl; few = λ h. omega arith; many = λ h. omega arith }
closed-bytes register (b ∷ w) x e =
    subst (λ (y : Fed). Counted x (fed register y w) (suc (length w))) (sym (closed-byte register x b e))
    (counted-one x (fed register (one_counted x) w) (length w) (closed-bytes register w (one_counted x) (counted-closed x.feed e)))

-- ---- bytes up to the first at fault

-- the front of the bytes w that the machine takes from state s on
unfoldable pub valid : Machine.State → List ℕ → List ℕ
valid s [] = []
valid s (b ∷ w) = follow (step s b) (λ t. b ∷ valid t w) []

-- the verdict once the bytes end
abbrev pub verdict_of : Feed → Result ⊤ ℕ
verdict_of f = on (eqb f.fault 0) (on (accepting f.machine) (Ok tt) (Err f.at)) (Err (f.fault - 1))

-- y is x with the bytes w more, of which some are lines that end, the first of which has the bytes h already
pub record After (register : List ℕ) (x y : Fed) (h w : List ℕ) : Type 0 where
  pub core : core_of y ≡ lines_on (message_of x.feed) register x.feed.sender (core_of x) (ended_lines h (valid x.feed.machine w))
  pub verdict : verdict_of y.feed ≡ run x.feed.machine w x.feed.at
  pub at : y.feed.at ≡ x.feed.at + length w
  pub sender : y.feed.sender ≡ x.feed.sender
  pub form : y.feed.form ≡ x.feed.form

after_none : (register : List ℕ) (x : Fed) (h : List ℕ) → x.feed.fault ≡ 0 → After register x x h []
unfolding valid ended_lines lines_on run
after_none register x h e = record { core = refl; verdict = rw (eq-eqb x.feed.fault 0 e) refl; at = omega arith; sender = refl; form = refl }

-- a byte that the machine takes
lines_more : (register : List ℕ) (x y z : Fed) (t : Machine.State) (h k : List ℕ) (b : ℕ) (w : List ℕ) → Turned x y t k → step x.feed.machine b ≡ Some t
    → lines_on (message_of x.feed) register x.feed.sender (core_of y) (ended_lines k (valid t w)) ≡ lines_on (message_of x.feed) register x.feed.sender (core_of x) (ended_lines h (b ∷ valid t w))
    → After register y z k w → After register x z h (b ∷ w)
unfolding valid run
lines_more register x y z t h k b w now e more rest =
    record {
      core =
          rest.core
          ∙ ap (λ (n : ℕ). lines_on (Tables.Message (form_of n)) register y.feed.sender (core_of y) (ended_lines k (valid y.feed.machine w))) now.form
          ∙ ap (λ (n : ℕ). lines_on (message_of x.feed) register n (core_of y) (ended_lines k (valid y.feed.machine w))) now.sender
          ∙ ap (λ (s : Machine.State). lines_on (message_of x.feed) register x.feed.sender (core_of y) (ended_lines k (valid s w))) now.machine
          ∙ more
          ∙ sym (ap (λ (n : Option Machine.State). lines_on (message_of x.feed) register x.feed.sender (core_of x) (ended_lines h (follow n (λ u. b ∷ valid u w) []))) e);
      verdict =
          rest.verdict
          ∙ ap (λ (s : Machine.State). run s w y.feed.at) now.machine
          ∙ ap (run t w) now.at
          ∙ sym (ap (λ (n : Option Machine.State). follow n (λ u. run u w (x.feed.at + 1)) (Err x.feed.at)) e);
      at = omega (arith, rest.at, now.at);
      sender = rest.sender ∙ now.sender;
      form = rest.form ∙ now.form;
    }

-- at a line's end, and inside one
ended-more : (register : List ℕ) (x : Fed) (t : Machine.State) (h : List ℕ) (b : ℕ) (v : List ℕ) → Held x h → b ≡ 10
    → lines_on (message_of x.feed) register x.feed.sender (core_of (ended register t x)) (ended_lines [] v) ≡ lines_on (message_of x.feed) register x.feed.sender (core_of x) (ended_lines h (b ∷ v))
unfolding ended_lines lines_on
ended-more register x t h b v now e =
    rw (eq-eqb b 10 e) (ap (λ (c : Core). lines_on (message_of x.feed) register x.feed.sender c (ended_lines [] v)) (ended-core register t x h now))

held_more : (register : List ℕ) (x : Fed) (t : Machine.State) (h : List ℕ) (b : ℕ) (v : List ℕ) → (b ≡ 10 → ⊥)
    → lines_on (message_of x.feed) register x.feed.sender (core_of (held_on t b x)) (ended_lines (h ++ b ∷ []) v) ≡ lines_on (message_of x.feed) register x.feed.sender (core_of x) (ended_lines h (b ∷ v))
unfolding ended_lines
held_more register x t h b v e = rw (ne_eqb b 10 e) refl

-- a byte that it does not take
after-fault : (register : List ℕ) (x z : Fed) (h : List ℕ) (b : ℕ) (w : List ℕ) → step x.feed.machine b ≡ None → x.feed.at + suc (length w) ≤ largest
    → Counted (record { feed = faulted x.feed; line = x.line; staging = x.staging }) z (length w) → After register x z h (b ∷ w)
unfolding valid run ended_lines lines_on
after-fault register x z h b w e few c =
    record {
      core = c.core ∙ sym (ap (λ (n : Option Machine.State). lines_on (message_of x.feed) register x.feed.sender (core_of x) (ended_lines h (follow n (λ u. b ∷ valid u w) []))) e);
      verdict =
          ap (λ (n : ℕ). on {A = Result ⊤ ℕ} (eqb n 0) (on (accepting z.feed.machine) (Ok tt) (Err z.feed.at)) (Err (n - 1))) c.fault
          ∙ fault-one x.feed.at (on (accepting z.feed.machine) (Ok tt) (Err z.feed.at))
          ∙ sym (ap (λ (n : Option Machine.State). follow n (λ u. run u w (x.feed.at + 1)) (Err x.feed.at)) e);
      at = let k = c.few (omega arith) in omega arith;
      sender = c.sender;
      form = c.form;
    }
  where
    fault-one : (n : ℕ) (v : Result ⊤ ℕ) → on (eqb (n + 1) 0) v (Err (n + 1 - 1)) ≡ Err n
    fault-one n v = rw (ne_eqb (n + 1) 0 (λ z. omega arith)) (ap Err (omega arith))

open-byte : (register : List ℕ) (x : Fed) (b : ℕ) (n : Option Machine.State) → x.feed.at < largest → x.feed.fault ≡ 0 → step x.feed.machine b ≡ n → fed_byte register x b ≡ taken register b n x
unfolding fed_byte
open-byte register x b n h e s = rw (lt-ltb x.feed.at largest h, eq-eqb x.feed.fault 0 e, s) refl

fault-closed : (f : Feed) → is_open (faulted f) ≡ false
fault-closed f = ap (λ (b : Bool). ltb (f.at + 1) largest && b) (ne_eqb (f.at + 1) 0 (λ z. omega arith)) ∙ and-false (ltb (f.at + 1) largest)

pub fed-bytes : (register w : List ℕ) (x : Fed) (h : List ℕ) → x.feed.fault ≡ 0 → x.feed.at + length w ≤ largest → Held x h → After register x (fed register x w) h w
unfolding fed
fed-bytes register [] x h e few now = after_none register x h e
fed-bytes register (b ∷ w) x h e few now = go (step x.feed.machine b) refl (eqb b 10) refl (λ y k. fed-bytes register w y k)
  where
    go : (n : Option Machine.State) → step x.feed.machine b ≡ n → (l : Bool) → eqb b 10 ≡ l
        → ((y : Fed) (k : List ℕ) → y.feed.fault ≡ 0 → y.feed.at + length w ≤ largest → Held y k → After register y (fed register y w) k w)
        → After register x (fed register (fed_byte register x b) w) h (b ∷ w)
    go None s l t ih =
        subst (λ (y : Fed). After register x (fed register y w) h (b ∷ w)) (sym (open-byte register x b None (omega arith) e s))
        (after-fault register x (fed register (record { feed = faulted x.feed; line = x.line; staging = x.staging }) w) h b w s few
        (closed-bytes register w (record { feed = faulted x.feed; line = x.line; staging = x.staging }) (fault-closed x.feed)))
    go (Some m) s true t ih =
        let turn = ended-turned register m x in
        subst (λ (y : Fed). After register x (fed register y w) h (b ∷ w)) (sym (open-byte register x b (Some m) (omega arith) e s ∙ ap (λ (c : Bool). on c (ended register m x) (held_on m b x)) t))
        (lines_more register x (ended register m x) (fed register (ended register m x) w) m h [] b w turn s (ended-more register x m h b (valid m w) now (eqb-true b 10 t))
        (ih (ended register m x) [] (turn.fault ∙ e) (omega (arith, turn.at)) turn.held))
    go (Some m) s false t ih =
        let turn = held-turned m b x h now in
        subst (λ (y : Fed). After register x (fed register y w) h (b ∷ w)) (sym (open-byte register x b (Some m) (omega arith) e s ∙ ap (λ (c : Bool). on c (ended register m x) (held_on m b x)) t))
        (lines_more register x (held_on m b x) (fed register (held_on m b x) w) m h (h ++ b ∷ []) b w turn s (held_more register x m h b (valid m w) (eqb-false b 10 t))
        (ih (held_on m b x) (h ++ b ∷ []) (turn.fault ∙ e) (omega (arith, turn.at)) turn.held))

-- ---- parts

pub fed-append : (register a b : List ℕ) (x : Fed) → fed register x (a ++ b) ≡ fed register (fed register x a) b
unfolding fed
fed-append register [] b x = refl
fed-append register (y ∷ a) b x = fed-append register a b (fed_byte register x y)
