-- What numbers can tell of a feed: it is read back, and whatever bytes come, it stays so. Assumes nothing.
use Prim.Native.Nat.{ℕ, ◌+◌, ◌-◌, ◌≤◌, ◌<◌}
use native.Mathlib.Omega.{arith}
use mathlib.Core.Path.{◌≡◌, refl, sym, ap, ◌∙◌}
use mathlib.Core.Bool.{Bool, true, false, ◌&&◌}
use mathlib.Core.List.{List, [], ◌∷◌}
use borrow.Author.Tests.{lt-ltb, ltb-true, leb-true, eqb-true}
use lib.Dec.{eqb, leb, ltb}
use lib.ListN.{length, take, drop, get_or, replicate, length-replicate}
use lib.Seq.{take_at, drop_at}
use Rattle.std.specs.Prelude.{Option, Some, None}
use Rattle.lists.specs.Logic.{on}
use Rattle.lists.specs.Part.{part}
use Rattle.lists.proofs.OverLaws.{length_over}
use Rattle.lists.proofs.PartLaws.{length_part}
use Rattle.lists.proofs.LogicLaws.{and-pass, all_pass}
use Rattle.syntax.specs.declared.Kind.{Kind}
use Rattle.syntax.specs.declared.Kind.TheVariants.{Nothing, Group, Table, Rows}
use Rattle.syntax.specs.declared.State as Machine
use Rattle.syntax.specs.declared.State.TheVariants.{Open, Mark, First, Inside, FirstEsc, InsideEsc, Null, Ret}
use Rattle.syntax.specs.Machine.{step}
use Rattle.turbo_lines.specs.Lines.{longest_line}
use Rattle.columns.specs.declared.Table as Wanted
use Rattle.columns.specs.declared.Table.TheVariants as Tables
use Rattle.columns.specs.Tables.{form_of}
use Rattle.rows.specs.declared.Shape.{Shape}
use Rattle.rows.specs.Shape.{shape_at}
use Rattle.rows.proofs.RestoredLaws.{restored-none}
use Rattle.reader_step.specs.declared.State as Lines
use Rattle.reader_step.specs.declared.Place.{Place}
use Rattle.reader_step.specs.declared.Place.TheVariants.{Outside, Awaiting, Under, Other}
use Rattle.reader_step.specs.Place.{is_known, place_number, place_at}
use Rattle.reader_step.specs.Step.{moved, line_step}
use Rattle.feeds.specs.declared.Feed.{Feed}
use Rattle.feeds.specs.Feed.{Fed, no_bytes, message_of, counted, line_ended, runs_over, row_stays, skipped, line_read, ended, held_on, taken, is_open, fed_byte, fed}
use Rattle.feeds.specs.Kept.{kind_number, machine_number, machine_at, kept_of, lines_of, feed_of, feed_may, zeros, is_begun, new_feed}
use Rattle.feeds.specs.Claims.{IsKept, FeedFits, KeptIsRead, BegunFits, NewFits, FedFits}
use Rattle.feeds.proofs.KeptLaws.{May, may-facts, facts-may}
use Rattle.feeds.proofs.StepFitLaws.{Lined, Steps, stays-steps, line-steps, line-length}

-- ---- the machine

machine-back : (m : Machine.State) → machine_at (machine_number m) ≡ m
unfolding machine_at
machine-back (Open Nothing) = refl
machine-back (Open Group) = refl
machine-back (Open Table) = refl
machine-back (Open Rows) = refl
machine-back (Mark Nothing) = refl
machine-back (Mark Group) = refl
machine-back (Mark Table) = refl
machine-back (Mark Rows) = refl
machine-back (First Nothing) = refl
machine-back (First Group) = refl
machine-back (First Table) = refl
machine-back (First Rows) = refl
machine-back (Inside Nothing) = refl
machine-back (Inside Group) = refl
machine-back (Inside Table) = refl
machine-back (Inside Rows) = refl
machine-back (FirstEsc Nothing) = refl
machine-back (FirstEsc Group) = refl
machine-back (FirstEsc Table) = refl
machine-back (FirstEsc Rows) = refl
machine-back (InsideEsc Nothing) = refl
machine-back (InsideEsc Group) = refl
machine-back (InsideEsc Table) = refl
machine-back (InsideEsc Rows) = refl
machine-back (Null Nothing) = refl
machine-back (Null Group) = refl
machine-back (Null Table) = refl
machine-back (Null Rows) = refl
machine-back (Ret Nothing) = refl
machine-back (Ret Group) = refl
machine-back (Ret Table) = refl
machine-back (Ret Rows) = refl

kind-few : (k : Kind) → kind_number k < 4
kind-few Nothing = omega arith
kind-few Group = omega arith
kind-few Table = omega arith
kind-few Rows = omega arith

machine-few : (m : Machine.State) → machine_number m < 32
machine-few (Open k) = let n = kind-few k in omega arith
machine-few (Mark k) = let n = kind-few k in omega arith
machine-few (First k) = let n = kind-few k in omega arith
machine-few (Inside k) = let n = kind-few k in omega arith
machine-few (FirstEsc k) = let n = kind-few k in omega arith
machine-few (InsideEsc k) = let n = kind-few k in omega arith
machine-few (Null k) = let n = kind-few k in omega arith
machine-few (Ret k) = let n = kind-few k in omega arith

place-back : (p : Place) → is_known p ≡ true → place_at (place_number p) ≡ p
place-back Outside h = refl
place-back Awaiting h = refl
place-back Under h = refl
place-back (Other n) h = absurd (let z : ◌≡◌ {A = ℕ} 0 1 = cc in omega arith)

-- ---- written and read back

-- a feed, but for its place, its machine and its shape
abbrev with-shape : Feed → Place → Machine.State → Shape → Feed
with-shape f p m h =
    let s = f.lines in
    record {
      sender = f.sender;
      form = f.form;
      at = f.at;
      machine = m;
      fault = f.fault;
      size = f.size;
      long = f.long;
      staged = f.staged;
      lines = record { place = p; line = s.line; form = s.form; wrong = s.wrong; column = s.column; owner = s.owner; rows = s.rows; shape = h };
    }

-- the places and the zeros behind them
places-back : (f : Feed) → length f.lines.shape.places ≡ 20 → part 18 20 (kept_of f) ≡ f.lines.shape.places
unfolding kept_of part
places-back f room = take_at f.lines.shape.places (replicate 10 0) 20 room

ten-zeros : zeros (replicate 10 0) ≡ true
unfolding zeros
ten-zeros = refl

zeros-back : (f : Feed) → length f.lines.shape.places ≡ 20 → zeros (drop 38 (kept_of f)) ≡ true
unfolding kept_of
zeros-back f room = ap zeros (drop_at f.lines.shape.places (replicate 10 0) 20 room) ∙ ten-zeros

feed-is : (f : Feed) → feed_of (kept_of f) ≡ with-shape f (place_at (place_number f.lines.place)) (machine_at (machine_number f.machine)) (shape_at (message_of f) f.lines.shape.count f.lines.shape.stop (part 18 20 (kept_of f)))
unfolding feed_of lines_of kept_of
feed-is f = refl

feed-back : (f : Feed) → FeedFits f → feed_of (kept_of f) ≡ f
feed-back f fits =
    let h = f.lines.shape in
    feed-is f
    ∙ ap (λ (p : Place). with-shape f p (machine_at (machine_number f.machine)) (shape_at (message_of f) h.count h.stop (part 18 20 (kept_of f)))) (place-back f.lines.place (may-facts f fits.may).known)
    ∙ ap (λ (m : Machine.State). with-shape f f.lines.place m (shape_at (message_of f) h.count h.stop (part 18 20 (kept_of f)))) (machine-back f.machine)
    ∙ ap (λ (ps : List ℕ). with-shape f f.lines.place f.machine (shape_at (message_of f) h.count h.stop ps)) (places-back f fits.shape.0)
    ∙ ap (with-shape f f.lines.place f.machine) (sym fits.shape.1)

begun-is : (f : Feed) → is_begun (kept_of f) ≡ (ltb (machine_number f.machine) 32 && zeros (drop 38 (kept_of f)) && feed_may (feed_of (kept_of f)))
unfolding is_begun kept_of
begun-is f = refl

pub kept_read : KeptIsRead
kept_read f fits =
    let back = feed-back f fits in (
      begun-is f ∙ rw (lt-ltb (machine_number f.machine) 32 (machine-few f.machine), zeros-back f fits.shape.0) (ap feed_may back ∙ fits.may),
      back,
    )

shape-kept : (t : Wanted.Table) (n s : ℕ) (ps : List ℕ) → length ps ≡ 20 → IsKept t (shape_at t n s ps)
unfolding shape_at
shape-kept t n s ps room = (room, refl)

shape_of : (k : List ℕ) → length k ≡ 48 → IsKept (message_of (feed_of k)) (feed_of k).lines.shape
unfolding feed_of lines_of
shape_of k room = shape-kept (Tables.Message (form_of (get_or k 2 0))) (get_or k 16 0) (get_or k 17 0) (part 18 20 k) (length_part 18 20 k (omega arith))

pub begun-fits : BegunFits
unfolding is_begun
begun-fits k room h =
    let t = all_pass (eqb (get_or k 0 0) 1) (ltb (get_or k 4 0) 32 ∷ zeros (drop 38 k) ∷ feed_may (feed_of k) ∷ []) h in
    record { may = t 3; shape = shape_of k room }

-- ---- a feed that begins

pub new-fits : NewFits
new-fits sender form h g =
    record {
      may =
          facts-may (new_feed sender form)
          (record {
            sender = h;
            stated = g;
            at = omega arith;
            fault = omega arith;
            size = omega arith;
            long = omega arith;
            staged = omega arith;
            first = omega arith;
            line = omega arith;
            rows = omega arith;
            form = omega arith;
            wrong = omega arith;
            owner = omega arith;
            known = refl;
            labels = λ e. absurd (let n = ap place_number e in omega arith);
          });
      shape = (length-replicate {A = ℕ} 20 0, sym (restored-none (message_of (new_feed sender form))));
    }

-- ---- small changes

lined-of : (f : Feed) → FeedFits f → Lined (message_of f) f.lines
lined-of f fits =
    let m = may-facts f fits.may in
    record { first = m.first; rows = m.rows; form = m.form; wrong = m.wrong; owner = m.owner; known = m.known; labels = m.labels; shape = fits.shape }

-- more bytes, of no line's end
pub bytes_fit : (f : Feed) (n : ℕ) (machine : Machine.State) (fault size : ℕ) → FeedFits f → f.at ≤ n → n ≤ 65537 → fault ≤ n → size ≤ n
    → FeedFits (record { sender = f.sender; form = f.form; at = n; machine = machine; fault = fault; size = size; long = f.long; staged = f.staged; lines = f.lines })
bytes_fit f n machine fault size fits h k a b =
    let m = may-facts f fits.may in
    let e = m.line in
    record {
      may =
          facts-may (record { sender = f.sender; form = f.form; at = n; machine = machine; fault = fault; size = size; long = f.long; staged = f.staged; lines = f.lines })
          (record {
            sender = m.sender;
            stated = m.stated;
            at = k;
            fault = a;
            size = b;
            long = m.long;
            staged = m.staged;
            first = m.first;
            line = omega arith;
            rows = m.rows;
            form = m.form;
            wrong = m.wrong;
            owner = m.owner;
            known = m.known;
            labels = m.labels;
          });
      shape = fits.shape;
    }

-- a line's end
line-fits : (f : Feed) (machine : Machine.State) (long staged : ℕ) (n : Lines.State) → FeedFits f → f.at < 65536 → Steps (message_of f) f.lines n → long < n.line → staged ≤ n.rows
    → FeedFits (line_ended machine long staged n f)
line-fits f machine long staged n fits h t a b =
    let m = may-facts f fits.may in
    let l = t.lined in
    let e = m.line in
    let g = t.line in
    record {
      may =
          facts-may (line_ended machine long staged n f)
          (record {
            sender = m.sender;
            stated = m.stated;
            at = omega arith;
            fault = let q = m.fault in omega arith;
            size = omega arith;
            long = a;
            staged = b;
            first = l.first;
            line = omega arith;
            rows = l.rows;
            form = l.form;
            wrong = l.wrong;
            owner = l.owner;
            known = l.known;
            labels = l.labels;
          });
      shape = l.shape;
    }

-- ---- bytes

-- it fits, and line and staging area are as long as they were
record Good (n : ℕ) (x : Fed) : Type 0 where
  fits : FeedFits x.feed
  line : length x.line ≡ longest_line
  staging : length x.staging ≡ n

on-good : (b : Bool) (n : ℕ) (x y : Fed) → Good n x → Good n y → Good n (on b x y)
on-good true n x y p q = p
on-good false n x y p q = q

no-bytes : length no_bytes ≡ longest_line
no-bytes = length-replicate {A = ℕ} longest_line 0

count_at : (b : Bool) (at : ℕ) → leb at 65536 ≡ b → at ≤ 65537 → (at ≤ on b (at + 1) at) × (on b (at + 1) at ≤ 65537)
count_at true at e h = let k = leb-true at 65536 e in (omega arith, omega arith)
count_at false at e h = (omega arith, h)

module _ (n : ℕ) (x : Fed) (good : Good n x) where
  m : May x.feed
  m = may-facts x.feed good.fits.may

  counted-good : Good n (record { feed = counted x.feed; line = x.line; staging = x.staging })
  counted-good =
      let c = count_at (leb x.feed.at 65536) x.feed.at refl m.at in
      let p = m.fault in
      let q = m.size in
      record {
        fits = bytes_fit x.feed (counted x.feed).at x.feed.machine x.feed.fault x.feed.size good.fits c.0 c.1 (omega (arith, c.0)) (omega (arith, c.0));
        line = good.line;
        staging = good.staging;
      }

  module _ (room : x.feed.at < 65536) where
    faulted-good : Good n (taken [] 0 None x)
    faulted-good =
        let q = m.size in
        record { fits = bytes_fit x.feed (x.feed.at + 1) x.feed.machine (x.feed.at + 1) x.feed.size good.fits (omega arith) (omega arith) (omega arith) (omega arith); line = good.line; staging = good.staging }

    held-good : (machine : Machine.State) (b : ℕ) → Good n (held_on machine b x)
    held-good machine b =
        let p = m.fault in
        let q = m.size in
        record {
          fits = bytes_fit x.feed (x.feed.at + 1) machine x.feed.fault (x.feed.size + 1) good.fits (omega arith) (omega arith) (omega arith) (omega arith);
          line = length_over x.feed.size (b ∷ []) x.line ∙ good.line;
          staging = good.staging;
        }

    skipped-good : (machine : Machine.State) (long : ℕ) → long ≤ x.feed.lines.line → Good n (skipped machine long x)
    skipped-good machine long h =
        let r = m.staged in
        record {
          fits = line-fits x.feed machine long x.feed.staged (moved x.feed.lines x.feed.lines.place) good.fits room (stays-steps (message_of x.feed) x.feed.lines (lined-of x.feed good.fits)) (omega arith) r;
          line = no-bytes;
          staging = good.staging;
        }

    staged-most : (after : Lines.State) (b : Bool) → x.feed.lines.rows ≤ after.rows → row_stays (message_of x.feed) x.feed.lines after x.feed.staged x.staging ≡ b
        → on b (x.feed.staged + 1) x.feed.staged ≤ after.rows
    staged-most after true h e =
        let p = and-pass (ltb x.feed.lines.rows after.rows) _ e in
        let q = and-pass (eqb x.feed.staged x.feed.lines.rows) _ p.1 in
        let a = ltb-true x.feed.lines.rows after.rows p.0 in
        let c = eqb-true x.feed.staged x.feed.lines.rows q.0 in
        omega arith
    staged-most after false h e = let r = m.staged in omega arith

    read-good : (register : List ℕ) (machine : Machine.State) (l : List ℕ) → Good n (line_read register machine l x)
    read-good register machine l =
        let s = x.feed.lines in
        let after = line_step (message_of x.feed) register x.feed.sender s l in
        let t = line-steps (message_of x.feed) s (lined-of x.feed good.fits) register x.feed.sender l in
        let g = t.line in
        let k = m.long in
        record {
          fits =
              line-fits x.feed machine x.feed.long (on (row_stays (message_of x.feed) s after x.feed.staged x.staging) (x.feed.staged + 1) x.feed.staged) after good.fits room t (omega arith)
              (staged-most after (row_stays (message_of x.feed) s after x.feed.staged x.staging) t.rows refl);
          line = no-bytes;
          staging = line-length (message_of x.feed) register x.feed.sender s x.staging l ∙ good.staging;
        }

    ended-good : (register : List ℕ) (machine : Machine.State) → Good n (ended register machine x)
    unfolding ended
    ended-good register machine =
        let k = m.long in
        on-good (eqb x.feed.long 0) n _ _
        (on-good (runs_over x.feed.size) n _ _ (skipped-good machine x.feed.lines.line (omega arith)) (read-good register machine (take (x.feed.size - 1) x.line)))
        (skipped-good machine x.feed.long (omega arith))

    taken-good : (register : List ℕ) (b : ℕ) (t : Option Machine.State) → Good n (taken register b t x)
    taken-good register b (Some machine) = on-good (eqb b 10) n _ _ (ended-good register machine) (held-good machine b)
    taken-good register b None = faulted-good

  byte-good : (register : List ℕ) (b : ℕ) → Good n (fed_byte register x b)
  unfolding fed_byte
  byte-good register b = go (is_open x.feed) refl
    where
      go : (o : Bool) → is_open x.feed ≡ o → Good n (on o (taken register b (step x.feed.machine b) x) (record { feed = counted x.feed; line = x.line; staging = x.staging }))
      go true e = taken-good (ltb-true x.feed.at 65536 (and-pass (ltb x.feed.at 65536) (eqb x.feed.fault 0) e).0) register b (step x.feed.machine b)
      go false e = counted-good

-- a line's end
pub ended-fits : (register : List ℕ) (machine : Machine.State) (x : Fed) → FeedFits x.feed → length x.line ≡ longest_line → x.feed.at < 65536 → FeedFits (ended register machine x).feed
ended-fits register machine x fits room few = (ended-good (length x.staging) x (record { fits = fits; line = room; staging = refl }) few register machine).fits

fed-good : (register bs : List ℕ) (n : ℕ) (x : Fed) → Good n x → Good n (fed register x bs)
unfolding fed
fed-good register [] n x good = good
fed-good register (b ∷ bs) n x good = fed-good register bs n (fed_byte register x b) (byte-good n x good register b)

pub fed-fits : FedFits
fed-fits register x bs fits room =
    let g = fed-good register bs (length x.staging) x (record { fits = fits; line = room; staging = refl }) in
    (g.fits, g.line, g.staging)
