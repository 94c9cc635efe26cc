-- A line's end as the code has it, the loop over the lines of a part, and the bytes around them. Assumes nothing.
use Prim.Native.Nat.{ℕ, suc, ◌+◌, ◌-◌, ◌*◌, ◌≤◌, ◌<◌}
use native.Mathlib.Omega.{arith}
use mathlib.Core.Path.{◌≡◌, refl, sym, ap, subst, ◌∙◌}
use mathlib.Core.Bool.{Bool, true, false, ◌&&◌}
use mathlib.Core.List.{List, ◌++◌}
use borrow.Author.Tests.{le-leb, lt-leb, eq-eqb, ne_eqb, ltb-true, ltb-false}
use lib.Dec.{eqb, leb, ltb}
use lib.ListN.{length, take, length-replicate, length-drop}
use lib.Seq.{length-take-le}
use Rattle.std.specs.Prelude.{Ok}
use Rattle.lists.specs.Logic.{on}
use Rattle.lists.specs.Part.{over}
use Rattle.lists.proofs.OverLaws.{over-nil, length_over}
use Rattle.syntax.specs.declared.State as Machine
use Rattle.syntax.specs.Machine.{step}
use Rattle.syntax_scan.specs.Scanned.{scanned}
use Rattle.turbo.specs.Split.{until, past}
use Rattle.turbo.proofs.SplitLaws.{past-drop}
use Rattle.columns.specs.declared.Table.{Table}
use Rattle.columns.specs.Tables.{row_width}
use Rattle.rows.specs.declared.Shape.{Shape}
use Rattle.rows.specs.Shape.{IsShape}
use Rattle.rows.proofs.RestoredLaws.{restored-sound}
use Rattle.reader_step.specs.declared.State as Lines
use Rattle.reader_step.specs.declared.Place.TheVariants.{Under}
use Rattle.reader_step.specs.Step.{moved, line_step, line_staged}
use Rattle.feeds.specs.declared.Feed.{Feed}
use Rattle.feeds.specs.Feed.{Fed, no_bytes, message_of, line_ended, row_stays, skipped, line_read, ended, fed}
use Rattle.feeds.specs.Claims.{FeedFits}
use Rattle.feeds.proofs.KeptLaws.{May, may-facts}
use Rattle.feeds.proofs.StepFitLaws.{Lined, Steps, line-steps, line-length}
use Rattle.feeds.proofs.FitLaws.{bytes_fit, ended-fits}
use Rattle.feeds_part.specs.inner.Lines.{stands_at, longer, fed_as, lent, held_all, rows_stay, line_on}
use Rattle.feeds_part.proofs.HeldLaws.{front-front, read_held, read-lent}
use Rattle.feeds_part.proofs.ByteLaws.{placed, ended-any, ended-placed, ended_at, ended-fault, line-run, rest-run}

pub no-bytes : length no_bytes ≡ 4096
no-bytes = length-replicate {A = ℕ} 4096 0

-- lines of a feed that fits can be read
pub fits-shape : (f : Feed) → FeedFits f → f.lines.place ≡ Under → IsShape (message_of f) f.lines.shape
fits-shape f fits e =
    let h = f.lines.shape in
    let k = fits.shape in
    let fault = (may-facts f fits.may).labels e in
    subst (IsShape (message_of f)) (sym k.1) (restored-sound (message_of f) h.count h.stop h.places (ap (λ (x : Shape). x.fault) (sym k.1) ∙ fault) k.0)

-- n bytes more in the line
longer-fits : (f : Feed) (n : ℕ) → FeedFits f → f.at + n ≤ 65537 → FeedFits (longer n f)
longer-fits f n fits h =
    let a = may-facts f fits.may in
    let p = a.fault in
    let q = a.size in
    bytes_fit f (f.at + n) f.machine f.fault (f.size + n) fits (omega arith) h (omega arith) (omega arith)

-- ---- a line that is read

pub fits_line : (f : Feed) → FeedFits f → (f.lines.line < 4294967296) × (f.lines.rows < 4294967296) × (f.lines.place ≡ Under → IsShape (message_of f) f.lines.shape)
fits_line f fits =
    let m = may-facts f fits.may in
    let a = m.at in
    let b = m.line in
    let c = m.rows in
    (omega arith, omega arith, fits-shape f fits)

-- so too by a table that is the feed's
pub fits-line-as : (f : Feed) → FeedFits f → (t : Table) → t ≡ message_of f → (f.lines.line < 4294967296) × (f.lines.rows < 4294967296) × (f.lines.place ≡ Under → IsShape t f.lines.shape)
fits-line-as f fits t is = let l = fits_line f fits in (l.0, l.1, λ e. subst (λ (u : Table). IsShape u f.lines.shape) (sym is) (l.2 e))

lined : (f : Feed) → FeedFits f → Lined (message_of f) f.lines
lined f fits =
    let m = may-facts f fits.may in
    record { first = m.first; rows = m.rows; form = m.form; wrong = m.wrong; owner = m.owner; known = m.known; labels = m.labels; shape = fits.shape }

pub after-rows : (register l : List ℕ) (f : Feed) (n : Lines.State) → FeedFits f → n ≡ line_step (message_of f) register f.sender f.lines l → (n.rows < 4294967296) × (f.staged < 4294967296)
after-rows register l f n fits e =
    let m = may-facts f fits.may in
    let t = subst (Steps (message_of f) f.lines) (sym e) (line-steps (message_of f) f.lines (lined f fits) register f.sender l) in
    let a = m.at in
    let b = m.line in
    let c = t.lined.rows in
    let d = t.line in
    let g = m.staged in
    let h = m.rows in
    (omega arith, omega arith)

pub stays-more : (t : Table) (before after staged room w : ℕ) → w ≡ row_width t → (ltb before after && (eqb staged before && leb (after * w) room)) ≡ true
    → staged + 1 ≡ on (rows_stay t before after staged room) (staged + 1) staged
stays-more t before after staged room w e h =
    sym (ap (λ (b : Bool). on b (staged + 1) staged) (ap (λ (v : ℕ). ltb before after && (eqb staged before && leb (after * v) room)) (sym e) ∙ h))

pub stays_same : (t : Table) (before after staged room w : ℕ) → w ≡ row_width t → (ltb before after && (eqb staged before && leb (after * w) room)) ≡ false
    → staged ≡ on (rows_stay t before after staged room) (staged + 1) staged
stays_same t before after staged room w e h =
    sym (ap (λ (b : Bool). on b (staged + 1) staged) (ap (λ (v : ℕ). ltb before after && (eqb staged before && leb (after * v) room)) (sym e) ∙ h))

module _ (register l : List ℕ) (f : Feed) (st st' : List ℕ) (n : Lines.State) (step : n ≡ line_step (message_of f) register f.sender f.lines l)
    (area : st' ≡ line_staged (message_of f) register f.sender f.lines l st) (more : ℕ)
    (stays : more ≡ on (rows_stay (message_of f) f.lines.rows n.rows f.staged (length st')) (f.staged + 1) f.staged) where
  same-room : length st' ≡ length st
  same-room = ap length area ∙ line-length (message_of f) register f.sender f.lines st l

  pub line-on : (r : Feed) → r ≡ line_ended f.machine f.long more n f → r ≡ line_on register l f st
  line-on r e =
      e
      ∙ ap (λ (k : ℕ). line_ended f.machine f.long k n f) (stays ∙ ap (λ (k : ℕ). on (rows_stay (message_of f) f.lines.rows n.rows f.staged k) (f.staged + 1) f.staged) same-room)
      ∙ ap (λ (s : Lines.State). line_ended f.machine f.long (on (row_stays (message_of f) f.lines s f.staged st) (f.staged + 1) f.staged) s f) step

-- ---- what the parts of a line's end ask

module _ (f g : Feed) (text : List ℕ) (is : g ≡ longer (length text) f) (room : f.at + length text < 65536) (fits : FeedFits f) where
  pub skip-room : (g.at < 65536) × (g.lines.line < 4294967296)
  skip-room =
      let a = ap (λ (x : Feed). x.at) is in
      let b = ap (λ (x : Feed). x.lines.line) is in
      let c = (fits_line f fits).0 in
      (omega arith, omega arith)

  pub read-room : (g.at < 65536) × FeedFits g
  read-room = (skip-room.0, subst FeedFits (sym is) (longer-fits f (length text) fits (omega arith)))

pub long-room : (f : Feed) (n : ℕ) → f.at + n ≤ 65537 → FeedFits f → (f.at + n ≤ 4294967296) × (f.size + n ≤ 4294967296)
long-room f n h fits = let q = (may-facts f fits.may).size in (omega arith, omega arith)

pub join-room : (f g : Feed) (n m : ℕ) → g ≡ longer n f → g.size < 4096 → m ≡ 4096 → f.size + n ≤ m
join-room f g n m is h e = let a = ap (λ (x : Feed). x.size) is in omega arith

pub joined-room : (f g : Feed) (text line joined : List ℕ) → g.size < 4096 → length line ≡ 4096 → joined ≡ over f.size text line → g.size ≤ length joined
joined-room f g text line joined h e is = let a = ap length is ∙ length_over f.size text line in omega arith

pub text-short : (f g : Feed) (n : ℕ) → g ≡ longer n f → g.size < 4096 → n < 4096
text-short f g n is h = let a = ap (λ (x : Feed). x.size) is in omega arith

-- ---- a line's end

ended-long : (register : List ℕ) (m : Machine.State) (x : Fed) → (x.feed.long ≡ 0 → ⊥) → ended register m x ≡ skipped m x.feed.long x
unfolding ended
ended-long register m x e = rw (ne_eqb x.feed.long 0 e) refl

ended-over : (register : List ℕ) (m : Machine.State) (x : Fed) → x.feed.long ≡ 0 → 4096 ≤ x.feed.size → ended register m x ≡ skipped m x.feed.lines.line x
unfolding ended
ended-over register m x e h = rw (eq-eqb x.feed.long 0 e, le-leb 4096 x.feed.size h) refl

ended-read : (register : List ℕ) (m : Machine.State) (x : Fed) → x.feed.long ≡ 0 → x.feed.size < 4096 → ended register m x ≡ line_read register m (take (x.feed.size - 1) x.line) x
unfolding ended
ended-read register m x e h = rw (eq-eqb x.feed.long 0 e, lt-leb 4096 x.feed.size h) refl

-- a line that has ended leaves no bytes
lent_none : (f : Feed) (line staging : List ℕ) → f.size ≡ 0 → lent f line staging ≡ fed_as f no_bytes staging
lent_none f line staging e = ap (λ (n : ℕ). fed_as f (over 0 (take n line) no_bytes) staging) e ∙ ap (λ (l : List ℕ). fed_as f l staging) (over-nil 0 no_bytes)

module _ (register text : List ℕ) (f : Feed) (line staging after : List ℕ) (g : Feed) (is : g ≡ longer (length text) f) (r : Feed) where
  -- the feed as the rule has it at the line's end
  held : Fed
  held = held_all text (lent f line staging)

  skip-any : (long : ℕ) → r ≡ line_ended g.machine long g.staged (moved g.lines g.lines.place) g
      → lent r after staging ≡ skipped f.machine long (held_all text (lent f line staging))
  skip-any long e =
      let q : r ≡ line_ended f.machine long f.staged (moved f.lines f.lines.place) (longer (length text) f) =
      e ∙ ap (λ (x : Feed). line_ended x.machine long x.staged (moved x.lines x.lines.place) x) is in
      lent_none r after staging (ap (λ (x : Feed). x.size) q) ∙ ap (λ (x : Feed). fed_as x no_bytes staging) q

  pub skip-long : (g.long ≡ 0 → ⊥) → r ≡ line_ended g.machine g.long g.staged (moved g.lines g.lines.place) g
      → lent r after staging ≡ ended register f.machine (held_all text (lent f line staging))
  skip-long h e =
      skip-any g.long e
      ∙ ap (λ (x : Feed). skipped f.machine x.long (held_all text (lent f line staging))) is
      ∙ sym (ended-long register f.machine (held_all text (lent f line staging)) (λ z. h (ap (λ (x : Feed). x.long) is ∙ z)))

  pub skip-over : g.long ≡ 0 → 4096 ≤ g.size → r ≡ line_ended g.machine g.lines.line g.staged (moved g.lines g.lines.place) g
      → lent r after staging ≡ ended register f.machine (held_all text (lent f line staging))
  skip-over h k e =
      let z = ap (λ (x : Feed). x.size) is in
      skip-any g.lines.line e
      ∙ ap (λ (x : Feed). skipped f.machine x.lines.line (held_all text (lent f line staging))) is
      ∙ sym (ended-over register f.machine (held_all text (lent f line staging)) (sym (ap (λ (x : Feed). x.long) is) ∙ h) (omega arith))

  module _ (few : g.size < 4096) (none : g.long ≡ 0) (st : List ℕ) (l : List ℕ) (e : r ≡ line_on register l g staging)
      (s : st ≡ line_staged (message_of g) register g.sender g.lines l staging) where
    pub read-ends : l ≡ take (f.size + length text - 1) (over f.size text (over 0 (take f.size line) no_bytes))
        → lent r after st ≡ ended register f.machine (held_all text (lent f line staging))
    read-ends p =
        let k = take (f.size + length text - 1) (over f.size text (over 0 (take f.size line) no_bytes)) in
        let q : r ≡ line_on register k (longer (length text) f) staging = e ∙ ap (λ (x : Feed). line_on register l x staging) is ∙ ap (λ (y : List ℕ). line_on register y (longer (length text) f) staging) p in
        let t : st ≡ line_staged (message_of f) register f.sender f.lines k staging =
        s ∙ ap (λ (x : Feed). line_staged (message_of x) register x.sender x.lines l staging) is ∙ ap (λ (y : List ℕ). line_staged (message_of f) register f.sender f.lines y staging) p in
        let z = ap (λ (x : Feed). x.size) is in
        lent_none r after st (ap (λ (x : Feed). x.size) q)
        ∙ ap (λ (x : Feed). fed_as x no_bytes st) q
        ∙ ap (fed_as (line_on register k (longer (length text) f) staging) no_bytes) t
        ∙ sym (ended-read register f.machine (held_all text (lent f line staging)) (sym (ap (λ (x : Feed). x.long) is) ∙ none) (omega arith))

-- the bytes that are read are those that are held: a line that lies whole in the part
pub whole-text : (n : ℕ) (text line : List ℕ) → n ≡ 0 → length text < 4096 → length line ≡ 4096
    → take (length text - 1) text ≡ take (n + length text - 1) (over n text (over 0 (take n line) no_bytes))
whole-text n text line e h room =
    let j : length text - 1 ≡ n + length text - 1 = omega arith in
    ap (λ (i : ℕ). take i text) j
    ∙ ap (λ (i : ℕ). take (n + length text - 1) (take i line ++ text)) (sym e)
    ∙ sym (read_held n (n + length text - 1) text line no_bytes (omega (arith, no-bytes)) (omega arith) (omega arith))

-- and one that was put together
pub joined-text : (n size : ℕ) (text line joined : List ℕ) → size ≡ n + length text → size < 4096 → length line ≡ 4096 → joined ≡ over n text line
    → take (length (take size joined) - 1) (take size joined) ≡ take (n + length text - 1) (over n text (over 0 (take n line) no_bytes))
joined-text n size text line joined e h room is =
    let a : length joined ≡ 4096 = ap length is ∙ length_over n text line ∙ room in
    let b : length (take size joined) ≡ size = length-take-le size joined (omega arith) in
    let c : length (take size joined) - 1 ≡ n + length text - 1 = omega arith in
    ap (λ (i : ℕ). take i (take size joined)) c
    ∙ front-front (n + length text - 1) size joined (omega arith)
    ∙ ap (take (n + length text - 1)) is
    ∙ read-lent n (n + length text - 1) text line no_bytes (omega (arith, no-bytes)) (omega arith) (omega arith)
    ∙ sym (read_held n (n + length text - 1) text line no_bytes (omega (arith, no-bytes)) (omega arith) (omega arith))

-- ---- the loop over lines

line-fits : (register text : List ℕ) (f g : Feed) (line staging line' staging' : List ℕ) → FeedFits f → f.at + length text < 65536
    → lent g line' staging' ≡ ended register f.machine (held_all text (lent f line staging)) → FeedFits g
line-fits register text f g line staging line' staging' fits h e =
    let x = held_all text (lent f line staging) in
    subst FeedFits (ap (λ (y : Fed). y.feed) (sym e))
    (ended-fits register f.machine x (longer-fits f (length text) fits (omega arith)) (length_over f.size text (over 0 (take f.size line) no_bytes) ∙ length_over 0 (take f.size line) no_bytes ∙ no-bytes) h)

-- after some lines: f is kept, the bytes `rest` are left, which lead to t; line and staging area are so. `all` is what the rule makes of all bytes, `at` how many they are then
pub record Left (register : List ℕ) (all : Fed) (t : Machine.State) (at first : ℕ) (f : Feed) (line staging rest : List ℕ) : Type 0 where
  pub ghost : Machine.State
  pub offset : ℕ
  pub fits : FeedFits f
  pub room : length line ≡ 4096
  pub bytes : f.at + length rest ≡ at
  pub fault : f.fault ≡ first
  pub free : 0 < length rest → (f.fault ≡ 0) × (f.at + length rest ≤ 65536)
  pub left : scanned ghost rest offset ≡ Ok t
  pub is : all ≡ fed register (placed ghost (lent f line staging)) rest

pub left-start : (register : List ℕ) (t : Machine.State) (f : Feed) (line staging bytes : List ℕ) → length line ≡ 4096 → FeedFits f → scanned f.machine bytes 0 ≡ Ok t
    → (0 < length bytes → (f.fault ≡ 0) × (f.at + length bytes ≤ 65536))
    → Left register (fed register (lent f line staging) bytes) t (f.at + length bytes) f.fault f line staging bytes
left-start register t f line staging bytes room fits scan free =
    record { ghost = f.machine; offset = 0; fits = fits; room = room; bytes = refl; fault = refl; free = free; left = scan; is = refl }

module _ (register : List ℕ) (all : Fed) (t : Machine.State) (at fault : ℕ) (f : Feed) (line staging rest : List ℕ) (now : Left register all t at fault f line staging rest) where
  -- what a line's end asks
  pub left-room : (n : ℕ) → n < length rest → f.at + n < 65536
  left-room n h = let o = (now.free (omega arith)).1 in omega arith

  pub left-few : (f.at + length rest ≤ 65537) × (f.size + length rest ≤ 65537)
  left-few = go (ltb 0 (length rest)) refl
    where
      m : May f
      m = may-facts f now.fits.may

      go : (b : Bool) → ltb 0 (length rest) ≡ b → (f.at + length rest ≤ 65537) × (f.size + length rest ≤ 65537)
      go true e = let o = (now.free (ltb-true 0 (length rest) e)).1 in let q = m.size in (omega arith, omega arith)
      go false e = let z = ltb-false 0 (length rest) e in let p = m.at in let q = m.size in (omega arith, omega arith)

  pub left-turn : (n : ℕ) (text rest' : List ℕ) → n ≡ length (until 10 rest) → n < length rest → text ≡ until 10 rest → rest' ≡ past 10 rest
      → (g : Feed) (line' staging' : List ℕ) → lent g line' staging' ≡ ended register f.machine (held_all text (lent f line staging)) → length line' ≡ 4096
      → Left register all t at fault g line' staging' rest'
  left-turn n text rest' e h p q g line' staging' ends room =
      let x = lent f line staging in
      let o = now.free (omega arith) in
      let r = line-run register rest (placed now.ghost x) t now.offset o.0 o.1 now.left (omega (arith, e)) in
      let l : length text ≡ n = ap length p ∙ sym e in
      let w : g.at ≡ f.at + length text + 1 = ap (λ (y : Fed). y.feed.at) ends ∙ ended_at register f.machine (held_all text x) in
      let v : length rest' ≡ length rest - suc n = ap length q ∙ ap length (past-drop 10 rest) ∙ length-drop (suc (length (until 10 rest))) rest ∙ ap (λ (k : ℕ). length rest - suc k) (sym e) in
      let z : g.fault ≡ f.fault = ap (λ (y : Fed). y.feed.fault) ends ∙ ended-fault register f.machine (held_all text x) in
      let b = now.bytes in
      record {
        ghost = r.ghost;
        offset = r.offset;
        fits = line-fits register text f g line staging line' staging' now.fits (omega (arith, l, o.1)) ends;
        room = room;
        bytes = omega arith;
        fault = z ∙ now.fault;
        free = λ k. (z ∙ o.0, let y = o.1 in omega arith);
        left = ap (λ (y : List ℕ). scanned r.ghost y r.offset) q ∙ r.left;
        is =
            now.is
            ∙ r.is
            ∙ ap (λ (y : List ℕ). fed register (ended register r.ghost (held_all y (placed now.ghost x))) (past 10 rest)) (sym p)
            ∙ ap (λ (y : Fed). fed register y (past 10 rest))
            (ended-any register r.ghost now.ghost (held_all text x) ∙ ended-placed register r.ghost f.machine (held_all text x) ∙ ap (placed r.ghost) (sym ends))
            ∙ ap (fed register (placed r.ghost (lent g line' staging'))) (sym q);
      }

  pub left-shorter : (n : ℕ) (rest' : List ℕ) → n ≡ length (until 10 rest) → n < length rest → rest' ≡ past 10 rest → length rest' < length rest
  left-shorter n rest' e h q =
      let v = ap length q ∙ ap length (past-drop 10 rest) ∙ length-drop (suc (length (until 10 rest))) rest in
      omega arith

  -- no line ends in the rest
  pub left-done : length rest ≤ length (until 10 rest) → (line' : List ℕ) → line' ≡ over f.size rest (over 0 (take f.size line) no_bytes)
      → (g : Feed) → g ≡ stands_at t (longer (length rest) f) → (fed_as g line' staging ≡ all) × (g.at ≡ at) × (g.fault ≡ fault) × (g.machine ≡ t)
  left-done h line' e g is = (
    ap (λ (y : Feed). fed_as y line' staging) is
        ∙ ap (λ (l : List ℕ). fed_as (stands_at t (longer (length rest) f)) l staging) e
        ∙ sym (now.is ∙ rest-run register rest (placed now.ghost (lent f line staging)) t now.offset now.free now.left h),
    ap (λ (y : Feed). y.at) is ∙ now.bytes,
    ap (λ (y : Feed). y.fault) is ∙ now.fault,
    ap (λ (y : Feed). y.machine) is,
  )
