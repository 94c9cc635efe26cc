-- Bytes fed one after another, taken together: those of a line, a line's end, those that are only counted. Assumes nothing.
use Prim.Native.Nat.{ℕ, suc, ◌+◌, ◌-◌, ◌≤◌, ◌<◌}
use native.Mathlib.Omega.{arith}
use mathlib.Core.Path.{◌≡◌, refl, sym, ap, ◌∙◌}
use mathlib.Core.Bool.{Bool, true, false, ◌&&◌}
use mathlib.Core.List.{List, [], ◌∷◌, ◌++◌}
use borrow.Author.Tests.{lt-ltb, le-ltb, eq-eqb, ne_eqb, ltb-true, ltb-false, leb-true, leb-false}
use lib.Dec.{eqb, leb, ltb}
use lib.ListN.{length, take, drop, get_or, take-append-drop}
use lib.Seq.{drop-cons, length-take-le}
use Rattle.std.specs.Prelude.{Option, Some, None, Result, Ok, Err}
use Rattle.lists.specs.Logic.{on}
use Rattle.lists.specs.Part.{over}
use Rattle.lists.proofs.OverLaws.{over-nil, over-then}
use Rattle.lists.proofs.LogicLaws.{and-false, and-true}
use Rattle.syntax.specs.declared.State as Machine
use Rattle.syntax.specs.Machine.{step, follow}
use Rattle.syntax_scan.specs.Scanned.{scanned, and_then}
use Rattle.syntax_scan.proofs.ScannedLaws.{scanned-append, stuck-byte}
use Rattle.turbo.specs.Split.{until, past}
use Rattle.reader.specs.Rules.{largest}
use Rattle.feeds.specs.declared.Feed.{Feed}
use Rattle.feeds.specs.Feed.{Fed, counted, faulted, runs_over, skipped, line_read, ended, held_on, is_open, fed_byte, fed}
use Rattle.feeds_part.specs.inner.Lines.{stands_at, moved_to, counted_by, fed_as, held_all}

-- ---- scans

pub stuck-to : {t : Machine.State} {j : ℕ} → Err j ≡ Ok t → ⊥
stuck-to e = let z : ◌≡◌ {A = ℕ} 0 1 = ap code e in omega arith
  where
    code : Result Machine.State ℕ → ℕ
    code (Err k) = 0
    code (Ok u) = 1

to_same : (s t : Machine.State) → ◌≡◌ {A = Result Machine.State ℕ} (Ok s) (Ok t) → s ≡ t
to_same s t e = ap state e
  where
    state : Result Machine.State ℕ → Machine.State
    state (Err k) = s
    state (Ok u) = u

-- ---- a byte

abbrev pub placed : Machine.State → Fed → Fed
placed m x = fed_as (stands_at m x.feed) x.line x.staging

module _ (register : List ℕ) (x : Fed) (b : ℕ) where
  module _ (e : x.feed.fault ≡ 0) (h : x.feed.at < largest) where
    held-byte : (m : Machine.State) → step x.feed.machine b ≡ Some m → eqb b 10 ≡ false → fed_byte register x b ≡ held_on m b x
    unfolding fed_byte
    held-byte m s t = rw (lt-ltb x.feed.at largest h, eq-eqb x.feed.fault 0 e, s, t) refl

    end-byte : (m : Machine.State) → step x.feed.machine b ≡ Some m → eqb b 10 ≡ true → fed_byte register x b ≡ ended register m x
    unfolding fed_byte
    end-byte m s t = rw (lt-ltb x.feed.at largest h, eq-eqb x.feed.fault 0 e, s, t) refl

    pub bad-byte : step x.feed.machine b ≡ None → fed_byte register x b ≡ fed_as (faulted x.feed) x.line x.staging
    unfolding fed_byte
    bad-byte s = rw (lt-ltb x.feed.at largest h, eq-eqb x.feed.fault 0 e, s) refl

  closed-byte : is_open x.feed ≡ false → fed_byte register x b ≡ fed_as (counted x.feed) x.line x.staging
  unfolding fed_byte
  closed-byte e = rw e refl

-- ---- bytes of a line

-- x with another count of bytes, size and line
abbrev within : Fed → Machine.State → ℕ → ℕ → List ℕ → Fed
within x m a s l =
    let f = x.feed in
    fed_as (record { sender = f.sender; form = f.form; at = a; machine = m; fault = f.fault; size = s; long = f.long; staged = f.staged; lines = f.lines }) l x.staging

within_same : (x : Fed) (m : Machine.State) (a b s t : ℕ) (l k : List ℕ) → a ≡ b → s ≡ t → l ≡ k → within x m a s l ≡ within x m b t k
within_same x m a b s t l k p q r = ap (λ (n : ℕ). within x m n s l) p ∙ ap (λ (n : ℕ). within x m b n l) q ∙ ap (within x m b t) r

held_none : (x : Fed) → held_all [] x ≡ x
held_none x =
    within_same x x.feed.machine (x.feed.at + 0) x.feed.at (x.feed.size + 0) x.feed.size (over x.feed.size [] x.line) x.line
    (omega arith) (omega arith) (over-nil x.feed.size x.line)

held_more : (m : Machine.State) (b : ℕ) (l : List ℕ) (x : Fed) → held_all l (held_on m b x) ≡ placed m (held_all (b ∷ l) x)
held_more m b l x =
    within_same x m (x.feed.at + 1 + length l) (x.feed.at + suc (length l)) (x.feed.size + 1 + length l) (x.feed.size + suc (length l))
    (over (x.feed.size + 1) l (over x.feed.size (b ∷ []) x.line)) (over x.feed.size (b ∷ l) x.line)
    (omega arith) (omega arith) (over-then x.feed.size (b ∷ []) l x.line)

-- a line's end does not look at the machine before it
pub ended-any : (register : List ℕ) (g m : Machine.State) (x : Fed) → ended register g (placed m x) ≡ ended register g x
unfolding ended
ended-any register g m x = refl

on-placed : (b : Bool) (g : Machine.State) (x y : Fed) → on b (placed g x) (placed g y) ≡ placed g (on b x y)
on-placed true g x y = refl
on-placed false g x y = refl

pub ended-placed : (register : List ℕ) (g m : Machine.State) (x : Fed) → ended register g x ≡ placed g (ended register m x)
unfolding ended
ended-placed register g m x =
    let a = skipped m x.feed.lines.line x in
    let b = line_read register m (take (x.feed.size - 1) x.line) x in
    let c = skipped m x.feed.long x in
    ap (λ (y : Fed). on (eqb x.feed.long 0) y (placed g c)) (on-placed (runs_over x.feed.size) g a b)
    ∙ on-placed (eqb x.feed.long 0) g (on (runs_over x.feed.size) a b) c

-- what a line's end changes, in numbers
on-number : (b : Bool) (p : Fed → ℕ) (x y : Fed) (n : ℕ) → p x ≡ n → p y ≡ n → p (on b x y) ≡ n
on-number true p x y n h k = h
on-number false p x y n h k = k

module _ (register : List ℕ) (m : Machine.State) (x : Fed) (p : Fed → ℕ) (n : ℕ) where
  ended-number : ((long : ℕ) → p (skipped m long x) ≡ n) → ((l : List ℕ) → p (line_read register m l x) ≡ n) → p (ended register m x) ≡ n
  unfolding ended
  ended-number h k =
      on-number (eqb x.feed.long 0) p _ _ n (on-number (runs_over x.feed.size) p _ _ n (h x.feed.lines.line) (k (take (x.feed.size - 1) x.line))) (h x.feed.long)

pub ended_at : (register : List ℕ) (m : Machine.State) (x : Fed) → (ended register m x).feed.at ≡ x.feed.at + 1
ended_at register m x = ended-number register m x (λ y. y.feed.at) (x.feed.at + 1) (λ _. refl) (λ _. refl)

pub ended-fault : (register : List ℕ) (m : Machine.State) (x : Fed) → (ended register m x).feed.fault ≡ x.feed.fault
ended-fault register m x = ended-number register m x (λ y. y.feed.fault) x.feed.fault (λ _. refl) (λ _. refl)

-- y: a line with the bytes u ends, and the bytes p are left, which lead to t
pub record Ran (register : List ℕ) (x y : Fed) (u p : List ℕ) (t : Machine.State) : Type 0 where
  pub ghost : Machine.State
  pub offset : ℕ
  pub left : scanned ghost p offset ≡ Ok t
  pub is : y ≡ fed register (ended register ghost (held_all u x)) p

pub line-run : (register l : List ℕ) (x : Fed) (t : Machine.State) (i : ℕ) → x.feed.fault ≡ 0 → x.feed.at + length l ≤ largest → scanned x.feed.machine l i ≡ Ok t
    → length (until 10 l) < length l → Ran register x (fed register x l) (until 10 l) (past 10 l) t
unfolding fed scanned until past
line-run register [] x t i e h s k = absurd (omega arith)
line-run register (b ∷ l) x t i e h s k = go (step x.feed.machine b) refl (eqb b 10) refl s k (λ y. line-run register l y t (i + 1))
  where
    go : (n : Option Machine.State) → step x.feed.machine b ≡ n → (c : Bool) → eqb b 10 ≡ c → follow n (λ u. scanned u l (i + 1)) (Err i) ≡ Ok t
        → length (on c [] (b ∷ until 10 l)) < suc (length l)
        → ((y : Fed) → y.feed.fault ≡ 0 → y.feed.at + length l ≤ largest → scanned y.feed.machine l (i + 1) ≡ Ok t → length (until 10 l) < length l
        → Ran register y (fed register y l) (until 10 l) (past 10 l) t)
        → Ran register x (fed register (fed_byte register x b) l) (on c [] (b ∷ until 10 l)) (on c l (past 10 l)) t
    go None q c d s k ih = absurd (stuck-to s)
    go (Some m) q true d s k ih =
        record { ghost = m; offset = i + 1; left = s; is = ap (λ (y : Fed). fed register y l) (end-byte register x b e (omega arith) m q d ∙ sym (ap (ended register m) (held_none x))) }
    go (Some m) q false d s k ih =
        let r = ih (held_on m b x) e (omega arith) s (omega arith) in
        record {
          ghost = r.ghost;
          offset = r.offset;
          left = r.left;
          is =
              ap (λ (y : Fed). fed register y l) (held-byte register x b e (omega arith) m q d)
              ∙ r.is
              ∙ ap (λ (y : Fed). fed register y (past 10 l)) (ap (ended register r.ghost) (held_more m b (until 10 l) x) ∙ ended-any register r.ghost m (held_all (b ∷ until 10 l) x));
        }

-- bytes of which none ends a line
pub rest-run : (register l : List ℕ) (x : Fed) (t : Machine.State) (i : ℕ) → (0 < length l → (x.feed.fault ≡ 0) × (x.feed.at + length l ≤ largest))
    → scanned x.feed.machine l i ≡ Ok t → length l ≤ length (until 10 l) → fed register x l ≡ placed t (held_all l x)
unfolding fed scanned until
rest-run register [] x t i o s k = sym (ap (λ (m : Machine.State). placed m (held_all [] x)) (sym (to_same x.feed.machine t s)) ∙ held_none x)
rest-run register (b ∷ l) x t i o s k = go (step x.feed.machine b) refl (eqb b 10) refl s k (λ y. rest-run register l y t (i + 1))
  where
    go : (n : Option Machine.State) → step x.feed.machine b ≡ n → (c : Bool) → eqb b 10 ≡ c → follow n (λ u. scanned u l (i + 1)) (Err i) ≡ Ok t
        → suc (length l) ≤ length (on c [] (b ∷ until 10 l))
        → ((y : Fed) → (0 < length l → (y.feed.fault ≡ 0) × (y.feed.at + length l ≤ largest)) → scanned y.feed.machine l (i + 1) ≡ Ok t → length l ≤ length (until 10 l)
        → fed register y l ≡ placed t (held_all l y))
        → fed register (fed_byte register x b) l ≡ placed t (held_all (b ∷ l) x)
    go None q c d s k ih = absurd (stuck-to s)
    go (Some m) q true d s k ih = absurd (omega arith)
    go (Some m) q false d s k ih =
        let r = o (omega arith) in
        let a = r.1 in
        ap (λ (y : Fed). fed register y l) (held-byte register x b r.0 (omega arith) m q d)
        ∙ ih (held_on m b x) (λ z. (r.0, omega arith)) s (omega arith)
        ∙ ap (placed t) (held_more m b l x)

-- ---- parts

pub fed-append : (register a b : List ℕ) (x : Fed) → fed register x (a ++ b) ≡ fed register (fed register x a) b
unfolding fed
fed-append register [] b x = refl
fed-append register (y ∷ a) b x = fed-append register a b (fed_byte register x y)

pub fed-cons : (register : List ℕ) (x : Fed) (b : ℕ) (l : List ℕ) → fed register x (b ∷ l) ≡ fed register (fed_byte register x b) l
unfolding fed
fed-cons register x b l = refl

-- ---- bytes that are only counted

abbrev reached : ℕ → ℕ → ℕ
reached at n = on (ltb (largest + 1 - at) n) (largest + 1) (at + n)

reached-none : (at : ℕ) → at ≡ reached at 0
reached-none at = go (ltb (largest + 1 - at) 0) refl
  where
    go : (b : Bool) → ltb (largest + 1 - at) 0 ≡ b → at ≡ on b (largest + 1) (at + 0)
    go true e = let k = ltb-true (largest + 1 - at) 0 e in absurd (omega arith)
    go false e = omega arith

reached-more : (at n : ℕ) → at ≤ largest + 1 → reached (on (leb at largest) (at + 1) at) n ≡ reached at (suc n)
reached-more at n h = go (leb at largest) refl
  where
    two : (a : ℕ) (c d : Bool) → ltb (largest + 1 - a) n ≡ c → ltb (largest + 1 - at) (suc n) ≡ d → (a ≡ at + 1) × (at ≤ largest) → on c (largest + 1) (a + n) ≡ on d (largest + 1) (at + suc n)
    two a true true p q (e, k) = refl
    two a true false p q (e, k) =
        let x = ltb-true (largest + 1 - a) n p in
        let y = ltb-false (largest + 1 - at) (suc n) q in
        absurd (omega arith)
    two a false true p q (e, k) =
        let x = ltb-false (largest + 1 - a) n p in
        let y = ltb-true (largest + 1 - at) (suc n) q in
        absurd (omega arith)
    two a false false p q (e, k) = omega arith

    last : (c d : Bool) → ltb (largest + 1 - at) n ≡ c → ltb (largest + 1 - at) (suc n) ≡ d → at ≡ largest + 1 → on c (largest + 1) (at + n) ≡ on d (largest + 1) (at + suc n)
    last true true p q e = refl
    last true false p q e = let y = ltb-false (largest + 1 - at) (suc n) q in absurd (omega arith)
    last false true p q e = let x = ltb-false (largest + 1 - at) n p in omega arith
    last false false p q e = let y = ltb-false (largest + 1 - at) (suc n) q in absurd (omega arith)

    go : (b : Bool) → leb at largest ≡ b → reached (on b (at + 1) at) n ≡ reached at (suc n)
    go true e = two (at + 1) (ltb (largest + 1 - (at + 1)) n) (ltb (largest + 1 - at) (suc n)) refl refl (refl, leb-true at largest e)
    go false e = let k = leb-false at largest e in last (ltb (largest + 1 - at) n) (ltb (largest + 1 - at) (suc n)) refl refl (omega arith)

counted-most : (at : ℕ) → at ≤ largest + 1 → on (leb at largest) (at + 1) at ≤ largest + 1
counted-most at h = go (leb at largest) refl
  where
    go : (b : Bool) → leb at largest ≡ b → on b (at + 1) at ≤ largest + 1
    go true e = let k = leb-true at largest e in omega arith
    go false e = h

counted-closed : (f : Feed) → is_open f ≡ false → is_open (counted f) ≡ false
counted-closed f = go (leb f.at largest) (eqb f.fault 0)
  where
    go : (a b : Bool) → (ltb f.at largest && b) ≡ false → (ltb (on a (f.at + 1) f.at) largest && b) ≡ false
    go a false h = and-false (ltb (on a (f.at + 1) f.at) largest)
    go true true h = let k : largest ≤ f.at = ltb-false f.at largest (sym (and-true _) ∙ h) in and-true _ ∙ le-ltb (f.at + 1) largest (omega arith)
    go false true h = h

pub reached-over : (f : Feed) (n : ℕ) → 65537 - f.at < n → moved_to 65537 f ≡ counted_by n f
reached-over f n h = ap (λ (k : ℕ). moved_to k f) (sym (ap (λ (b : Bool). on b 65537 (f.at + n)) (lt-ltb (65537 - f.at) n h)))

pub reached-within : (f : Feed) (n : ℕ) → n ≤ 65537 - f.at → moved_to (f.at + n) f ≡ counted_by n f
reached-within f n h = ap (λ (k : ℕ). moved_to k f) (sym (ap (λ (b : Bool). on b 65537 (f.at + n)) (le-ltb (65537 - f.at) n h)))

pub counted_none : (f : Feed) → f ≡ counted_by 0 f
counted_none f = ap (λ (n : ℕ). moved_to n f) (reached-none f.at)

pub closed_run : (register l : List ℕ) (x : Fed) → is_open x.feed ≡ false → x.feed.at ≤ largest + 1 → fed register x l ≡ fed_as (counted_by (length l) x.feed) x.line x.staging
unfolding fed
closed_run register [] x e h = ap (λ (f : Feed). fed_as f x.line x.staging) (counted_none x.feed)
closed_run register (b ∷ l) x e h =
    ap (λ (y : Fed). fed register y l) (closed-byte register x b e)
    ∙ closed_run register l (fed_as (counted x.feed) x.line x.staging) (counted-closed x.feed e) (counted-most x.feed.at h)
    ∙ ap (λ (n : ℕ). fed_as (moved_to n x.feed) x.line x.staging) (reached-more x.feed.at (length l) h)

pub fault-closed : (f : Feed) → is_open (faulted f) ≡ false
fault-closed f = ap (λ (b : Bool). ltb (f.at + 1) largest && b) (ne_eqb (f.at + 1) 0 (λ z. omega arith)) ∙ and-false (ltb (f.at + 1) largest)

-- ---- the byte at fault

-- the scan of the rest, from that byte on
rest-stuck : (s : Machine.State) (d : List ℕ) (j : ℕ) (m : Machine.State) → scanned s d 0 ≡ Err j → scanned s (take j d) 0 ≡ Ok m → j < length d → scanned m (drop j d) j ≡ Err j
rest-stuck s d j m e f h =
    let n : 0 + length (take j d) ≡ j = omega (arith, length-take-le j d (omega arith)) in
    sym (ap (scanned m (drop j d)) n)
    ∙ sym (ap (λ (r : Result Machine.State ℕ). and_then r (λ u. scanned u (drop j d) (0 + length (take j d)))) f)
    ∙ sym (scanned-append s (take j d) (drop j d) 0)
    ∙ ap (λ (l : List ℕ). scanned s l 0) (take-append-drop j d)
    ∙ e

scanned-cons : (m : Machine.State) (b : ℕ) (l : List ℕ) (j : ℕ) → scanned m (b ∷ l) j ≡ follow (step m b) (λ u. scanned u l (j + 1)) (Err j)
unfolding scanned
scanned-cons m b l j = refl

pub stuck-bad : (s : Machine.State) (d : List ℕ) (j : ℕ) (m : Machine.State) → scanned s d 0 ≡ Err j → scanned s (take j d) 0 ≡ Ok m → j < length d → step m (get_or d j 0) ≡ None
stuck-bad s d j m e f h =
    go (step m (get_or d j 0)) refl
    (sym (scanned-cons m (get_or d j 0) (drop (suc j) d) j) ∙ sym (ap (λ (l : List ℕ). scanned m l j) (drop-cons d j 0 h)) ∙ rest-stuck s d j m e f h)
  where
    go : (n : Option Machine.State) → step m (get_or d j 0) ≡ n → follow n (λ u. scanned u (drop (suc j) d) (j + 1)) (Err j) ≡ Err j → step m (get_or d j 0) ≡ None
    go None q r = q
    go (Some u) q r = let k = (stuck-byte u (drop (suc j) d) (j + 1) j r).0 in absurd (omega arith)
