-- A part around the bytes that the machine takes: how many are looked at, the byte at fault, the rest that is counted, and the call. Assumes nothing.
use Prim.Native.Nat.{ℕ, suc, ◌+◌, ◌-◌, ◌≤◌, ◌<◌}
use native.Mathlib.Omega.{arith}
use mathlib.Core.Path.{◌≡◌, refl, sym, ap, subst, ◌∙◌}
use mathlib.Core.Bool.{Bool, true, false, ◌&&◌}
use mathlib.Core.Logic.{◌⊎◌, inl, inr, ⊎_elim}
use mathlib.Core.List.{List, []}
use borrow.Author.Tests.{ltb-true, ltb-false, lt-ltb, le-ltb, eqb-true, ne_eqb, eq-eqb}
use lib.Dec.{eqb, ltb}
use lib.ListN.{length, take, drop, get_or, take-append-drop, length-drop}
use lib.Seq.{drop-cons, drop-length, length-take-le, get_or-take}
use Rattle.std.specs.Prelude.{None, Ok, Err}
use Rattle.lists.specs.Logic.{on}
use Rattle.lists.proofs.LogicLaws.{and-pass, and-false}
use Rattle.syntax.specs.declared.State as Machine
use Rattle.syntax.specs.Machine.{step}
use Rattle.syntax_scan.specs.Scanned.{scanned}
use Rattle.syntax_scan.proofs.ScannedLaws.{stuck-first}
use Rattle.reader.specs.Rules.{largest}
use Rattle.feeds.specs.declared.Feed.{Feed}
use Rattle.std.specs.Prelude.{Option, Some, None}
use Rattle.feeds.specs.Feed.{Fed, faulted, is_open, fed}
use Rattle.feeds.specs.Kept.{kept_of, feed_of, is_begun, read_of}
use Rattle.feeds.proofs.KeptLaws.{read-told, read-not}
use Rattle.feeds.specs.Claims.{FeedFits}
use Rattle.feeds.specs.Feeding.{feeding, fed_in, feed_leaves}
use Rattle.feeds.proofs.KeptLaws.{may-facts}
use Rattle.feeds.proofs.FitLaws.{begun-fits}
use Rattle.feeds_part.specs.inner.Lines.{counted_by, open_for, fed_as, lent}
use Rattle.feeds_part.proofs.HeldLaws.{front-front}
use Rattle.feeds_part.proofs.ByteLaws.{fed-append, fed-cons, bad-byte, counted_none, closed_run, fault-closed, stuck-bad}

-- ---- how many bytes are looked at

pub open-fault : (n : ℕ) (f : Feed) → (f.fault ≡ 0 → ⊥) → 0 ≡ open_for n f
open-fault n f e =
    sym (ap (λ (b : Bool). on (ltb f.at largest && b) (on (ltb (largest - f.at) n) (largest - f.at) n) 0) (ne_eqb f.fault 0 e)
    ∙ ap (λ (b : Bool). on b (on (ltb (largest - f.at) n) (largest - f.at) n) 0) (and-false (ltb f.at largest)))

pub open-here : (n : ℕ) (f : Feed) → f.fault ≡ 0 → f.at < 65536 → on (ltb (65536 - f.at) n) (65536 - f.at) n ≡ open_for n f
open-here n f e h = rw (eq-eqb f.fault 0 e, lt-ltb f.at 65536 h) refl

pub open_none : (n : ℕ) (f : Feed) → 65536 ≤ f.at → 0 ≡ open_for n f
open_none n f h = rw (le-ltb f.at 65536 h) refl

-- k of n bytes are looked at
pub record Opened (n : ℕ) (f : Feed) (k : ℕ) : Type 0 where
  pub most : k ≤ n
  pub room : 0 < k → (f.fault ≡ 0) × (f.at + k ≤ 65536)
  pub rest : (g : Feed) → g.at ≡ f.at + k → g.fault ≡ f.fault → (is_open g ≡ false) ⊎ (n ≤ k)

pub opened : (n : ℕ) (f : Feed) (k : ℕ) → k ≡ open_for n f → Opened n f k
opened n f k = go (is_open f) (ltb (largest - f.at) n) refl refl
  where
    go : (b c : Bool) → is_open f ≡ b → ltb (largest - f.at) n ≡ c → k ≡ on b (on c (largest - f.at) n) 0 → Opened n f k
    go true true p q e =
        let a = and-pass (ltb f.at largest) (eqb f.fault 0) p in
        let x = ltb-true f.at largest a.0 in
        let y = ltb-true (largest - f.at) n q in
        record {
          most = omega arith;
          room = λ z. (eqb-true f.fault 0 a.1, omega arith);
          rest = λ g s t. inl (ap (λ (b : Bool). b && eqb g.fault 0) (le-ltb g.at largest (omega arith)));
        }
    go true false p q e =
        let a = and-pass (ltb f.at largest) (eqb f.fault 0) p in
        let x = ltb-true f.at largest a.0 in
        let y = ltb-false (largest - f.at) n q in
        record { most = omega arith; room = λ z. (eqb-true f.fault 0 a.1, omega arith); rest = λ g s t. inr (omega arith) }
    go false c p q e =
        record {
          most = omega arith;
          room = λ z. absurd (omega arith);
          rest = λ g s t. inl (let w : g.at ≡ f.at = omega arith in ap (λ (i : ℕ). ltb i largest && eqb g.fault 0) w ∙ ap (λ (i : ℕ). ltb f.at largest && eqb i 0) t ∙ p);
        }

fed-none : (register : List ℕ) (x : Fed) → fed register x [] ≡ x
unfolding fed
fed-none register x = refl

-- what feeding the front of a part asks
module _ (part : List ℕ) (f : Feed) (k : ℕ) (opens : Opened (length part) f k) where
  front_length : (j : ℕ) → j ≤ k → length (take j part) ≡ j
  front_length j h = length-take-le j part (let m = opens.most in omega arith)

  pub front-room : (j : ℕ) → j ≤ k → 0 < length (take j part) → (f.fault ≡ 0) × (f.at + length (take j part) ≤ 65536)
  front-room j h p = let l = front_length j h in let r = opens.room (omega arith) in (r.0, let q = r.1 in omega arith)

  pub front_at : (g : Feed) → g.at ≡ f.at + length (take k part) → FeedFits f → g.at ≤ 65537
  front_at g e fits = go (ltb 0 k) refl
    where
      go : (b : Bool) → ltb 0 k ≡ b → g.at ≤ 65537
      go true q = let r = (opens.room (ltb-true 0 k q)).1 in let l = front_length k (omega arith) in omega arith
      go false q = let z = ltb-false 0 k q in let m = (may-facts f fits.may).at in let l = front_length k (omega arith) in omega arith

  -- all bytes that are looked at are taken, and the rest is counted
  module _ (register : List ℕ) (x : Fed) (g : Feed) (line staging : List ℕ) (is : fed_as g line staging ≡ fed register x (take k part))
      (at : g.at ≡ f.at + length (take k part)) (fault : g.fault ≡ f.fault) (fits : FeedFits f) where
    rest-counted : fed register (fed_as g line staging) (drop k part) ≡ fed_as (counted_by (length part - k) g) line staging
    rest-counted = ⊎_elim closed none (opens.rest g (at ∙ ap (λ (i : ℕ). f.at + i) (front_length k (omega arith))) fault)
      where
        l : length (drop k part) ≡ length part - k
        l = length-drop k part

        closed : is_open g ≡ false → fed register (fed_as g line staging) (drop k part) ≡ fed_as (counted_by (length part - k) g) line staging
        closed e = closed_run register (drop k part) (fed_as g line staging) e (front_at g at fits) ∙ ap (λ (n : ℕ). fed_as (counted_by n g) line staging) l

        none : length part ≤ k → fed register (fed_as g line staging) (drop k part) ≡ fed_as (counted_by (length part - k) g) line staging
        none h =
            let m = opens.most in
            let e : k ≡ length part = omega arith in
            let z : 0 ≡ length part - k = omega arith in
            ap (fed register (fed_as g line staging)) (ap (λ (n : ℕ). drop n part) e ∙ drop-length part)
            ∙ fed-none register (fed_as g line staging)
            ∙ ap (λ (h : Feed). fed_as h line staging) (counted_none g)
            ∙ ap (λ (n : ℕ). fed_as (counted_by n g) line staging) z

    pub front-fed : (r : Feed) → r ≡ counted_by (length part - k) g → fed_as r line staging ≡ fed register x part
    front-fed r e =
        ap (λ (h : Feed). fed_as h line staging) e
        ∙ sym rest-counted
        ∙ ap (λ (y : Fed). fed register y (drop k part)) is
        ∙ sym (fed-append register (take k part) (drop k part) x)
        ∙ ap (fed register x) (take-append-drop k part)

  -- the byte at j may not stand there
  module _ (j : ℕ) (stuck : scanned f.machine (take k part) 0 ≡ Err j) where
    pub stuck-within : j < k
    stuck-within = let h = (stuck-first f.machine (take k part) j stuck).0 in let l = front_length k (omega arith) in omega arith

    front_same : take j (take k part) ≡ take j part
    front_same = front-front j k part (let h = stuck-within in omega arith)

    pub stuck-leads : (t : Machine.State) × (scanned f.machine (take j part) 0 ≡ Ok t)
    stuck-leads =
        let r = (stuck-first f.machine (take k part) j stuck).1 in
        (r.0, ap (λ (l : List ℕ). scanned f.machine l 0) (sym front_same) ∙ r.1)

    module _ (register : List ℕ) (x : Fed) (m : Machine.State) (leads : scanned f.machine (take j part) 0 ≡ Ok m) (g : Feed) (line staging : List ℕ)
        (is : fed_as g line staging ≡ fed register x (take j part)) (at : g.at ≡ f.at + length (take j part)) (fault : g.fault ≡ f.fault) (machine : g.machine ≡ m) where
      pub stuck_at : g.at < 65536
      stuck_at =
          let h = stuck-within in
          let r = (opens.room (omega arith)).1 in
          let l = front_length j (omega arith) in
          omega arith

      bad : step g.machine (get_or part j 0) ≡ None
      bad =
          let h = stuck-within in
          ap (λ (s : Machine.State). step s (get_or part j 0)) machine
          ∙ ap (step m) (sym (get_or-take k part j 0 h))
          ∙ stuck-bad f.machine (take k part) j m stuck (ap (λ (l : List ℕ). scanned f.machine l 0) front_same ∙ leads) (let l = front_length k (omega arith) in omega arith)

      pub stuck-fed : (h : Feed) → h ≡ faulted g → (r : Feed) → r ≡ counted_by (length part - (j + 1)) h → fed_as r line staging ≡ fed register x part
      stuck-fed h a r e =
          let w = stuck-within in
          let o = opens.most in
          let z = (opens.room (omega arith)).0 in
          let y = fed_as g line staging in
          let l : length (drop (suc j) part) ≡ length part - (j + 1) = length-drop (suc j) part ∙ omega arith in
          ap (λ (q : Feed). fed_as q line staging) (e ∙ ap (counted_by (length part - (j + 1))) a)
          ∙ ap (λ (n : ℕ). fed_as (counted_by n (faulted g)) line staging) (sym l)
          ∙ sym (closed_run register (drop (suc j) part) (fed_as (faulted g) line staging) (fault-closed g) (let s = stuck_at in omega arith))
          ∙ ap (λ (q : Fed). fed register q (drop (suc j) part)) (sym (bad-byte register y (get_or part j 0) (fault ∙ z) stuck_at bad))
          ∙ sym (fed-cons register y (get_or part j 0) (drop (suc j) part))
          ∙ ap (fed register y) (sym (drop-cons part j 0 (omega arith)))
          ∙ ap (λ (q : Fed). fed register q (drop j part)) is
          ∙ sym (fed-append register (take j part) (drop j part) x)
          ∙ ap (fed register x) (take-append-drop j part)

pub fault-most : (f g : Feed) → g ≡ faulted f → f.at < 65536 → g.at ≤ 65537
fault-most f g e h = let a = ap (λ (x : Feed). x.at) e in omega arith

-- ---- the call

module _ (k : List ℕ) where
  module _ (r : Feed) (is : read_of k ≡ Some r) where
    pub read_fits : length k ≡ 48 → FeedFits r
    read_fits h = let t = read-told k r is in subst FeedFits (sym t.1) (begun-fits k h t.0)

    pub call-fed : (part register staging line : List ℕ) (g : Feed) (line' staging' k' : List ℕ) → fed_as g line' staging' ≡ fed register (lent r line staging) part → k' ≡ kept_of g
        → feeding 0 k' line' staging' ≡ feed_leaves part register staging line k
    unfolding feed_leaves fed_in
    call-fed part register staging line g line' staging' k' e q =
        let t = read-told k r is in
        ap (λ (n : List ℕ). feeding 0 n line' staging') q
        ∙ ap (λ (x : Fed). feeding 0 (kept_of x.feed) x.line x.staging) (e ∙ ap (λ (f : Feed). fed register (lent f line staging) part) t.1)
        ∙ rw t.0 refl

  pub call-refused : read_of k ≡ None → (part register staging line : List ℕ) → feeding 1 k line staging ≡ feed_leaves part register staging line k
  unfolding feed_leaves
  call-refused e part register staging line = rw (read-not k e) refl
