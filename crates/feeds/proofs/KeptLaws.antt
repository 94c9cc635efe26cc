-- The numbers of a feed, written and read. Assumes nothing.
use Prim.Native.Nat.{ℕ, ◌+◌, ◌≤◌, ◌<◌}
use native.Mathlib.Omega.{arith}
use native.Mathlib.Numerals.{add-one}
use mathlib.Core.Path.{◌≡◌, refl, sym, ap, subst, ◌∙◌}
use mathlib.Core.Bool.{Bool, true, false, not, ◌&&◌, ◌||◌}
use mathlib.Core.List.{List, [], ◌∷◌, ◌++◌}
use borrow.Author.Tests.{ne_eqb, lt-ltb, le-leb, lt-leb, ltb-true, leb-true, eqb-true, eqb-false}
use lib.Dec.{eqb, leb, ltb}
use lib.ListN.{length, drop, get_or, set, replicate}
use lib.Seq.{drop-cons, drop-length}
use Rattle.lists.specs.Logic.{on}
use Rattle.lists.specs.Part.{part, onto, over}
use Rattle.lists.proofs.OverLaws.{over-nil, onto-fits}
use Rattle.lists.proofs.PartLaws.{part-zero, part-snoc, length_part}
use Rattle.lists.proofs.TurnLaws.{put_up}
use Rattle.lists.proofs.LogicLaws.{and-pass, all_pass, not-then}
use Rattle.syntax.specs.declared.State as Machine
use Rattle.syntax.specs.declared.Kind.TheVariants.{Nothing}
use Rattle.syntax.specs.declared.State.TheVariants.{Open}
use Rattle.rows.specs.declared.Shape.{Shape}
use Rattle.std.specs.Prelude.{Option, Some, None, Result, Ok, Err}
use Rattle.std.specs.Result.{result_ok}
use Rattle.reader_step.specs.declared.State as Lines
use Rattle.reader_step.specs.declared.Place.{Place}
use Rattle.reader_step.specs.declared.Place.TheVariants.{Outside, Awaiting, Under, Other}
use Rattle.reader_step.specs.Place.{is_under, is_known, place_number, place_at, place_read}
use Rattle.feeds.specs.declared.Feed.{Feed}
use Rattle.feeds.specs.Kept.{machine_number, zeros, kept_of, lines_of, feed_of, lines_may, feed_may, is_begun, new_feed, read_of}
use Rattle.feeds.specs.inner.Numbers.{numbers_may, lines_read, feed_read, read_fitting}

-- a feed that begins, with what is kept of the lines
abbrev pub beginning : ℕ → ℕ → Lines.State → Feed
beginning sender form s = record { sender = sender; form = form; at = 0; machine = Open Nothing; fault = 0; size = 0; long = 0; staged = 0; lines = s }

-- ---- the places of the labels

pub places-start : (k : List ℕ) → replicate 20 0 ≡ over 0 (part 18 0 k) (replicate 20 0)
places-start k = rw (part-zero 18 k) (sym (over-nil 0 (replicate 20 0)))

pub places-turn : (i : ℕ) (k ps : List ℕ) → ps ≡ over 0 (part 18 i k) (replicate 20 0) → 18 + i < length k
    → set ps i (get_or k (18 + i) 0) ≡ over 0 (part 18 (i + 1) k) (replicate 20 0)
places-turn i k ps e h =
    let z : i ≡ 0 + i = omega arith in
    rw (part-snoc 18 i k h) (ap (λ (n : ℕ). set ps n (get_or k (18 + i) 0)) z ∙ put_up 0 i (get_or k (18 + i) 0) (part 18 i k) (replicate 20 0) ps e (length_part 18 i k (omega arith)))

full : (vs d : List ℕ) → length vs ≡ length d → onto vs d ≡ vs
unfolding onto
full [] [] h = refl
full [] (x ∷ d) h = absurd (omega arith)
full (v ∷ vs) [] h = absurd (omega arith)
full (v ∷ vs) (x ∷ d) h = ap (λ (r : List ℕ). v ∷ r) (full vs d (omega arith))

pub places-done : (i : ℕ) (k ps : List ℕ) → ps ≡ over 0 (part 18 i k) (replicate 20 0) → i ≤ 20 → 20 ≤ i → length k ≡ 48 → ps ≡ part 18 20 k
unfolding over
places-done i k ps e h g n =
    let q : i ≡ 20 = omega arith in
    e ∙ ap (λ (m : ℕ). over 0 (part 18 m k) (replicate 20 0)) q ∙ full (part 18 20 k) (replicate 20 0) (length_part 18 20 k (omega arith))

-- ---- zeros behind

pub zeros-stop : (k : List ℕ) (i : ℕ) → i < length k → (get_or k i 0 ≡ 0 → ⊥) → zeros (drop i k) ≡ false
unfolding zeros
zeros-stop k i h e = rw (drop-cons k i 0 h) (rw (ne_eqb _ _ e))

pub zeros-turn : (k : List ℕ) (i : ℕ) → i < length k → get_or k i 0 ≡ 0 → zeros (drop i k) ≡ zeros (drop (i + 1) k)
unfolding zeros
zeros-turn k i h e = rw (drop-cons k i 0 h, add-one i) (rw e refl)

zeros-nil : zeros [] ≡ true
unfolding zeros
zeros-nil = refl

pub zeros-done : (k : List ℕ) (i : ℕ) → i ≡ length k → zeros (drop i k) ≡ true
zeros-done k i h = ap (λ (n : ℕ). zeros (drop n k)) h ∙ ap zeros (drop-length k) ∙ zeros-nil

-- ---- a feed in numbers

abbrev pub lines_at : List ℕ → Place → Shape → Lines.State
lines_at k p h =
    record { place = p; line = get_or k 10 0; form = get_or k 11 0; wrong = get_or k 12 0; column = get_or k 13 0; owner = get_or k 14 0; rows = get_or k 15 0; shape = h }

abbrev pub feed_at : List ℕ → Machine.State → Lines.State → Feed
feed_at k m s = record { sender = get_or k 1 0; form = get_or k 2 0; at = get_or k 3 0; machine = m; fault = get_or k 5 0; size = get_or k 6 0; long = get_or k 7 0; staged = get_or k 8 0; lines = s }

-- ---- which feeds may be

-- what `feed_may` tests
pub record May (f : Feed) : Type 0 where
  pub sender : f.sender < 256
  pub stated : f.form < 4294967296
  pub at : f.at ≤ 65537
  pub fault : f.fault ≤ f.at
  pub size : f.size ≤ f.at
  pub long : f.long < f.lines.line
  pub staged : f.staged ≤ f.lines.rows
  pub first : 0 < f.lines.line
  pub line : f.lines.line ≤ f.at + 1
  pub rows : f.lines.rows < f.lines.line
  pub form : f.lines.form < f.lines.line
  pub wrong : f.lines.wrong < f.lines.line
  pub owner : f.lines.owner < f.lines.line
  pub known : is_known f.lines.place ≡ true
  pub labels : f.lines.place ≡ Under → f.lines.shape.fault ≡ false

labels-pass : (p : Place) (b : Bool) → not (is_under p) || not b ≡ true → p ≡ Under → b ≡ false
labels-pass p true h e = sym (subst (λ (q : Place). not (is_under q) || false ≡ true) e h)
labels-pass p false h e = refl

pass-labels : (p : Place) (b : Bool) → (p ≡ Under → b ≡ false) → not (is_under p) || not b ≡ true
pass-labels Outside b h = refl
pass-labels Awaiting b h = refl
pass-labels Under b h = rw (h refl)
pass-labels (Other n) b h = refl

pub may-facts : (f : Feed) → feed_may f ≡ true → May f
unfolding feed_may lines_may
may-facts f h =
    let s = f.lines in
    let a = and-pass (ltb f.sender 256 && ltb f.form 4294967296 && leb f.at 65537 && leb f.fault f.at && leb f.size f.at && ltb f.long s.line && leb f.staged s.rows) (lines_may f.at s) h in
    let t = all_pass (ltb f.sender 256) (ltb f.form 4294967296 ∷ leb f.at 65537 ∷ leb f.fault f.at ∷ leb f.size f.at ∷ ltb f.long s.line ∷ leb f.staged s.rows ∷ []) a.0 in
    let l = all_pass (ltb 0 s.line) (leb s.line (f.at + 1) ∷ ltb s.rows s.line ∷ ltb s.form s.line ∷ ltb s.wrong s.line ∷ ltb s.owner s.line ∷ is_known s.place ∷ (not (is_under s.place) || not s.shape.fault) ∷ []) a.1 in
    record {
      sender = ltb-true _ _ (t 0);
      stated = ltb-true _ _ (t 1);
      at = leb-true _ _ (t 2);
      fault = leb-true _ _ (t 3);
      size = leb-true _ _ (t 4);
      long = ltb-true _ _ (t 5);
      staged = leb-true _ _ (t 6);
      first = ltb-true _ _ (l 0);
      line = leb-true _ _ (l 1);
      rows = ltb-true _ _ (l 2);
      form = ltb-true _ _ (l 3);
      wrong = ltb-true _ _ (l 4);
      owner = ltb-true _ _ (l 5);
      known = l 6;
      labels = labels-pass s.place s.shape.fault (l 7);
    }

pub facts-may : (f : Feed) → May f → feed_may f ≡ true
unfolding feed_may lines_may
facts-may f m =
    let s = f.lines in
    simp (
      lt-ltb _ _ m.sender,
      lt-ltb _ _ m.stated,
      le-leb _ _ m.at,
      le-leb _ _ m.fault,
      le-leb _ _ m.size,
      lt-ltb _ _ m.long,
      le-leb _ _ m.staged,
      lt-ltb _ _ m.first,
      le-leb _ _ m.line,
      lt-ltb _ _ m.rows,
      lt-ltb _ _ m.form,
      lt-ltb _ _ m.wrong,
      lt-ltb _ _ m.owner,
      m.known,
      pass-labels s.place s.shape.fault m.labels,
    )

pub may-long : (f : Feed) → 65537 < f.at → feed_may f ≡ false
may-long f h = not-then (feed_may f) false (λ e. let m = (may-facts f e).at in absurd (omega arith)) refl

-- ---- numbers that are read

known : (k : List ℕ) → numbers_may k ≡ true
    → (eqb (get_or k 0 0) 1 ≡ true) × (ltb (get_or k 4 0) 32 ≡ true) × (zeros (drop 38 k) ≡ true) × (ltb (get_or k 1 0) 256 ≡ true) × (ltb (get_or k 2 0) 4294967296 ≡ true)
unfolding numbers_may
known k h =
    let t = all_pass (eqb (get_or k 0 0) 1) (ltb (get_or k 2 0) 4294967296 ∷ ltb (get_or k 4 0) 32 ∷ ltb (get_or k 1 0) 256 ∷ zeros (drop 38 k) ∷ []) h in
    (t 0, t 2, t 4, t 3, t 1)

pub fitting-bytes : (k : List ℕ) → numbers_may k ≡ true → (get_or k 1 0 < 256) × (get_or k 2 0 < 4294967296)
fitting-bytes k h = let q = known k h in (ltb-true _ _ q.3, ltb-true _ _ q.4)

-- a number that is a place's, and one that is none's
pub place-none : (n : ℕ) (r : Result Place ℕ) → r ≡ place_read n → None ≡ result_ok r → leb n 2 ≡ false
place-none n r is e = go (leb n 2) refl (e ∙ ap result_ok is)
  where
    go : (b : Bool) → leb n 2 ≡ b → None ≡ result_ok (on b (Ok (place_at n)) (Err n)) → leb n 2 ≡ false
    go true p q = absurd (let z : ◌≡◌ {A = ℕ} 0 1 = cc in omega arith)
    go false p q = p

pub place-some : (n : ℕ) (r : Result Place ℕ) (p : Place) → r ≡ place_read n → Some p ≡ result_ok r → (leb n 2 ≡ true) × (p ≡ place_at n)
place-some n r p is e = go (leb n 2) refl (e ∙ ap result_ok is)
  where
    go : (b : Bool) → leb n 2 ≡ b → Some p ≡ result_ok (on b (Ok (place_at n)) (Err n)) → (leb n 2 ≡ true) × (p ≡ place_at n)
    go true h q = (h, cc)
    go false h q = absurd (let z : ◌≡◌ {A = ℕ} 0 1 = cc in omega arith)

module _ (k : List ℕ) (placed : leb (get_or k 9 0) 2 ≡ true) where
  pub lines-placed : (s : Lines.State) → s ≡ lines_of k → Some s ≡ lines_read k
  unfolding lines_read
  lines-placed s e = rw placed (ap Some e)

  pub feed-placed : (f : Feed) → f ≡ feed_of k → Some f ≡ feed_read k
  unfolding feed_read
  feed-placed f e = rw placed (ap Some e)

module _ (k : List ℕ) (none : leb (get_or k 9 0) 2 ≡ false) where
  pub lines-none : None ≡ lines_read k
  unfolding lines_read
  lines-none = rw none

  pub feed-none : None ≡ feed_read k
  unfolding feed_read
  feed-none = rw none

-- what is told where a test passes
told : {A : Type 0} (b : Bool) (x y : A) → on b (Some x) None ≡ Some y → (b ≡ true) × (y ≡ x)
told true x y q = (refl, cc)
told false x y q = absurd (let z : ◌≡◌ {A = ℕ} 0 1 = cc in omega arith)

untold : {A : Type 0} (b : Bool) (x : A) → on b (Some x) None ≡ None → b ≡ false
untold true x q = absurd (let z : ◌≡◌ {A = ℕ} 0 1 = cc in omega arith)
untold false x q = refl

pub lines-told : (k : List ℕ) (s : Lines.State) → lines_read k ≡ Some s → (leb (get_or k 9 0) 2 ≡ true) × (s ≡ lines_of k)
unfolding lines_read
lines-told k s e = told (leb (get_or k 9 0) 2) (lines_of k) s e

pub lines-not : (k : List ℕ) → lines_read k ≡ None → leb (get_or k 9 0) 2 ≡ false
unfolding lines_read
lines-not k e = untold (leb (get_or k 9 0) 2) (lines_of k) e

pub feed-told : (k : List ℕ) (f : Feed) → feed_read k ≡ Some f → (leb (get_or k 9 0) 2 ≡ true) × (f ≡ feed_of k)
unfolding feed_read
feed-told k f e = told (leb (get_or k 9 0) 2) (feed_of k) f e

pub feed-not : (k : List ℕ) → feed_read k ≡ None → leb (get_or k 9 0) 2 ≡ false
unfolding feed_read
feed-not k e = untold (leb (get_or k 9 0) 2) (feed_of k) e

-- and of all numbers
pub read-told : (k : List ℕ) (f : Feed) → read_of k ≡ Some f → (is_begun k ≡ true) × (f ≡ feed_of k)
unfolding read_of
read-told k f e = told (is_begun k) (feed_of k) f e

pub read-not : (k : List ℕ) → read_of k ≡ None → is_begun k ≡ false
unfolding read_of
read-not k e = untold (is_begun k) (feed_of k) e

module _ (k : List ℕ) (f : Feed) (is : feed_read k ≡ Some f) (b : Bool) (test : b ≡ feed_may f) where
  pub fitting-may : b ≡ true → Some f ≡ read_fitting k
  unfolding read_fitting
  fitting-may h =
      let t = feed-told k f is in
      let e : feed_may (feed_of k) ≡ true = ap feed_may (sym t.1) ∙ sym test ∙ h in
      rw (t.0, e) (ap Some t.1)

  pub fitting-not : b ≡ false → None ≡ read_fitting k
  unfolding read_fitting
  fitting-not h =
      let t = feed-told k f is in
      let e : feed_may (feed_of k) ≡ false = ap feed_may (sym t.1) ∙ sym test ∙ h in
      rw (t.0, e)

pub fitting-none : (k : List ℕ) → feed_read k ≡ None → None ≡ read_fitting k
unfolding read_fitting
fitting-none k e = rw (feed-not k e)

-- a place that is one of the three has one of their numbers
known-few : (n : ℕ) → is_known (place_at n) ≡ leb n 2
known-few n = go (eqb n 0) refl (eqb n 1) refl (eqb n 2) refl
  where
    go : (a : Bool) → eqb n 0 ≡ a → (b : Bool) → eqb n 1 ≡ b → (c : Bool) → eqb n 2 ≡ c → is_known (on a Outside (on b Awaiting (on c Under (Other n)))) ≡ leb n 2
    go true p b q c r = let e = eqb-true n 0 p in sym (le-leb n 2 (omega arith))
    go false p true q c r = let e = eqb-true n 1 q in sym (le-leb n 2 (omega arith))
    go false p false q true r = let e = eqb-true n 2 r in sym (le-leb n 2 (omega arith))
    go false p false q false r = let x = eqb-false n 0 p in let y = eqb-false n 1 q in let z = eqb-false n 2 r in sym (lt-leb n 2 (omega arith))

placed-may : (k : List ℕ) → (leb (get_or k 9 0) 2 && feed_may (feed_of k)) ≡ feed_may (feed_of k)
unfolding feed_of lines_of
placed-may k = go (leb (get_or k 9 0) 2) (feed_may (feed_of k)) (λ h. sym (known-few (get_or k 9 0)) ∙ (may-facts (feed_of k) h).known)
  where
    go : (a b : Bool) → (b ≡ true → a ≡ true) → (a && b) ≡ b
    go true b h = refl
    go false true h = h refl
    go false false h = refl

pub read-numbers : (k : List ℕ) → numbers_may k ≡ true → read_fitting k ≡ read_of k
unfolding read_fitting read_of is_begun
read-numbers k h = let t = known k h in rw (t.0, t.1, t.2, placed-may k)

begun-numbers : (k : List ℕ) → is_begun k ≡ true → numbers_may k ≡ true
unfolding is_begun feed_of lines_of numbers_may
begun-numbers k h =
    let t = all_pass (eqb (get_or k 0 0) 1) (ltb (get_or k 4 0) 32 ∷ zeros (drop 38 k) ∷ feed_may (feed_of k) ∷ []) h in
    let m = may-facts (feed_of k) (t 3) in
    rw (t 0, lt-ltb (get_or k 2 0) 4294967296 m.stated, t 1, lt-ltb (get_or k 1 0) 256 m.sender, t 2)

pub read_none : (k : List ℕ) → numbers_may k ≡ false → None ≡ read_of k
unfolding read_of
read_none k h = rw (not-then (is_begun k) (numbers_may k) (begun-numbers k) h)

-- ---- numbers that are written

-- the places behind the front, and zeros
module _ (ps : List ℕ) (room : length ps ≡ 20) where
  pub places-over : onto ps (replicate 30 0) ≡ ps ++ replicate 10 0
  places-over = onto-fits ps (replicate 30 0) (omega arith) ∙ ap (λ (n : ℕ). ps ++ drop n (replicate 30 0)) room

-- what stands before the places
abbrev front : Feed → ℕ → ℕ → List ℕ → List ℕ
front f n p rest =
    let s = f.lines in
    1 ∷ f.sender ∷ f.form ∷ f.at ∷ n ∷ f.fault ∷ f.size ∷ f.long ∷ f.staged
    ∷ p ∷ s.line ∷ s.form ∷ s.wrong ∷ s.column ∷ s.owner ∷ s.rows
    ∷ s.shape.count ∷ s.shape.stop ∷ rest

pub kept-written : (f : Feed) (n p : ℕ) (k : List ℕ) → k ≡ over 18 f.lines.shape.places (front f n p (replicate 30 0)) → length f.lines.shape.places ≡ 20
    → n ≡ machine_number f.machine → p ≡ place_number f.lines.place → k ≡ kept_of f
unfolding kept_of over
kept-written f n p k e room m q =
    e
    ∙ ap (front f n p) (places-over f.lines.shape.places room)
    ∙ ap (λ (x : ℕ). front f x p (f.lines.shape.places ++ replicate 10 0)) m
    ∙ ap (λ (x : ℕ). front f (machine_number f.machine) x (f.lines.shape.places ++ replicate 10 0)) q
