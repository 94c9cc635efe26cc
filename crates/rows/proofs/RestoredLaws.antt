-- A shape kept as numbers: what the loops over its places cite, when lines can be read by it, and that what a label line gave comes back. Assumes nothing.
use mathlib.Core.Path.{◌≡◌, refl, sym, ap, ◌∙◌}
use mathlib.Core.Bool.{Bool, true, false, ◌&&◌, ◌||◌}
use mathlib.Core.List.{List, [], ◌∷◌}
use Prim.Native.Nat.{ℕ, zero, suc, ◌+◌, ◌≤◌, ◌<◌}
use native.Mathlib.Decide.{dec_lt}
use native.Mathlib.Omega.{arith}
use borrow.Author.Tests.{eq-eqb, ne_eqb, eqb-false, lt-ltb, ltb-true}
use lib.Dec.{eqb, ltb}
use lib.ListN.{length, get_or, take, drop, replicate}
use lib.Seq.{get_or-take, length-take-le}
use Rattle.lists.specs.Logic.{on}
use Rattle.lists.specs.Part.{onto, over}
use Rattle.lists.proofs.LogicLaws.{or-fail}
use Rattle.turbo_labels.specs.Columns.{most}
use Rattle.columns.specs.declared.Table.{Table}
use Rattle.columns.specs.declared.Table.TheVariants.{Message, Planning, Calendar}
use Rattle.columns.specs.declared.Kind.TheVariants as Kinds
use Rattle.columns.specs.Tables.{Column, must, message_columns, planning_columns, calendar_columns, columns_in, is_optional, label_fault}
use Rattle.columns.specs.Layout.{wanted, column_at, optional_at}
use Rattle.columns.proofs.LayoutLaws.{wanted-most}
use Rattle.rows.specs.declared.Shape.{Shape}
use Rattle.rows.specs.Shape.{IsShape, next_from, visits, lacking, no_shape, shape_of, is_one_of, meeting, shape_at}
use Rattle.rows.proofs.OrderLaws.{first-cons, first-end}
use Rattle.rows.proofs.SoundLaws.{right_shape, shape_is, right-sound}

-- ---- the loops

module _ (l : List ℕ) (w : ℕ) (h : w ≤ length l) (i : ℕ) where
  module _ (m : i < w) where
    pub one-here : (p : ℕ) → p ≡ get_or l i 0 → is_one_of p (drop i (take w l)) ≡ true
    unfolding is_one_of
    one-here p e = rw (first-cons l w h i m, eq-eqb p (get_or l i 0) e)

    pub one-next : (p : ℕ) → (p ≡ get_or l i 0 → ⊥) → is_one_of p (drop (i + 1) (take w l)) ≡ is_one_of p (drop i (take w l))
    unfolding is_one_of
    one-next p e = rw (first-cons l w h i m, ne_eqb p (get_or l i 0) e)

    meet-cons : (n : ℕ) {b : Bool} → b ≡ is_one_of (get_or l i 0) (drop (i + 1) (take w l)) → meeting n (drop i (take w l)) ≡ (ltb (get_or l i 0) n && b) || meeting n (drop (i + 1) (take w l))
    unfolding meeting
    meet-cons n e = rw (first-cons l w h i m, e)

    pub meet-here : (n : ℕ) {b : Bool} → b ≡ is_one_of (get_or l i 0) (drop (i + 1) (take w l)) → (ltb (get_or l i 0) n && b) ≡ true → meeting n (drop i (take w l)) ≡ true
    meet-here n e q = meet-cons n e ∙ ap (λ (t : Bool). t || meeting n (drop (i + 1) (take w l))) q

    pub meet-next : (n : ℕ) {b : Bool} → b ≡ is_one_of (get_or l i 0) (drop (i + 1) (take w l)) → (ltb (get_or l i 0) n && b) ≡ false → meeting n (drop (i + 1) (take w l)) ≡ meeting n (drop i (take w l))
    meet-next n e q = sym (meet-cons n e ∙ ap (λ (t : Bool). t || meeting n (drop (i + 1) (take w l))) q)

  pub one_end : (p : ℕ) → w ≤ i → is_one_of p (drop i (take w l)) ≡ false
  unfolding is_one_of
  one_end p m = rw (first-end l w h i m)

  pub meet-end : (n : ℕ) → w ≤ i → meeting n (drop i (take w l)) ≡ false
  unfolding meeting
  meet-end n m = rw (first-end l w h i m)

-- what is put together of the parts that were found
pub restored-is :
    (t : Table) (n s : ℕ) (ps : List ℕ) {w found : ℕ} {order : List ℕ} {a b : Bool} → w ≡ wanted t
    → found ≡ length (visits w (take w ps) n 0) → order ≡ over 0 (visits w (take w ps) n 0) (replicate most 0)
    → a ≡ lacking n (columns_in t) ps → b ≡ meeting n (take w ps)
    → record { fault = a || b; count = n; stop = s; places = ps; found = found; order = order } ≡ shape_at t n s ps
unfolding shape_at
restored-is t n s ps e f o x y = rw (f, o, x, y, e)

-- ---- no two at one place

one_none : (p : ℕ) (l : List ℕ) (k : ℕ) → is_one_of p l ≡ false → k < length l → p ≡ get_or l k 0 → ⊥
unfolding is_one_of
one_none p [] k e h q = omega arith
one_none p (x ∷ l) zero e h q = eqb-false p x (or-fail (eqb p x) (is_one_of p l) e).0 q
one_none p (x ∷ l) (suc k) e h q = one_none p l k (or-fail (eqb p x) (is_one_of p l) e).1 (omega arith) q

none-one : (p : ℕ) (l : List ℕ) → ((k : ℕ) → k < length l → p ≡ get_or l k 0 → ⊥) → is_one_of p l ≡ false
unfolding is_one_of
none-one p [] f = refl
none-one p (x ∷ l) f = rw (ne_eqb p x (f 0 (omega arith))) (none-one p l (λ k h q. f (suc k) (omega arith) q))

meet-apart : (n : ℕ) (l : List ℕ) (j k : ℕ) → meeting n l ≡ false → j < k → k < length l → get_or l j 0 ≡ get_or l k 0 → get_or l j 0 < n → ⊥
unfolding meeting
meet-apart n [] j k e a h q b = omega arith
meet-apart n (p ∷ l) j zero e a h q b = omega arith
meet-apart n (p ∷ l) zero (suc k) e a h q b =
    let x : (ltb p n && is_one_of p l) ≡ false = (or-fail (ltb p n && is_one_of p l) (meeting n l) e).0 in
    one_none p l k (rw (lt-ltb p n b) at x) (omega arith) q
meet-apart n (p ∷ l) (suc j) (suc k) e a h q b = meet-apart n l j k (or-fail (ltb p n && is_one_of p l) (meeting n l) e).1 (omega arith) (omega arith) q b

apart-meet : (n : ℕ) (l : List ℕ) → ((j k : ℕ) → j < k → k < length l → get_or l j 0 ≡ get_or l k 0 → get_or l j 0 < n → ⊥) → meeting n l ≡ false
unfolding meeting
apart-meet n [] f = refl
apart-meet n (p ∷ l) f = go (ltb p n) refl (apart-meet n l (λ j k a h q b. f (suc j) (suc k) (omega arith) (omega arith) q b))
  where
    go : (t : Bool) → ltb p n ≡ t → meeting n l ≡ false → ((t && is_one_of p l) || meeting n l) ≡ false
    go true e m = rw (none-one p l (λ k h q. f 0 (suc k) (omega arith) (omega arith) q (ltb-true p n e))) m
    go false e m = m

-- ---- each that must be there is

lack-there : (n : ℕ) (cs : List Column) (ps : List ℕ) (k : ℕ) (d : Column) → lacking n cs ps ≡ false → k < length cs → k < length ps → is_optional (get_or cs k d) ≡ false → get_or ps k 0 < n
unfolding lacking
lack-there n [] ps k d e h m o = absurd (omega arith)
lack-there n (c ∷ cs) [] k d e h m o = absurd (omega arith)
lack-there n (c ∷ cs) (p ∷ ps) zero d e h m o = go (ltb p n) refl (rw o at e)
  where
    go : (t : Bool) → ltb p n ≡ t → on t (lacking n cs ps) true ≡ false → p < n
    go true q x = ltb-true _ _ q
    go false q x = absurd (let z : ◌≡◌ {A = ℕ} 0 1 = cc in omega arith)
lack-there n (c ∷ cs) (p ∷ ps) (suc k) d e h m o = go (is_optional c) (ltb p n) e (λ x. lack-there n cs ps k d x (omega arith) (omega arith) o)
  where
    go : (t u : Bool) → on t (lacking n cs ps) (on u (lacking n cs ps) true) ≡ false → (lacking n cs ps ≡ false → get_or ps k 0 < n) → get_or ps k 0 < n
    go true u x f = f x
    go false true x f = f x
    go false false x f = absurd (let z : ◌≡◌ {A = ℕ} 0 1 = cc in omega arith)

there-lack : (n : ℕ) (cs : List Column) (ps : List ℕ) (d : Column) → ((k : ℕ) → k < length cs → is_optional (get_or cs k d) ≡ false → get_or ps k 0 < n) → lacking n cs ps ≡ false
unfolding lacking
there-lack n [] ps d f = refl
there-lack n (c ∷ cs) [] d f = refl
there-lack n (c ∷ cs) (p ∷ ps) d f = go (is_optional c) refl (there-lack n cs ps d (λ k h o. f (suc k) (omega arith) o))
  where
    go : (t : Bool) → is_optional c ≡ t → lacking n cs ps ≡ false → on t (lacking n cs ps) (on (ltb p n) (lacking n cs ps) true) ≡ false
    go true e m = m
    go false e m = rw (lt-ltb p n (f 0 (omega arith) e)) m

-- ---- the shape

-- of the first w places
apart-first : (n w : ℕ) (ps : List ℕ) → w ≤ length ps → meeting n (take w ps) ≡ false → (j k : ℕ) → j < w → k < w → get_or ps j 0 ≡ get_or ps k 0 → get_or ps j 0 < n → j ≡ k
apart-first n w ps room e j k a b q h = go (dec_lt j k) (dec_lt k j)
  where
    l : length (take w ps) ≡ w
    l = length-take-le w ps room

    x : get_or (take w ps) j 0 ≡ get_or ps j 0
    x = get_or-take w ps j 0 a

    y : get_or (take w ps) k 0 ≡ get_or ps k 0
    y = get_or-take w ps k 0 b

    go : Dec (j < k) → Dec (k < j) → j ≡ k
    go (yes m) d = absurd (meet-apart n (take w ps) j k e m (omega (arith, l)) (x ∙ q ∙ sym y) (omega (arith, x)))
    go (no m) (yes d) = absurd (meet-apart n (take w ps) k j e d (omega (arith, l)) (y ∙ sym q ∙ sym x) (omega (arith, y)))
    go (no m) (no d) = omega (arith, m, d)

first-apart : (n w : ℕ) (ps : List ℕ) → w ≤ length ps → ((j k : ℕ) → j < w → k < w → get_or ps j 0 ≡ get_or ps k 0 → get_or ps j 0 < n → j ≡ k) → meeting n (take w ps) ≡ false
first-apart n w ps room f = apart-meet n (take w ps) (λ j k a b q h. none j k a (omega (arith, l)) q h)
  where
    l : length (take w ps) ≡ w
    l = length-take-le w ps room

    none : (j k : ℕ) → j < k → k < w → get_or (take w ps) j 0 ≡ get_or (take w ps) k 0 → get_or (take w ps) j 0 < n → ⊥
    none j k a b q h =
        let x = get_or-take w ps j 0 (omega arith) in
        let y = get_or-take w ps k 0 b in
        let e : j ≡ k = f j k (omega arith) b (sym x ∙ q ∙ y) (omega arith) in
        omega arith

-- lines can be read by a shape without a fault
pub restored-sound : (t : Table) (n s : ℕ) (ps : List ℕ) → (shape_at t n s ps).fault ≡ false → length ps ≡ most → IsShape t (shape_at t n s ps)
unfolding shape_at optional_at column_at
restored-sound t n s ps e room =
    let o = or-fail (lacking n (columns_in t) ps) (meeting n (take (wanted t) ps)) e in
    let w = wanted-most t in
    record {
      room = room;
      apart = apart-first n (wanted t) ps (omega arith) o.1;
      there = λ k h x. lack-there n (columns_in t) ps k (must "" Kinds.Text) o.0 h (omega arith) x;
      found = refl;
      order = refl;
    }

-- a shape that lines can be read by has no fault by its numbers
sound-faultless : (t : Table) (h : Shape) → IsShape t h → lacking h.count (columns_in t) h.places || meeting h.count (take (wanted t) h.places) ≡ false
unfolding optional_at column_at
sound-faultless t h g =
    let w = wanted-most t in
    let r = g.room in
    rw (there-lack h.count (columns_in t) h.places (must "" Kinds.Text) g.there, first-apart h.count (wanted t) h.places (omega arith) g.apart)

-- and comes back from them
pub restored-shape : (t : Table) (h : Shape) → IsShape t h → h.fault ≡ false → shape_at t h.count h.stop h.places ≡ h
unfolding shape_at
restored-shape t h g e =
    λ i.
    record {
      fault = (sound-faultless t h g ∙ sym e) i;
      count = h.count;
      stop = h.stop;
      places = h.places;
      found = sym g.found i;
      order = sym g.order i;
    }

pub restored-labels : (t : Table) (labels : List (List ℕ)) → label_fault t labels ≡ false → shape_at t (shape_of t labels).count (shape_of t labels).stop (shape_of t labels).places ≡ shape_of t labels
restored-labels t labels e = rw (shape_is t labels e) (restored-shape t (right_shape t labels) (right-sound t labels e) refl)

-- zeroed numbers give the shape of a label line at fault
pub restored-none : (t : Table) → shape_at t 0 0 (replicate most 0) ≡ no_shape
unfolding shape_at columns_in message_columns planning_columns calendar_columns lacking visits next_from over onto
restored-none (Message f) = refl
restored-none Planning = refl
restored-none Calendar = refl
