-- What the functions cite: parts, words, leading numbers and writes. Assumes nothing.
use mathlib.Core.Path.{◌≡◌, refl, sym, ap, ◌∙◌}
use mathlib.Core.Bool.{Bool, true, false, not, true≢false, false≢true}
use mathlib.Core.List.{List, [], ◌∷◌}
use mathlib.Core.Logic.{◌⊎◌, ⊎_elim}
use Prim.Native.Nat.{ℕ, zero, suc, ◌+◌, ◌-◌, ◌*◌, ◌%◌, ◌≤◌, ◌<◌, min}
use native.Mathlib.Nat.{le_of_suc-le-suc, not-suc-le-zero}
use native.Mathlib.Numerals.{add-one}
use native.Mathlib.Omega.{arith}
use borrow.Author.Tests.{leb-true, leb-false, lt-leb, le-leb, not-true}
use lib.Dec.{leb}
use lib.ListN.{length, take, drop, get_or, set, replicate, drop_of_length-le, length-drop}
use lib.Seq.{drop-cons, take_all}
use Rattle.lists.specs.Logic.{on, within}
use Rattle.lists.specs.Scan.{IsFirst}
use Rattle.lists.specs.Part.{onto, over}
use Rattle.lists.proofs.PartLaws.{tail_all}
use Rattle.lists.proofs.ScanLaws.{first-counted}
use Rattle.lists.proofs.OverLaws.{over-nil}
use Rattle.script_text.specs.Rules.{is_blank, is_kind, run_in, from_word, word_from, word_at, leading_from, place_behind, appended}

-- ---- parts

-- a front, as `&l[0..n]` is written out
pub front-is : (n : ℕ) (l : List ℕ) → take (n - 0) l ≡ take n l
front-is n l = let e : n - 0 ≡ n = omega arith in ap (λ (k : ℕ). take k l) e

-- a front, at m where it ends
pub take_min : (n m : ℕ) (l : List ℕ) → m ≡ min n (length l) → take m l ≡ take n l
take_min n m l e = go (leb n (length l)) refl
  where
    go : (t : Bool) → leb n (length l) ≡ t → take m l ≡ take n l
    go true q =
        let h = leb-true n (length l) q in
        let z : m ≡ n = omega (arith, h) in
        ap (λ (k : ℕ). take k l) z
    go false q =
        let h = leb-false n (length l) q in
        take_all m l (omega (arith, h)) ∙ sym (take_all n l (omega (arith, h)))

pub drop_min : (a : ℕ) (l : List ℕ) → drop (min a (length l)) l ≡ drop a l
drop_min a l = go (leb a (length l)) refl
  where
    go : (t : Bool) → leb a (length l) ≡ t → drop (min a (length l)) l ≡ drop a l
    go true e =
        let h = leb-true a (length l) e in
        let m : min a (length l) ≡ a = omega (arith, h) in
        ap (λ (n : ℕ). drop n l) m
    go false e =
        let h = leb-false a (length l) e in
        let m : min a (length l) ≡ length l = omega (arith, h) in
        ap (λ (n : ℕ). drop n l) m ∙ drop_of_length-le l {i = length l} (omega arith) ∙ sym (drop_of_length-le l {i = a} (omega (arith, h)))

-- from a on, at n where a is, or at the end
pub part-is : (a n : ℕ) (f l : List ℕ) → n ≡ min a (length f) → f ≡ l → take (length f - n) (drop n f) ≡ drop a l
part-is a n f l e g = tail_all n f ∙ ap (λ (k : ℕ). drop k f) e ∙ drop_min a f ∙ ap (drop a) g

-- behind a place, at m where it is, or at the end
pub after-min : (n m : ℕ) (l : List ℕ) → m ≡ min n (length l) → drop (m + 1) l ≡ drop (n + 1) l
after-min n m l e = go (leb n (length l)) refl
  where
    go : (t : Bool) → leb n (length l) ≡ t → drop (m + 1) l ≡ drop (n + 1) l
    go true q =
        let h = leb-true n (length l) q in
        let z : m ≡ n = omega (arith, h) in
        ap (λ (k : ℕ). drop (k + 1) l) z
    go false q =
        let h = leb-false n (length l) q in
        drop_of_length-le l {i = m + 1} (omega (arith, h)) ∙ sym (drop_of_length-le l {i = n + 1} (omega (arith, h)))

-- it is shorter, unless nothing is there
pub after-shorter : (n : ℕ) (l r : List ℕ) → r ≡ drop (n + 1) l → length r ≤ length l - 1
after-shorter n l r e = omega (arith, ap length e, length-drop (n + 1) l)

-- ---- words

-- a byte of the other kind
kind-off : (t : Bool) (b : ℕ) → is_kind (not t) b ≡ true → is_kind t b ≡ false
kind-off true b e = not-true (is_blank b) e
kind-off false b e = ap not e

kind-on : (t : Bool) (b : ℕ) → is_kind (not t) b ≡ false → is_kind t b ≡ true
kind-on true b e = go (is_blank b) e
  where
    go : (r : Bool) → not r ≡ false → r ≡ true
    go true q = refl
    go false q = absurd (true≢false q)
kind-on false b e = ap not e

-- where a test first holds that tells bytes of the other kind
pub run-first : {may : ℕ → Bool → Type 0} {n : ℕ} (t : Bool) (l : List ℕ) → IsFirst may l n → ((b : ℕ) → may b true → is_kind (not t) b ≡ true) → ((b : ℕ) → may b false → is_kind (not t) b ≡ false) → n ≡ run_in t l
unfolding run_in
run-first {may} {n} t l f off on_ = first-counted {may = may} (run_in t) refl there past_ l n f
  where
    there : (b : ℕ) (l : List ℕ) → may b true → on (is_kind t b) (suc (run_in t l)) 0 ≡ 0
    there b l p = rw (kind-off t b (off b p)) refl

    past_ : (b : ℕ) (l : List ℕ) → may b false → on (is_kind t b) (suc (run_in t l)) 0 ≡ suc (run_in t l)
    past_ b l p = rw (kind-on t b (on_ b p)) refl

pub from-word : (l : List ℕ) (n : ℕ) → n ≡ run_in true l → take (length l - n) (drop n l) ≡ from_word l
unfolding from_word
from-word l n e = tail_all n l ∙ ap (λ (k : ℕ). drop k l) e

pub next_word : (l : List ℕ) (n : ℕ) → n ≡ run_in false l → take (length l - n) (drop n l) ≡ drop (run_in false l) l
next_word l n e = tail_all n l ∙ ap (λ (k : ℕ). drop k l) e

-- a kind, by whether it is a blank
pub kind-true : (k : Bool) (b : ℕ) (r : Bool) → k ≡ true → r ≡ is_blank b → r ≡ is_kind k b
kind-true true b r h e = e
kind-true false b r h e = absurd (false≢true h)

pub kind-false : (k : Bool) (b : ℕ) (r : Bool) → k ≡ false → r ≡ is_blank b → not r ≡ is_kind k b
kind-false false b r h e = ap not e
kind-false true b r h e = absurd (true≢false h)

pub word-start : (k : ℕ) (l t : List ℕ) → t ≡ from_word l → word_from k t ≡ word_at k l
unfolding word_at
word-start k l t e = ap (word_from k) e

pub word_next : (k : ℕ) (t u : List ℕ) → 0 < k → u ≡ from_word (drop (run_in false t) t) → word_from (k - 1) u ≡ word_from k t
unfolding word_from
word_next zero t u h e = absurd (omega arith)
word_next (suc k) t u h e =
    let m : suc k - 1 ≡ k = omega arith in
    ap (λ (j : ℕ). word_from j u) m ∙ ap (word_from k) e

pub word_end : (k n : ℕ) (t : List ℕ) → k ≡ 0 → n ≡ run_in false t → take (n - 0) t ≡ word_from k t
unfolding word_from
word_end zero n t h e = front-is n t ∙ ap (λ (j : ℕ). take j t) e
word_end (suc k) n t h e = absurd (omega arith)

-- ---- leading numbers

pub leading-stop : (n : ℕ) (l : List ℕ) (i : ℕ) → i < length l → within 48 57 (get_or l i 0) ≡ false → leading_from n (drop i l) ≡ n
unfolding leading_from
leading-stop n l i h e = rw (drop-cons l i 0 h) (rw e)

pub leading-on : (n m : ℕ) (l : List ℕ) (i : ℕ) → i < length l → within 48 57 (get_or l i 0) ≡ true → m ≡ n % 100000000000 * 10 + (get_or l i 0 - 48)
    → leading_from n (drop i l) ≡ leading_from m (drop (i + 1) l)
unfolding leading_from
leading-on n m l i h e f = rw (add-one, drop-cons l i 0 h) (rw (e, f))

pub leading_end : (n : ℕ) (l : List ℕ) (i : ℕ) → length l ≤ i → leading_from n (drop i l) ≡ n
unfolding leading_from
leading_end n l i h = rw (drop_of_length-le l h)

-- ---- writes

-- what is left to be written, after one element more
pub over-set : (at v : ℕ) (vs d : List ℕ) → over (suc at) vs (set d at v) ≡ over at (v ∷ vs) d
unfolding over onto
over-set zero v vs [] = refl
over-set zero v vs (x ∷ d) = refl
over-set (suc at) v vs [] = refl
over-set (suc at) v vs (x ∷ d) = ap (λ (l : List ℕ). x ∷ l) (over-set at v vs d)

onto-none : (vs : List ℕ) → onto vs [] ≡ []
unfolding onto
onto-none [] = refl
onto-none (v ∷ vs) = refl

-- a write behind the end
pub over-past : (at : ℕ) (vs d : List ℕ) → length d ≤ at → over at vs d ≡ d
unfolding over
over-past zero vs [] h = onto-none vs
over-past zero vs (x ∷ d) h = absurd (not-suc-le-zero h)
over-past (suc at) vs [] h = refl
over-past (suc at) vs (x ∷ d) h = ap (λ (l : List ℕ). x ∷ l) (over-past at vs d (le_of_suc-le-suc h))

pub pad-turn : (v at left : ℕ) (s : List ℕ) → 0 < left → over (at + 1) (replicate (left - 1) v) (set s at v) ≡ over at (replicate left v) s
pad-turn v at zero s h = absurd (omega arith)
pad-turn v at (suc left) s h =
    let m : suc left - 1 ≡ left = omega arith in
    rw (add-one at, m) (over-set at v (replicate left v) s)

-- where the writing ends: all is written, or the bytes are full
pub pad-end : (n many end left l : ℕ) → end + left ≡ n + many → n ≤ end → end - n ≤ l - n → (left ≡ 0) ⊎ (l ≤ end) → end ≡ n + min many (l - n)
pad-end n many end left l e f g h = ⊎_elim (λ z. omega (arith, z)) (λ z. omega (arith, z)) h

pub pad-done : (v at left : ℕ) (s : List ℕ) → left ≡ 0 → s ≡ over at (replicate left v) s
pad-done v at left s e = rw e (sym (over-nil at s))

-- bytes that do not fit, and bytes that do
pub append-none : (n : ℕ) (b s : List ℕ) → length s < n + length b → (n ≡ place_behind n b s) × (s ≡ appended n b s)
unfolding place_behind appended
append-none n b s h = (rw (lt-leb (n + length b) (length s) h), rw (lt-leb (n + length b) (length s) h))

pub append-fits : (n : ℕ) (b s t : List ℕ) → n + length b ≤ length s → t ≡ over n b s → (n + length b ≡ place_behind n b s) × (t ≡ appended n b s)
unfolding place_behind appended
append-fits n b s t h e = (rw (le-leb (n + length b) (length s) h), rw (le-leb (n + length b) (length s) h) e)
