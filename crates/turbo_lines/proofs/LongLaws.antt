use Prim.Native.Nat.{ℕ, suc, ◌+◌, ◌≤◌, ◌<◌}
use native.Mathlib.Numerals.{add-one}
use native.Mathlib.Omega.{arith}
use Rattle.std.specs.Prelude.{Some, None}
use Rattle.std.specs.Option.{unwrap_or}
use mathlib.Core.Path.{◌≡◌, refl, sym, ap, ◌∙◌}
use mathlib.Core.Bool.{Bool, true, false}
use mathlib.Core.List.{List, [], ◌∷◌, ◌++◌}
use borrow.Author.Tests.{lt-ltb, le-ltb, ltb-true, ltb-false}
use lib.ListN.{length, drop}
use Rattle.lists.specs.Logic.{on}
use Rattle.lists.specs.Each.{Each}
use Rattle.turbo.specs.Split.{until, past}
use Rattle.turbo_lines.specs.Lines.{lines, longest_line, is_long, long_line, first_long, short_front}
use Rattle.turbo_lines.specs.Claims.{Short, LongAt, LongFound, NoneLong, FrontIsBefore}
use Rattle.turbo_lines.proofs.LineLaws.{lines_cons, lines_none}

-- Laws of lines that are too long. Assumes nothing.

-- ---- by the first line

pub long-here : (n : ℕ) (l : List ℕ) (ls : List (List ℕ)) → longest_line < length l + 2 → first_long n (l ∷ ls) ≡ n
unfolding first_long
long-here n l ls h = rw (lt-ltb longest_line (length l + 2) h) refl

pub long-later : (n : ℕ) (l : List ℕ) (ls : List (List ℕ)) → Short l → first_long n (l ∷ ls) ≡ first_long (suc n) ls
unfolding first_long
long-later n l ls h = rw (le-ltb longest_line (length l + 2) h) refl

pub long-none : (n : ℕ) → first_long n [] ≡ 0
unfolding first_long
long-none n = refl

pub front_ends : (l : List ℕ) (ls : List (List ℕ)) → longest_line < length l + 2 → short_front (l ∷ ls) ≡ []
unfolding short_front
front_ends l ls h = rw (lt-ltb longest_line (length l + 2) h) refl

pub front-more : (l : List ℕ) (ls : List (List ℕ)) → Short l → short_front (l ∷ ls) ≡ l ∷ short_front ls
unfolding short_front
front-more l ls h = rw (le-ltb longest_line (length l + 2) h) refl

pub front-none : short_front [] ≡ []
unfolding short_front
front-none = refl

-- ---- by the first line of bytes, which has size bytes before its CR LF

module _ (rest : List ℕ) where
  pub bytes-none : (n : ℕ) → length rest ≤ 0 → (first_long n (lines rest) ≡ 0) × (short_front (lines rest) ≡ [])
  bytes-none n h = let e = lines_none rest h in (ap (first_long n) e ∙ long-none n, ap short_front e ∙ front-none)

  module _ (some : 0 < length rest) (size : ℕ) (is : size ≡ length (until 13 rest)) where
    -- it is too long
    pub bytes-long : (n : ℕ) → 4094 < size → (first_long n (lines rest) ≡ n) × (short_front (lines rest) ≡ [])
    bytes-long n h =
        let e = lines_cons rest some in
        let k : longest_line < length (until 13 rest) + 2 = omega arith in
        (ap (first_long n) e ∙ long-here n (until 13 rest) (lines (drop 1 (past 13 rest))) k, ap short_front e ∙ front_ends (until 13 rest) (lines (drop 1 (past 13 rest))) k)

    -- or not
    pub bytes-short : (n : ℕ) (rest' : List ℕ) → size ≤ 4094 → rest' ≡ drop 1 (past 13 rest)
        → (first_long n (lines rest) ≡ first_long (suc n) (lines rest')) × (short_front (lines rest) ≡ until 13 rest ∷ short_front (lines rest'))
    bytes-short n rest' h after-it =
        let e = lines_cons rest some ∙ ap (λ (x : List ℕ). until 13 rest ∷ lines x) (sym after-it) in
        let k : Short (until 13 rest) = omega arith in
        (ap (first_long n) e ∙ long-later n (until 13 rest) (lines rest') k, ap short_front e ∙ front-more (until 13 rest) (lines rest') k)

-- ---- the number as an Option, and as a number with 0 for none

pub line-none : (n : ℕ) (rest : List ℕ) → length rest ≤ 0 → long_line n (lines rest) ≡ None
unfolding long_line
line-none n rest h = rw (lines_none rest h) refl

module _ (rest : List ℕ) (some : 0 < length rest) where
  pub line-long : (n : ℕ) → 4094 < length (until 13 rest) → long_line n (lines rest) ≡ Some n
  unfolding long_line
  line-long n h =
      let k : longest_line < length (until 13 rest) + 2 = omega arith in
      rw (lines_cons rest some, lt-ltb longest_line (length (until 13 rest) + 2) k) refl

  pub line-short : (n : ℕ) (rest' : List ℕ) → length (until 13 rest) ≤ 4094 → rest' ≡ drop 1 (past 13 rest) → long_line n (lines rest) ≡ long_line (n + 1) (lines rest')
  unfolding long_line
  line-short n rest' h e =
      let k : Short (until 13 rest) = omega arith in
      rw (add-one, e, lines_cons rest some, le-ltb longest_line (length (until 13 rest) + 2) k) refl

pub long-number : (n : ℕ) (ls : List (List ℕ)) → first_long n ls ≡ unwrap_or (long_line n ls) 0
unfolding first_long long_line
long-number n [] = refl
long-number n (l ∷ ls) = go (is_long l) (long-number (suc n) ls)
  where
    go : (b : Bool) → first_long (suc n) ls ≡ unwrap_or (long_line (suc n) ls) 0 → on b n (first_long (suc n) ls) ≡ unwrap_or (on b (Some n) (long_line (suc n) ls)) 0
    go true e = refl
    go false e = e

-- it is not below that of the first of all
pub line-from : (n : ℕ) (ls : List (List ℕ)) (m : ℕ) → long_line n ls ≡ Some m → n ≤ m
unfolding long_line
line-from n [] m e = absurd (let z : ◌≡◌ {A = ℕ} 0 1 = cc in omega arith)
line-from n (l ∷ ls) m e = go (is_long l) e (line-from (suc n) ls m)
  where
    go : (b : Bool) → on b (Some n) (long_line (suc n) ls) ≡ Some m → (long_line (suc n) ls ≡ Some m → suc n ≤ m) → n ≤ m
    go true q ih = let z : n ≡ m = cc in omega arith
    go false q ih = omega (arith, ih q)

-- ---- all lines

pub front-few : (ls : List (List ℕ)) → length (short_front ls) ≤ length ls
unfolding short_front
front-few [] = omega arith
front-few (l ∷ ls) = go (is_long l) (front-few ls)
  where
    go : (b : Bool) → length (short_front ls) ≤ length ls → length (on b [] (l ∷ short_front ls)) ≤ suc (length ls)
    go true h = omega arith
    go false h = omega arith

pub none-long : (n : ℕ) (ls : List (List ℕ)) → 1 ≤ n → first_long n ls ≡ 0 → Each Short ls
unfolding first_long
none-long n [] h e = tt
none-long n (l ∷ ls) h e = go (is_long l) refl e (none-long (suc n) ls (omega arith))
  where
    go : (b : Bool) → is_long l ≡ b → on b n (first_long (suc n) ls) ≡ 0 → (first_long (suc n) ls ≡ 0 → Each Short ls) → Each Short (l ∷ ls)
    go true q k ih = absurd (omega arith)
    go false q k ih = (ltb-false longest_line (length l + 2) q, ih k)

pub all_short : (n : ℕ) (ls : List (List ℕ)) → Each Short ls → first_long n ls ≡ 0
all_short n [] h = long-none n
all_short n (l ∷ ls) h = long-later n l ls h.0 ∙ all_short (suc n) ls h.1

pub front-whole : (ls : List (List ℕ)) → Each Short ls → short_front ls ≡ ls
front-whole [] h = front-none
front-whole (l ∷ ls) h = front-more l ls h.0 ∙ ap (λ (xs : List (List ℕ)). l ∷ xs) (front-whole ls h.1)

-- ---- the first that is too long

-- of lines from the number n on, the one with the number m
abbrev From : ℕ → List (List ℕ) → ℕ → Type 0
From n ls m =
    (before : List (List ℕ)) × (line : List ℕ) × (after : List (List ℕ))
    × (ls ≡ before ++ line ∷ after) × Each Short before × (4096 < length line + 2) × (m ≡ n + length before)

long-from : (n : ℕ) (ls : List (List ℕ)) (m : ℕ) → 1 ≤ m → first_long n ls ≡ m → From n ls m
unfolding first_long
long-from n [] m h e = absurd (omega arith)
long-from n (l ∷ ls) m h e = go (is_long l) refl e (long-from (suc n) ls m h)
  where
    go : (b : Bool) → is_long l ≡ b → on b n (first_long (suc n) ls) ≡ m → (first_long (suc n) ls ≡ m → From (suc n) ls m) → From n (l ∷ ls) m
    go true q k ih = ([], l, ls, refl, tt, ltb-true longest_line (length l + 2) q, omega arith)
    go false q k ih =
        let (before, line, after, e, short, long, number) = ih k in
        (l ∷ before, line, after, ap (λ (xs : List (List ℕ)). l ∷ xs) e, (ltb-false longest_line (length l + 2) q, short), long, omega arith)

from-long : (n : ℕ) (before : List (List ℕ)) (line : List ℕ) (after : List (List ℕ)) → Each Short before → 4096 < length line + 2
    → (first_long n (before ++ line ∷ after) ≡ n + length before) × (short_front (before ++ line ∷ after) ≡ before)
from-long n [] line after s h = (long-here n line after h ∙ omega arith, front_ends line after h)
from-long n (l ∷ before) line after s h =
    let k = from-long (suc n) before line after s.1 h in
    (long-later n l (before ++ line ∷ after) s.0 ∙ k.0 ∙ omega arith, front-more l (before ++ line ∷ after) s.0 ∙ ap (λ (xs : List (List ℕ)). l ∷ xs) k.1)

-- ---- the claims

pub long-found : LongFound
long-found ls n h = (to, back)
  where
    to : first_long 1 ls ≡ n → LongAt ls n
    to e =
        let (before, line, after, split, short, long, number) = long-from 1 ls n h e in
        record { before = before; line = line; after = after; split = split; short = short; long = long; number = omega arith }

    back : LongAt ls n → first_long 1 ls ≡ n
    back x = ap (first_long 1) x.split ∙ (from-long 1 x.before x.line x.after x.short x.long).0 ∙ let k = x.number in omega arith

pub none_found : NoneLong
none_found ls = (none-long 1 ls (omega arith), all_short 1 ls)

pub front-before : FrontIsBefore
front-before ls = (λ n x. ap short_front x.split ∙ (from-long 1 x.before x.line x.after x.short x.long).1, front-whole ls)
