-- The binary search over any sorted list of rows: what is known between lo and hi. Assumes nothing.
use mathlib.Core.Path.{◌≡◌, sym, ap, ◌∙◌}
use mathlib.Core.Bool.{true}
use mathlib.Core.List.{List, [], ◌∷◌, ◌++◌}
use Prim.Native.Nat.{ℕ, suc, ◌+◌, ◌-◌, ◌≤◌, ◌<◌}
use native.Mathlib.Numerals.{add-one}
use native.Mathlib.Omega.{arith}
use lib.ListN.{length, get_or, take, drop, length-take, length-drop}
use lib.Seq.{take_all, take-add, drop-drop, drop-cons}
use Rattle.std.specs.declared.cmp.Ordering.TheVariants.{Less, Equal, Greater}
use Rattle.std.specs.Prelude.{Ok, Err}
use Rattle.passage.specs.Layout.{key_of}
use Rattle.keys.specs.Keys.{cmp}
use Rattle.keys.specs.Sorted.{sorted_rows, lookup_from, lookup}
use Rattle.keys.proofs.SortedLaws.{sorted-left, sorted-right, lookup-left, lookup-right, lookup-here}

-- the rows from lo up to, not including, hi
abbrev pub span : ℕ → ℕ → List (List ℕ) → List (List ℕ)
span lo hi rs = take (hi - lo) (drop lo rs)

span-split : (rs : List (List ℕ)) (lo m hi : ℕ) → lo ≤ m → m < hi → hi ≤ length rs → span lo hi rs ≡ span lo m rs ++ (get_or rs m [] ∷ span (m + 1) hi rs)
span-split rs lo m hi a b c =
    let e : hi - lo ≡ (m - lo) + (hi - m) = omega arith in
    let f : lo + (m - lo) ≡ m = omega arith in
    let g : hi - m ≡ suc (hi - (m + 1)) = omega arith in
    let h : m < length rs = omega arith in
    rw (e, take-add (m - lo) (hi - m) (drop lo rs), drop-drop (m - lo) lo rs, f, drop-cons rs m [] h, g, add-one m)

-- the rows from lo to hi are sorted, and the key is where a search of them alone finds it
pub record Seek (rs : List (List ℕ)) (k : List ℕ) (lo hi : ℕ) : Type 0 where
  pub lo-hi : lo ≤ hi
  pub hi-end : hi ≤ length rs
  pub rises : sorted_rows (span lo hi rs) ≡ true
  pub agrees : lookup k rs ≡ lookup_from lo k (span lo hi rs)

module _ (rs : List (List ℕ)) (k : List ℕ) where
  all : span 0 (length rs) rs ≡ rs
  all = take_all (length rs - 0) rs (omega arith)

  pub seek-start : sorted_rows rs ≡ true → Seek rs k 0 (length rs)
  unfolding lookup
  seek-start h = record { lo-hi = omega arith; hi-end = omega arith; rises = rw all h; agrees = rw all }

  pub seek-end : (lo hi : ℕ) → Seek rs k lo hi → hi ≤ lo → Err lo ≡ lookup k rs
  unfolding lookup_from
  seek-end lo hi s h =
      let e : hi - lo ≡ 0 = omega arith in
      rw (s.agrees, e)

-- a turn: the row at m is below the key, has it, or is above it
module _ (rs : List (List ℕ)) (k : List ℕ) (lo m hi : ℕ) (s : Seek rs k lo hi) (h : lo ≤ m) (h' : m < hi) where
  split : span lo hi rs ≡ span lo m rs ++ (get_or rs m [] ∷ span (m + 1) hi rs)
  split = span-split rs lo m hi h h' s.hi-end

  split-rises : sorted_rows (span lo m rs ++ (get_or rs m [] ∷ span (m + 1) hi rs)) ≡ true
  split-rises = rw split at s.rises

  split-agrees : lookup k rs ≡ lookup_from lo k (span lo m rs ++ (get_or rs m [] ∷ span (m + 1) hi rs))
  split-agrees = rw split at s.agrees

  place : lo + length (span lo m rs) ≡ m
  place = let e = s.hi-end in simp (length-take, length-drop) (omega arith)

  pub seek-here : cmp (key_of (get_or rs m [])) k ≡ Equal → Ok m ≡ lookup k rs
  seek-here e = sym (split-agrees ∙ lookup-here lo k (span lo m rs) (get_or rs m []) (span (m + 1) hi rs) split-rises e ∙ ap Ok place)

  pub seek-up : cmp (key_of (get_or rs m [])) k ≡ Less → Seek rs k (m + 1) hi
  seek-up e =
      let p : suc (lo + length (span lo m rs)) ≡ m + 1 = rw add-one (ap suc place) in
      record {
        lo-hi = omega arith;
        hi-end = s.hi-end;
        rises = sorted-right (span lo m rs) (get_or rs m []) (span (m + 1) hi rs) split-rises;
        agrees = split-agrees
            ∙ lookup-right lo k (span lo m rs) (get_or rs m []) (span (m + 1) hi rs) split-rises e
            ∙ ap (λ (i : ℕ). lookup_from i k (span (m + 1) hi rs)) p;
      }

  pub seek-down : cmp (key_of (get_or rs m [])) k ≡ Greater → Seek rs k lo m
  seek-down e = record {
    lo-hi = h;
    hi-end = let x = s.hi-end in omega arith;
    rises = sorted-left (span lo m rs) (get_or rs m [] ∷ span (m + 1) hi rs) split-rises;
    agrees = split-agrees ∙ lookup-left lo k (span lo m rs) (get_or rs m []) (span (m + 1) hi rs) e;
  }
