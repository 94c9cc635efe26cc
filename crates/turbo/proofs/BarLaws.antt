-- How many fields there are, by the bars counted so far: byte by byte, and in blocks of any size. Assumes nothing.
use Prim.Native.Nat.{ℕ, suc, ◌+◌, ◌*◌, ◌/◌, ◌≤◌, ◌<◌}
use native.Mathlib.Numerals.{add-one}
use native.Mathlib.Omega.{arith}
use mathlib.Core.Path.{◌≡◌, refl, sym, ap, ◌∙◌}
use mathlib.Core.Bool.{Bool, true, false, cond}
use mathlib.Core.List.{List, [], ◌∷◌, ◌++◌}
use lib.ListN.{length, get_or, take, drop, length-drop}
use lib.Seq.{length-take-le}
use lib.Dec.{eqb}
use Rattle.std.specs.List.{count_by}
use Rattle.std.specs.Simd.{first_chunks}
use Rattle.std.proofs.lemmas.List.{take-append-drop}
use Rattle.std.proofs.lemmas.List.Sums.{count_by-le-length, sum_by-append}
use Rattle.std.proofs.Math.Nat.{mul-suc, mul-zero, mul_comm, mul-div-le}
use Rattle.std.proofs.Math.Seq.{take-add}
use Rattle.lists.specs.Logic.{on}
use Rattle.lists.proofs.ScanLaws.{chunk-at, chunk-within}
use Rattle.turbo.specs.Split.{into_first, fields}
use Rattle.turbo.specs.inner.Bars.{is_bar}
use Rattle.turbo.proofs.SplitLaws.{onto-length, fields-some}

bars-append : (l m : List ℕ) → count_by is_bar (l ++ m) ≡ count_by is_bar l + count_by is_bar m
bars-append l m = sum_by-append (λ x. cond (is_bar x) 1 0) l m

-- a line has a field more than bars
pub fields-bars : (l : List ℕ) → length (fields l) ≡ count_by is_bar l + 1
unfolding fields
fields-bars [] = refl
fields-bars (b ∷ l) = go (eqb b 124) (fields-bars l) ∙ ap (λ k. k + 1) (sym (bars-append (b ∷ []) l))
  where
    go : (t : Bool) → length (fields l) ≡ count_by is_bar l + 1 → length (on t ([] ∷ fields l) (into_first b (fields l))) ≡ 0 + cond t 1 0 + count_by is_bar l + 1
    go true h = omega (arith, h)
    go false h = omega (arith, h, onto-length b (fields l) (fields-some l))

pub bars-most : (l : List ℕ) (i : ℕ) → i ≤ length l → count_by is_bar (take i l) ≤ i
bars-most l i h = omega (arith, count_by-le-length is_bar (take i l), length-take-le i l h)

-- the chunks cs of n bytes: none of them, and one more
pub chunk-none : (n : ℕ) (l : List ℕ) → 0 ≡ count_by is_bar (take (n * 0) l)
chunk-none n l = ap (λ k. count_by is_bar (take k l)) (sym (mul-zero n))

module _ (l : List ℕ) (cs : List (List ℕ)) (n : ℕ) (e : cs ≡ first_chunks n (length l / n) l) (i : ℕ) (h : i < length l / n) (k : ℕ) (c : k ≡ count_by is_bar (take (n * i) l)) where
  pub chunk-bars : (block d : List ℕ) (b : ℕ) → block ≡ get_or cs i d → b ≡ count_by is_bar block → k + b ≡ count_by is_bar (take (n * (i + 1)) l)
  chunk-bars block d b y f =
      let q : n * (i + 1) ≡ n * i + n = ap (λ k. n * k) (add-one i) ∙ mul-suc n i in
      let x : block ≡ take n (drop (n * i) l) = y ∙ ap (λ x. get_or x i d) e ∙ chunk-at n (length l / n) i l d h in
      let t : count_by is_bar (take (n * (i + 1)) l) ≡ count_by is_bar (take (n * i) l) + count_by is_bar (take n (drop (n * i) l)) =
      ap (λ k. count_by is_bar (take k l)) q ∙ ap (count_by is_bar) (take-add (n * i) n l) ∙ bars-append (take (n * i) l) (take n (drop (n * i) l)) in
      omega (arith, c, f, t, ap (count_by is_bar) x)

  -- they are not many
  pub chunk-few : k ≤ length l
  chunk-few =
      let w = chunk-within n i l h in
      omega (arith, c, w, bars-most l (n * i) (omega (arith, w)))

-- all chunks, and what is left
pub rest-bars : (l : List ℕ) {rest : List ℕ} (n : ℕ) {i k : ℕ} → rest ≡ drop (length l / n * n) l → i ≡ length l / n → k ≡ count_by is_bar (take (n * i) l) → (count_by is_bar l ≡ k + count_by is_bar rest) × (k + length rest ≤ length l)
rest-bars l {rest} n {i} {k} e h c =
    let z : length l / n * n ≡ n * i = mul_comm (length l / n) n ∙ ap (λ x. n * x) (sym h) in
    let r : rest ≡ drop (n * i) l = e ∙ ap (λ x. drop x l) z in
    let w : n * i ≤ length l = omega (arith, mul-div-le (length l) n, ap (λ x. n * x) h) in
    let t : count_by is_bar l ≡ count_by is_bar (take (n * i) l) + count_by is_bar (drop (n * i) l) =
    ap (count_by is_bar) (sym (take-append-drop (n * i) l)) ∙ bars-append (take (n * i) l) (drop (n * i) l) in
    (omega (arith, t, c, ap (count_by is_bar) r), omega (arith, c, w, bars-most l (n * i) w, ap length r, length-drop (n * i) l))
