-- Lists that are compared piece by piece. Assumes nothing.
use Prim.Native.Nat.{ℕ, ◌+◌, ◌<◌}
use native.Mathlib.Omega.{arith}
use mathlib.Core.Path.{◌≡◌, refl, sym, ap, ◌∙◌}
use mathlib.Core.Bool.{Bool, true, false, not, ◌||◌, ◌&&◌}
use mathlib.Core.List.{List, [], ◌∷◌, ◌++◌}
use lib.Dec.{eqb}
use lib.ListN.{length, take, get_or}
use lib.Seq.{take_all, length-take-le}
use Rattle.lists.proofs.LogicLaws.{and_assoc}
use Rattle.lists.specs.Text.{same}
use Rattle.lists.specs.Part.{part}
use Rattle.lists.proofs.PartLaws.{part-zero, part-snoc, length_part, take_snoc}

pub same-append : (a b c d : List ℕ) → length a ≡ length b → same (a ++ c) (b ++ d) ≡ (same a b && same c d)
unfolding same
same-append [] [] c d e = refl
same-append [] (y ∷ b) c d e = absurd (omega arith)
same-append (x ∷ a) [] c d e = absurd (omega arith)
same-append (x ∷ a) (y ∷ b) c d e = ap (◌&&◌ (eqb x y)) (same-append a b c d (omega arith)) ∙ sym (and_assoc (eqb x y) (same a b) (same c d))

-- ---- byte by byte, without a branch

same-one : (x y : ℕ) → same (x ∷ []) (y ∷ []) ≡ eqb x y
unfolding same
same-one x y = go (eqb x y)
  where
    go : (b : Bool) → (b && true) ≡ b
    go true = refl
    go false = refl

or-not : (s e : Bool) → (not s || not e) ≡ not (s && e)
or-not true true = refl
or-not true false = refl
or-not false true = refl
or-not false false = refl

not-not : (b : Bool) → not (not b) ≡ b
not-not true = refl
not-not false = refl

module _ (q : ℕ) (a v : List ℕ) where
  pub differ-start : false ≡ not (same (take 0 a) (part q 0 v))
  unfolding same
  differ-start = rw (part-zero q v)

  pub differ-turn : (i : ℕ) (any : Bool) → any ≡ not (same (take i a) (part q i v)) → i < length a → q + i < length v
      → (any || not (eqb (get_or a i 0) (get_or v (q + i) 0))) ≡ not (same (take (i + 1) a) (part q (i + 1) v))
  differ-turn i any e h k =
      let x = get_or a i 0 in
      let y = get_or v (q + i) 0 in
      let l : length (take i a) ≡ length (part q i v) = length-take-le i a (omega arith) ∙ sym (length_part q i v (omega arith)) in
      rw (e, take_snoc i a h, part-snoc q i v k, same-append (take i a) (part q i v) (x ∷ []) (y ∷ []) l, same-one x y)
      (or-not (same (take i a) (part q i v)) (eqb x y))

  pub differ-end : (i n : ℕ) (any : Bool) → any ≡ not (same (take i a) (part q i v)) → i ≡ n → length a ≡ n → not any ≡ same a (part q n v)
  differ-end i n any e k l =
      rw (e, not-not (same (take i a) (part q i v)), k) (ap (λ (b : List ℕ). same b (part q n v)) (take_all n a (omega arith)))
