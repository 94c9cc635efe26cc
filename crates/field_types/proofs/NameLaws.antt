-- Words: the first that the field is gives its place, and nothing else gives one. Assumes nothing.
use mathlib.Core.Path.{◌≡◌, ◌∙◌, refl, sym, ap}
use mathlib.Core.Bool.{Bool, true, false}
use mathlib.Core.List.{List, [], ◌∷◌}
use Prim.Native.Nat.{ℕ, suc, ◌+◌, ◌-◌, ◌<◌, ◌≤◌}
use Prim.Native.String.{String}
use native.Mathlib.Nat.{add-zero, add-suc}
use native.Mathlib.Omega.{arith}
use lib.ListN.{length, get_or, drop}
use lib.Seq.{drop-cons, drop-length}
use Rattle.std.specs.Prelude.{Some, None}
use Rattle.lists.specs.Logic.{on}
use Rattle.lists.specs.Text.{bytes, same}
use Rattle.lists.proofs.TextLaws.{same-equal}
use Rattle.field_types.specs.Names.{name_from}
use Rattle.field_types.proofs.DigitLaws.{never, same-is}

-- what a reader knows that has tried the first i words, coded from k on: the field, and that the words behind them decide
pub record Tried (k : ℕ) (ws : List String) (i : ℕ) : Type 0 where
  pub field : List ℕ
  pub left : name_from k ws field ≡ name_from (k + i) (drop i ws) field

pub nothing-tried : (k : ℕ) (ws : List String) (f : List ℕ) → name_from k ws f ≡ name_from (k + 0) ws f
nothing-tried k ws f = ap (λ (n : ℕ). name_from n ws f) (sym (add-zero k))

abbrev pub untried : (k : ℕ) (ws : List String) → List ℕ → Tried k ws 0
untried k ws f = record { field = f; left = nothing-tried k ws f }

-- word i is tried, b the test's answer: the field is that word and has its code, or is another
module _ {k : ℕ} {ws : List String} {i : ℕ} (t : Tried k ws i) {b : Bool} (h : i < length ws) where
  pub this-word : b ≡ true → b ≡ same t.field (bytes (get_or ws i "")) → Some (k + i) ≡ name_from k ws t.field
  this-word p q = sym (t.left ∙ rw (drop-cons ws i "" h, sym q ∙ p))

  pub one_more : b ≡ false → b ≡ same t.field (bytes (get_or ws i "")) → name_from k ws t.field ≡ name_from (k + suc i) (drop (suc i) ws) t.field
  one_more p q = t.left ∙ rw (drop-cons ws i "" h, sym q ∙ p, add-suc)

  abbrev pub other_word : b ≡ false → b ≡ same t.field (bytes (get_or ws i "")) → Tried k ws (suc i)
  other_word p q = record { field = t.field; left = one_more p q }

-- all words are tried
pub no_word : {k : ℕ} {ws : List String} → (t : Tried k ws (length ws)) → None ≡ name_from k ws t.field
no_word {k} {ws} t = sym (t.left ∙ rw (drop-length ws))

-- the field is the word at the place that it gives
pub record Named (k : ℕ) (ws : List String) (f : List ℕ) (n : ℕ) : Type 0 where
  pub from : k ≤ n
  pub below : n < k + length ws
  pub word : f ≡ bytes (get_or ws (n - k) "")

pub named : (ws : List String) (k : ℕ) (f : List ℕ) {n : ℕ} → Some n ≡ name_from k ws f → Named k ws f n
named [] k f e = never e
named (w ∷ ws) k f {n} e = go (same f (bytes w)) refl e (λ t. named ws (suc k) f t)
  where
    go :
        (b : Bool) → same f (bytes w) ≡ b → Some n ≡ on b (Some k) (name_from (suc k) ws f)
        → (Some n ≡ name_from (suc k) ws f → Named (suc k) ws f n)
        → Named k (w ∷ ws) f n
    go true t p r =
        let q : n - k ≡ 0 = omega (arith, same-is p) in
        record {
          from = omega (arith, same-is p);
          below = omega (arith, same-is p);
          word = same-equal f (bytes w) t ∙ ap (λ (j : ℕ). bytes (get_or (w ∷ ws) j "")) (sym q);
        }
    go false t p r =
        let s = r p in
        let q : n - k ≡ suc (n - suc k) = omega arith in
        record {
          from = omega arith;
          below = omega arith;
          word = s.word ∙ ap (λ (j : ℕ). bytes (get_or (w ∷ ws) j "")) (sym q);
        }
