-- Keys compared a word at a time. Assumes nothing.
use mathlib.Core.Path.{◌≡◌, refl, sym, ap, ◌∙◌}
use mathlib.Core.Bool.{Bool, true, false, ◌&&◌, ◌||◌}
use mathlib.Core.List.{List, [], ◌∷◌, ◌++◌}
use Prim.Native.Nat.{ℕ, ◌+◌, ◌*◌, ◌-◌, ◌≤◌, ◌<◌}
use mathlib.Core.Logic.{◌⊎◌, inl, inr}
use native.Mathlib.Omega.{arith}
use borrow.Author.Tests.{lt-ltb, le-ltb, eq-eqb, ne_eqb}
use lib.Dec.{eqb, ltb}
use lib.ListN.{length, get_or}
use Rattle.lists.specs.Logic.{on}
use Rattle.lists.specs.Each.{Bytes}
use Rattle.lists.specs.Part.{part}
use Rattle.lists.specs.BigEndian.{number, precedes}
use Rattle.lists.proofs.EachLaws.{bytes-part}
use Rattle.lists.proofs.PartLaws.{part-add, part_step, part-done, length_part}
use Rattle.lists.proofs.NumberTurnLaws.{read-start, read-turn}
use Rattle.lists.proofs.BigEndianLaws.{number_same, precedes-number}
use Rattle.std.specs.declared.cmp.Ordering.TheVariants.{Less, Equal, Greater}
use Rattle.keys.specs.Keys.{cmp, by_byte}
use Rattle.keys.specs.Sorted.{is_less}
use Rattle.std.specs.Ordering.{nat_cmp}
use Rattle.keys.proofs.KeyLaws.{tri, by_byte-lt, by_byte-eq, by_byte-gt, flipped}

-- a word by its bytes
pub word-is :
    (at : ℕ) (s : List ℕ) → at + 8 ≤ length s
    → get_or s at 0 * 72057594037927936 + get_or s (at + 1) 0 * 281474976710656 + get_or s (at + 2) 0 * 1099511627776 + get_or s (at + 3) 0 * 4294967296
    + get_or s (at + 4) 0 * 16777216 + get_or s (at + 5) 0 * 65536 + get_or s (at + 6) 0 * 256 + get_or s (at + 7) 0
    ≡ number (part at 8 s)
word-is at s h =
    let z : at + 0 ≡ at = omega arith in
    let e0 : 0 ≡ number (part at 0 s) = read-start at s in
    let e1 : number (part at 0 s) * 256 + get_or s at 0 ≡ number (part at 1 s) = rw z at (read-turn at 0 (number (part at 0 s)) s refl (omega arith)) in
    let e2 : number (part at 1 s) * 256 + get_or s (at + 1) 0 ≡ number (part at 2 s) = read-turn at 1 (number (part at 1 s)) s refl (omega arith) in
    let e3 : number (part at 2 s) * 256 + get_or s (at + 2) 0 ≡ number (part at 3 s) = read-turn at 2 (number (part at 2 s)) s refl (omega arith) in
    let e4 : number (part at 3 s) * 256 + get_or s (at + 3) 0 ≡ number (part at 4 s) = read-turn at 3 (number (part at 3 s)) s refl (omega arith) in
    let e5 : number (part at 4 s) * 256 + get_or s (at + 4) 0 ≡ number (part at 5 s) = read-turn at 4 (number (part at 4 s)) s refl (omega arith) in
    let e6 : number (part at 5 s) * 256 + get_or s (at + 5) 0 ≡ number (part at 6 s) = read-turn at 5 (number (part at 5 s)) s refl (omega arith) in
    let e7 : number (part at 6 s) * 256 + get_or s (at + 6) 0 ≡ number (part at 7 s) = read-turn at 6 (number (part at 6 s)) s refl (omega arith) in
    let e8 : number (part at 7 s) * 256 + get_or s (at + 7) 0 ≡ number (part at 8 s) = read-turn at 7 (number (part at 7 s)) s refl (omega arith) in
    omega arith

-- ---- as many bytes in front decide, or else the rest

precedes-less : (l m u v : List ℕ) → length l ≡ length m → precedes l m ≡ true → cmp (l ++ u) (m ++ v) ≡ Less
unfolding precedes cmp
precedes-less [] [] u v e p = let z : ◌≡◌ {A = ℕ} 0 1 = cc in absurd (omega arith)
precedes-less [] (y ∷ m) u v e p = absurd (omega arith)
precedes-less (x ∷ l) [] u v e p = absurd (omega arith)
precedes-less (x ∷ l) (y ∷ m) u v e p = go (ltb x y) (ltb y x) p (precedes-less l m u v (omega arith))
  where
    go : (s t : Bool) → on s true (on t false (precedes l m)) ≡ true → (precedes l m ≡ true → cmp (l ++ u) (m ++ v) ≡ Less) → on s Less (on t Greater (cmp (l ++ u) (m ++ v))) ≡ Less
    go true t h ih = refl
    go false true h ih = let z : ◌≡◌ {A = ℕ} 0 1 = cc in absurd (omega arith)
    go false false h ih = ih h

equal-front : (l u v : List ℕ) → cmp (l ++ u) (l ++ v) ≡ cmp u v
unfolding cmp
equal-front [] u v = refl
equal-front (x ∷ l) u v = by_byte-eq x x _ refl ∙ equal-front l u v

module _ (l m u v : List ℕ) (e : length l ≡ length m) (h : Bytes l) (k : Bytes m) where
  front_less : number l < number m → cmp (l ++ u) (m ++ v) ≡ Less
  front_less n = precedes-less l m u v e (precedes-number l m e h k ∙ lt-ltb _ _ n)

  front_same : number l ≡ number m → cmp (l ++ u) (m ++ v) ≡ cmp u v
  front_same n = rw (number_same l m e h k n) (equal-front m u v)

joined : (u e l s r : Bool) → u || e && l || e && s && r ≡ u || e && (l || s && r)
joined true e l s r = refl
joined false true l s r = refl
joined false false l s r = refl

nat-by_byte : (x y : ℕ) → nat_cmp x y ≡ by_byte x y Equal
nat-by_byte x y = go (tri x y)
  where
    go : (x < y) ⊎ ((x ≡ y) ⊎ (y < x)) → nat_cmp x y ≡ by_byte x y Equal
    go (inl h) = rw (lt-ltb x y h)
    go (inr (inl h)) = rw (le-ltb x y (omega arith), le-ltb y x (omega arith), eq-eqb x y h)
    go (inr (inr h)) = rw (le-ltb x y (omega arith), ne_eqb x y (λ e. omega arith), lt-ltb y x h)

-- ---- a turn of the loop: x and y are the words at i of two parts of n bytes

module _ (a b : List ℕ) (p q n i w : ℕ) (ha : p + n ≤ length a) (hb : q + n ≤ length b) (hi : i + w ≤ n) (ka : Bytes a) (kb : Bytes b)
    (x y : ℕ) (ex : x ≡ number (part (p + i) w a)) (ey : y ≡ number (part (q + i) w b)) where
  split : (t : List ℕ) (r : ℕ) → part (r + i) (n - i) t ≡ part (r + i) w t ++ part (r + (i + w)) (n - (i + w)) t
  split t r =
      let e : n - i ≡ w + (n - (i + w)) = omega arith in
      let f : r + (i + w) ≡ r + i + w = omega arith in
      rw (e, f) (part-add (r + i) w (n - (i + w)) t)

  wide : length (part (p + i) w a) ≡ length (part (q + i) w b)
  wide = length_part (p + i) w a (omega arith) ∙ sym (length_part (q + i) w b (omega arith))

  abbrev front : List ℕ → ℕ → List ℕ
  front t r = part (r + i) w t

  abbrev rest : List ℕ → ℕ → List ℕ
  rest t r = part (r + (i + w)) (n - (i + w)) t

  abbrev in-a : Bytes (front a p)
  in-a = bytes-part (p + i) w a ka

  abbrev in_b : Bytes (front b q)
  in_b = bytes-part (q + i) w b kb

  pub word-less : x < y → cmp (part (p + i) (n - i) a) (part (q + i) (n - i) b) ≡ Less
  word-less h =
      let k : number (front a p) < number (front b q) = omega arith in
      rw (split a p, split b q) (front_less (front a p) (front b q) (rest a p) (rest b q) wide in-a in_b k)

  pub word_more : y < x → cmp (part (p + i) (n - i) a) (part (q + i) (n - i) b) ≡ Greater
  word_more h =
      let k : number (front b q) < number (front a p) = omega arith in
      let e : cmp (part (q + i) (n - i) b) (part (p + i) (n - i) a) ≡ Less =
      rw (split a p, split b q) (front_less (front b q) (front a p) (rest b q) (rest a p) (sym wide) in_b in-a k) in
      flipped _ _ Less e

  pub word_same : y ≤ x → x ≤ y → cmp (part (p + i) (n - i) a) (part (q + i) (n - i) b) ≡ cmp (rest a p) (rest b q)
  word_same h k =
      let e : number (front a p) ≡ number (front b q) = omega arith in
      rw (split a p, split b q) (front_same (front a p) (front b q) (rest a p) (rest b q) wide in-a in_b e)

  -- words that differ decide
  pub words-decide : (x ≡ y → ⊥) → nat_cmp x y ≡ cmp (part (p + i) (n - i) a) (part (q + i) (n - i) b)
  words-decide d = go (tri x y)
    where
      go : (x < y) ⊎ ((x ≡ y) ⊎ (y < x)) → nat_cmp x y ≡ cmp (part (p + i) (n - i) a) (part (q + i) (n - i) b)
      go (inl h) = nat-by_byte x y ∙ by_byte-lt x y Equal h ∙ sym (word-less h)
      go (inr (inl h)) = absurd (d h)
      go (inr (inr h)) = nat-by_byte x y ∙ by_byte-gt x y Equal h ∙ sym (word_more h)

  -- whether the first is below, without a branch
  word-decides : is_less (cmp (part (p + i) (n - i) a) (part (q + i) (n - i) b)) ≡ ltb x y || eqb x y && is_less (cmp (rest a p) (rest b q))
  word-decides = go (tri x y)
    where
      go : (x < y) ⊎ ((x ≡ y) ⊎ (y < x)) → is_less (cmp (part (p + i) (n - i) a) (part (q + i) (n - i) b)) ≡ ltb x y || eqb x y && is_less (cmp (rest a p) (rest b q))
      go (inl h) = ap is_less (word-less h) ∙ rw (lt-ltb x y h)
      go (inr (inl h)) = ap is_less (word_same (omega arith) (omega arith)) ∙ rw (le-ltb x y (omega arith), eq-eqb x y h)
      go (inr (inr h)) = ap is_less (word_more h) ∙ rw (le-ltb x y (omega arith), ne_eqb x y (λ e. omega arith))

  pub below-turn : (below equal : Bool)
      → below || equal && ltb x y || equal && eqb x y && is_less (cmp (rest a p) (rest b q)) ≡ below || equal && is_less (cmp (part (p + i) (n - i) a) (part (q + i) (n - i) b))
  below-turn below equal = rw word-decides (joined below equal (ltb x y) (eqb x y) (is_less (cmp (rest a p) (rest b q))))

-- ---- the last byte

last_byte : (a b : List ℕ) (p q n i j : ℕ) → p + n ≤ length a → q + n ≤ length b → i ≡ j → j + 1 ≡ n
    → cmp (part (p + i) (n - i) a) (part (q + i) (n - i) b) ≡ by_byte (get_or a (p + j) 0) (get_or b (q + j) 0) Equal
unfolding cmp
last_byte a b p q n i j h k e f =
    rw (e, part_step a p n j (omega arith) (omega arith), part_step b q n j (omega arith) (omega arith), part-done a (p + (j + 1)) n (j + 1) (omega arith), part-done b (q + (j + 1)) n (j + 1) (omega arith))

pub last-decides : (a b : List ℕ) (p q n i j : ℕ) → p + n ≤ length a → q + n ≤ length b → i ≡ j → j + 1 ≡ n
    → nat_cmp (get_or a (p + j) 0) (get_or b (q + j) 0) ≡ cmp (part (p + i) (n - i) a) (part (q + i) (n - i) b)
last-decides a b p q n i j h k e f = nat-by_byte (get_or a (p + j) 0) (get_or b (q + j) 0) ∙ sym (last_byte a b p q n i j h k e f)

last_less : (x y : ℕ) → is_less (by_byte x y Equal) ≡ ltb x y
last_less x y = go (ltb x y) (ltb y x)
  where
    go : (s t : Bool) → is_less (on s Less (on t Greater Equal)) ≡ s
    go true t = refl
    go false true = refl
    go false false = refl

pub last-below : (a b : List ℕ) (p q n i j : ℕ) → p + n ≤ length a → q + n ≤ length b → i ≡ j → j + 1 ≡ n
    → is_less (cmp (part (p + i) (n - i) a) (part (q + i) (n - i) b)) ≡ ltb (get_or a (p + j) 0) (get_or b (q + j) 0)
last-below a b p q n i j h k e f = ap is_less (last_byte a b p q n i j h k e f) ∙ last_less (get_or a (p + j) 0) (get_or b (q + j) 0)
