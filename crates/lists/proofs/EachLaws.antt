-- Laws of `Each` and `Bytes`. Assumes nothing.
use mathlib.Core.List.{List, [], ◌∷◌, ◌++◌}
use Prim.Native.Nat.{ℕ, zero, suc, ◌<◌}
use native.Mathlib.Nat.{le_of_suc-le-suc, not-suc-le-zero}
use native.Mathlib.Omega.{arith}
use lib.ListN.{length, take, drop, get_or, set}
use Rattle.lists.specs.Each.{Each, Bytes}
use Rattle.lists.specs.Part.{part}

module _ {A : Type 0} (P : A → Type 0) where
  pub each_append : (l m : List A) → Each P l → Each P m → Each P (l ++ m)
  each_append [] m h k = k
  each_append (x ∷ l) m h k = (h.0, each_append l m h.1 k)

  pub each_take : (n : ℕ) (l : List A) → Each P l → Each P (take n l)
  each_take zero l h = tt
  each_take (suc n) [] h = tt
  each_take (suc n) (x ∷ l) h = (h.0, each_take n l h.1)

  pub each-drop : (n : ℕ) (l : List A) → Each P l → Each P (drop n l)
  each-drop zero l h = h
  each-drop (suc n) [] h = tt
  each-drop (suc n) (x ∷ l) h = each-drop n l h.1

  pub each_set : (l : List A) (i : ℕ) (x : A) → Each P l → P x → Each P (set l i x)
  each_set [] i x h k = tt
  each_set (y ∷ l) zero x h k = (k, h.1)
  each_set (y ∷ l) (suc i) x h k = (h.0, each_set l i x h.1 k)

  pub each_at : (l : List A) (i : ℕ) (d : A) → Each P l → i < length l → P (get_or l i d)
  each_at [] i d h k = absurd (not-suc-le-zero k)
  each_at (x ∷ l) zero d h k = h.0
  each_at (x ∷ l) (suc i) d h k = each_at l i d h.1 (le_of_suc-le-suc k)

  -- what holds at each place holds of each element
  pub each_all : (l : List A) (d : A) → ((i : ℕ) → i < length l → P (get_or l i d)) → Each P l
  each_all [] d f = tt
  each_all (x ∷ l) d f = (f 0 (omega arith), each_all l d (λ i h. f (suc i) (omega arith)))

  -- what holds at each index, with a default past the end, holds of each element
  pub each-known : (l : List A) (d : A) → ((i : ℕ) → P (get_or l i d)) → Each P l
  each-known [] d f = tt
  each-known (x ∷ l) d f = (f 0, each-known l d (λ (i : ℕ). f (suc i)))

pub bytes-part : (at n : ℕ) (l : List ℕ) → Bytes l → Bytes (part at n l)
unfolding part
bytes-part at n l h = each_take (λ (b : ℕ). b < 256) n (drop at l) (each-drop (λ (b : ℕ). b < 256) at l h)

pub bytes-known : (l : List ℕ) → ((i : ℕ) → get_or l i 0 < 256) → Bytes l
bytes-known l f = each-known (λ (b : ℕ). b < 256) l 0 f

-- those of a part that is read as `&l[at..at + n]`
pub bytes-lent : (at n : ℕ) (l : List ℕ) → ((i : ℕ) → get_or l i 0 < 256) → Bytes (take n (drop at l))
bytes-lent at n l f = each_take (λ (b : ℕ). b < 256) n (drop at l) (each-drop (λ (b : ℕ). b < 256) at l (bytes-known l f))
