-- Two passages have one key exactly where the seven fields of the key are equal. Assumes nothing.
use Prim.Native.Nat.{ℕ, suc, ◌+◌, ◌≤◌, ◌<◌}
use native.Mathlib.Omega.{arith}
use mathlib.Core.Path.{◌≡◌, sym, ap, ◌∙◌}
use mathlib.Core.List.{List, ◌∷◌, ◌++◌}
use lib.ListN.{length, get_or}
use Rattle.lists.specs.Each.{Bytes}
use Rattle.lists.specs.Part.{part}
use Rattle.lists.specs.BigEndian.{number, spelled}
use Rattle.lists.proofs.BigEndianLaws.{spelled-number}
use Rattle.lists.proofs.EachLaws.{bytes-part}
use Rattle.lists.proofs.PartLaws.{length_part, part-zero, part_at, part-cons, part-add, part-part}
use Rattle.passage.specs.Layout.{key_wide, key_of}
use Rattle.calls.specs.Claims.{KeyIsSevenFields}

-- bytes are known by their number and how many they are
same_number : (l m : List ℕ) → length l ≡ length m → Bytes l → Bytes m → number l ≡ number m → l ≡ m
same_number l m h p q e = sym (spelled-number l p) ∙ ap (λ (w : ℕ). spelled w (number l)) h ∙ ap (spelled (length m)) e ∙ spelled-number m q

module _ (a b : List ℕ) where
  -- a part of equal keys
  inside : (off len : ℕ) → off + len ≤ key_wide → key_of a ≡ key_of b → part (0 + off) len a ≡ part (0 + off) len b
  inside off len h e = sym (part-part off len 0 key_wide a h) ∙ ap (part off len) e ∙ part-part off len 0 key_wide b h

  inside-byte : (i : ℕ) → i < key_wide → key_of a ≡ key_of b → get_or a (0 + i) 0 ≡ get_or b (0 + i) 0
  inside-byte i h e = sym (part_at 0 key_wide a i h) ∙ ap (λ (l : List ℕ). get_or l i 0) e ∙ part_at 0 key_wide b i h

  -- two parts side by side
  beside : (off n m : ℕ) → part off n a ≡ part off n b → part (off + n) m a ≡ part (off + n) m b → part off (n + m) a ≡ part off (n + m) b
  beside off n m e f = part-add off n m a ∙ ap (λ (l : List ℕ). l ++ part (off + n) m a) e ∙ ap (λ (l : List ℕ). part off n b ++ l) f ∙ sym (part-add off n m b)

  module _ (p : Bytes a) (q : Bytes b) (la : key_wide ≤ length a) (lb : key_wide ≤ length b) where
    by_number : (off n : ℕ) → off + n ≤ key_wide → number (part off n a) ≡ number (part off n b) → part off n a ≡ part off n b
    by_number off n h e =
        same_number (part off n a) (part off n b) (length_part off n a (omega arith) ∙ sym (length_part off n b (omega arith))) (bytes-part off n a p) (bytes-part off n b q) e

    by_byte : (off : ℕ) → off < key_wide → get_or a off 0 ≡ get_or b off 0 → part off 1 a ≡ part off 1 b
    by_byte off h e =
        part-cons off 0 a (omega arith)
        ∙ ap (λ (x : ℕ). x ∷ part (suc off) 0 a) e
        ∙ ap (λ (l : List ℕ). get_or b off 0 ∷ l) (part-zero (suc off) a ∙ sym (part-zero (suc off) b))
        ∙ sym (part-cons off 0 b (omega arith))

pub key-fields : KeyIsSevenFields
key-fields a b p q la lb = (
  λ e. (
    inside a b 0 10 (omega arith) e,
    ap number (inside a b 10 4 (omega arith) e),
    inside a b 14 10 (omega arith) e,
    ap number (inside a b 24 4 (omega arith) e),
    inside-byte a b 28 (omega arith) e,
    inside a b 29 10 (omega arith) e,
    ap number (inside a b 39 2 (omega arith) e),
  ),
  λ f.
      beside a b 0 10 31 f.0
      (beside a b 10 4 27 (by_number a b p q la lb 10 4 (omega arith) f.1)
      (beside a b 14 10 17 f.2
      (beside a b 24 4 13 (by_number a b p q la lb 24 4 (omega arith) f.3)
      (beside a b 28 1 12 (by_byte a b p q la lb 28 (omega arith) f.4)
      (beside a b 29 10 2 f.5 (by_number a b p q la lb 39 2 (omega arith) f.6)))))),
)
