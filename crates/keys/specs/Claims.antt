-- What is claimed of the order of keys, for any bytes. Assumes nothing.
use Rattle.std.specs.Prelude.{◌≡◌, true, List, ◌↔◌, ℕ}
use Rattle.lists.specs.BigEndian.{precedes}
use Rattle.std.specs.declared.cmp.Ordering.TheVariants.{Less, Equal, Greater}
use Rattle.keys.specs.Keys.{cmp}

-- a key is less exactly where it stands before the other in byte order
abbrev pub LessExactly : Type 0
LessExactly = (a b : List ℕ) → (cmp a b ≡ Less) ↔ (precedes a b ≡ true)

-- it is the same exactly where the bytes are equal
abbrev pub SameExactly : Type 0
SameExactly = (a b : List ℕ) → (cmp a b ≡ Equal) ↔ (a ≡ b)

-- it is more exactly where the other is less
abbrev pub MoreExactly : Type 0
MoreExactly = (a b : List ℕ) → (cmp a b ≡ Greater) ↔ (cmp b a ≡ Less)

-- all of these
abbrev pub All : Type 0
All = LessExactly × SameExactly × MoreExactly
