-- Byte order of keys. Assumes nothing.
use Rattle.std.specs.Prelude.{ℕ, List, [], ◌∷◌, ltb}
use Rattle.lists.specs.Logic.{on}
use Rattle.std.specs.declared.cmp.Ordering.{Ordering}
use Rattle.std.specs.declared.cmp.Ordering.TheVariants.{Less, Equal, Greater}

-- one byte decides, or else what follows
abbrev pub by_byte : ℕ → ℕ → Ordering → Ordering
by_byte x y o = on (ltb x y) Less (on (ltb y x) Greater o)

-- byte by byte, the first difference decides; a list that ends first is less
unfoldable pub cmp : List ℕ → List ℕ → Ordering
cmp [] [] = Equal
cmp [] (y ∷ ys) = Less
cmp (x ∷ xs) [] = Greater
cmp (x ∷ xs) (y ∷ ys) = by_byte x y (cmp xs ys)

-- a choice by an order
abbrev pub by_order : {A : Type 0} → Ordering → A → A → A → A
by_order Less a b c = a
by_order Equal a b c = b
by_order Greater a b c = c
