-- The order of keys on small examples. Assumes nothing.
use Rattle.std.specs.Prelude.{◌≡◌, refl, [], ◌∷◌}
use Rattle.std.specs.declared.cmp.Ordering.TheVariants.{Less, Equal, Greater}
use Rattle.keys.specs.Keys.{cmp}

-- the first byte that differs decides
order-case : (cmp (1 ∷ 255 ∷ []) (2 ∷ 0 ∷ []) ≡ Less) × (cmp (1 ∷ 3 ∷ []) (1 ∷ 2 ∷ []) ≡ Greater) × (cmp (1 ∷ 2 ∷ []) (1 ∷ 2 ∷ []) ≡ Equal)
unfolding cmp
order-case = (refl, refl, refl)
