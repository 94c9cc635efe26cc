-- The chunks that `chunks_exact` gives, where a chain ends at one or looks at all. Assumes nothing.
use mathlib.Core.Path.{◌≡◌, ◌∙◌, refl, sym}
use mathlib.Core.Bool.{Bool, true, false}
use mathlib.Core.List.{List}
use Prim.Native.Nat.{ℕ, ◌+◌, ◌*◌, ◌/◌, ◌≤◌, ◌<◌}
use lib.ListN.{length}
use denote.Ref.{Bor}
use Rattle.std.specs.Prelude.{Option, Some, None, IsSomeAnd, IfSome, slice_index_or}
use Rattle.std.specs.Option.{option_map}
use Rattle.std.specs.Bool.{MatchBool}
use Rattle.std.specs.Iterator.Runs.{Run, AnyItem, AllItems, IsChunksExactRun}
use Rattle.lists.specs.Part.{part}

module _ {X : Type 0} (P Q : X → Type 0) where
  both : (o : Option X) → IsSomeAnd o P → IfSome o Q → (x : X) × P x × Q x
  both None h k = absurd h
  both (Some x) h k = (x, h, k)

  there : (o : Option X) (y : X) → option_map (λ z. z) o ≡ Some y → IfSome o P → IfSome o Q → (x : X) × P x × Q x
  there None y e h k = absurd (cc)
  there (Some x) y e h k = (x, h, k)

-- one fact for each answer of a test, by another for each
pub match-map : (b : Bool) {P Q R S : Type 0} → (P → R) → (Q → S) → MatchBool b P Q → MatchBool b R S
match-map true f g h = f h
match-map false f g h = g h

module _ {S : Type 0} {steps : S → Option (Bor (List ℕ)) → S → Type 0} (p : Run steps) (n : ℕ) (xs : List ℕ) (run : IsChunksExactRun p n xs) (P : Bor (List ℕ) → Type 0) where
  -- the chunk at which a chain ends
  pub chunk-found : AnyItem p P → (i : ℕ) × (i * n + n ≤ length xs) × ((x : Bor (List ℕ)) × P x × (x.now ≡ part (i * n) n xs))
  unfolding part
  chunk-found h =
      let f = both P _ (p.at h.0) h.2 (run.2 h.0) in
      (h.0, f.2.1, (f.0, f.1, f.2.2.0))

  -- each chunk, where a chain looks at all
  pub chunk-each : p.whole ≡ true → AllItems p P → Bor (List ℕ) → (i : ℕ) → i < length xs / n → (x : Bor (List ℕ)) × P x × (x.now ≡ part (i * n) n xs)
  unfolding part
  chunk-each w h d i l =
      let k : i < p.len = rw (run.1 w) l in
      let f = there P _ (p.at i) (slice_index_or p.items i d) (p.reads i d k) (h i) (run.2 i) in
      (f.0, f.1, f.2.2.0)
