-- A field as the code reads it, byte by byte. Assumes nothing.
use Rattle.std.specs.Prelude.{ℕ, List, [], ◌∷◌, Bool, true, false, ◌&&◌, length, eqb, Option, Some, None}
use Rattle.std.specs.Option.{unwrap_or}
use Rattle.lists.specs.Logic.{on, within}
use Rattle.turbo.specs.Escape.{escaped}
use Rattle.texts.specs.declared.Step.{Step}
use Rattle.texts.specs.declared.Step.TheVariants.{Mark, Byte}

-- b is 32 to 126 and no backslash
abbrev pub plain_byte : ℕ → Bool
plain_byte b = on (eqb b 92) false (within 32 126 b)

abbrev pub all_plain : List ℕ → Bool
all_plain [] = true
all_plain (x ∷ xs) = plain_byte x && all_plain xs

-- f is 1 to 10 bytes, each 32 to 126 and none a backslash
unfoldable pub plain : List ℕ → Bool
plain f = within 1 10 (length f) && all_plain f

-- a byte of the text, or one that no text holds
abbrev pub kept_step : ℕ → Option Step
kept_step b = on (within 32 126 b) (Some (Byte b)) None

-- what one more byte of a field does; the Bool says that it stands after a backslash, where a byte that is no escape's letter stands for 0, which no text holds
unfoldable pub step_of : Bool → ℕ → Option Step
step_of after b = on after (kept_step (unwrap_or (escaped b) 0)) (on (eqb b 92) (Some Mark) (kept_step b))
