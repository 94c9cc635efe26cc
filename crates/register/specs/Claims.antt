-- What is claimed of the register. Assumes nothing.
use Rattle.std.specs.Prelude.{◌≡◌, true, false, List, [], ◌∷◌, ◌++◌, ◌↔◌, ℕ, ◌*◌, ◌/◌, ◌≤◌, ◌<◌, length}
use Rattle.lists.specs.Part.{part}
use Rattle.passage.specs.Layout.{text_wide}
use Rattle.register.specs.Register.{pair_wide, grants, register_sound}

-- Sender 0, the desk, is registered for no owner, whatever the register.
abbrev pub DeskNeverGranted : Type 0
DeskNeverGranted = (register owner : List ℕ) → grants register 0 owner ≡ false

-- In an empty register nobody is registered.
abbrev pub EmptyGrantsNothing : Type 0
EmptyGrantsNothing = (sender : ℕ) (owner : List ℕ) → grants [] sender owner ≡ false

-- A sender is registered for an owner exactly where it is not 0 and some whole pair has this sender byte and these owner bytes.
abbrev pub GrantsExactly : Type 0
GrantsExactly =
    (register : List ℕ) (sender : ℕ) (owner : List ℕ)
    → (grants register sender owner ≡ true)
    ↔ ((sender ≡ 0 → ⊥)
    × ((i : ℕ) × (i < length register / pair_wide) × (part (i * pair_wide) pair_wide register ≡ sender ∷ owner)))

-- A pair with sender 0, in front of the others or behind k of them, changes nothing.
abbrev pub DeskPairIgnored : Type 0
DeskPairIgnored =
    (front rest : List ℕ) (k : ℕ) → length front ≡ k * pair_wide → (owner : List ℕ) → length owner ≡ text_wide
    → (sender : ℕ) (o : List ℕ) → grants (front ++ (0 ∷ owner ++ rest)) sender o ≡ grants (front ++ rest) sender o

-- A register is sound exactly where its length is a multiple of 11 and at most 704, whatever its bytes.
abbrev pub SoundExactly : Type 0
SoundExactly = (register : List ℕ) → (register_sound register ≡ true) ↔ ((k : ℕ) × (length register ≡ k * 11) × (length register ≤ 704))

-- All of them.
abbrev pub All : Type 0
All =
    DeskNeverGranted
    × EmptyGrantsNothing
    × GrantsExactly
    × DeskPairIgnored
    × SoundExactly
