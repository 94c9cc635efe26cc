-- What is certain of dossiers read in parts: the cutting is free, and the verdict is that of the whole. `proofs/Claims.antt` proves `All`. Assumes nothing.
use Rattle.std.specs.Prelude.{ℕ, ◌+◌, ◌<◌, ◌≡◌, List, ◌++◌, length, take, Ok, Err}
use Rattle.syntax.specs.declared.Kind.TheVariants.{Nothing}
use Rattle.syntax.specs.declared.State.{State}
use Rattle.syntax.specs.declared.State.TheVariants.{Open}
use Rattle.syntax.specs.Machine.{fault}
use Rattle.syntax_scan.specs.Scanned.{scanned, and_then, later, verdict_at}

-- a scan of two parts is a scan of the first, then of the second from where the first led
abbrev pub PartByPart : Type 0
PartByPart = (s : State) (a b : List ℕ) (i : ℕ) → scanned s (a ++ b) i ≡ and_then (scanned s a i) (λ t. scanned t b (i + length a))

-- where counting begins only moves the place that is told
abbrev pub CountedFrom : Type 0
CountedFrom = (s : State) (d : List ℕ) (i : ℕ) → scanned s d i ≡ later i (scanned s d 0)

-- the verdict on a dossier is its scan's
abbrev pub VerdictIsTheScans : Type 0
VerdictIsTheScans = (d : List ℕ) → fault d ≡ verdict_at (scanned (Open Nothing) d 0) (length d)

-- a scan is stuck at one of its bytes, and those before it lead somewhere
abbrev pub StuckAtAByte : Type 0
StuckAtAByte = (s : State) (d : List ℕ) (j : ℕ) → scanned s d 0 ≡ Err j → (j < length d) × ((t : State) × (scanned s (take j d) 0 ≡ Ok t))

abbrev pub All : Type 0
All = PartByPart × CountedFrom × VerdictIsTheScans × StuckAtAByte
