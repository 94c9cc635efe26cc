-- What is certain of the syntax rule: it says the grammar, and a fault is where document 01 has it. `proofs/Claims.antt` proves `All`.
-- Assumes nothing.
use Rattle.std.specs.Prelude.{ℕ, suc, ◌≤◌, ◌<◌, ◌≡◌, List, ◌++◌, length, take, Ok, Err}
use Rattle.lists.specs.Each.{Bytes}
use Rattle.syntax.specs.Machine.{fault}
use Rattle.grammar.specs.Grammar.{WellFormed}

-- no fault is found exactly in the well-formed dossiers
abbrev pub FineIsWellFormed : Type 0
FineIsWellFormed = (d : List ℕ) → (fault d ≡ Ok tt → WellFormed d) × (WellFormed d → fault d ≡ Ok tt)

-- a fault lies within the bytes or at their length
abbrev pub FaultIsWithin : Type 0
FaultIsWithin = (d : List ℕ) (j : ℕ) → fault d ≡ Err j → j ≤ length d

-- the bytes before a fault can be completed, by bytes, to a well-formed dossier
abbrev pub BeforeIsViable : Type 0
BeforeIsViable = (d : List ℕ) (j : ℕ) → fault d ≡ Err j → (e : List ℕ) × Bytes e × WellFormed (take j d ++ e)

-- with the byte at the fault they cannot
abbrev pub ThroughIsNot : Type 0
ThroughIsNot = (d : List ℕ) (j : ℕ) → fault d ≡ Err j → j < length d → (e : List ℕ) → WellFormed (take (suc j) d ++ e) → ⊥

-- and a fault at the length says that the bytes end early: as they are, they are no dossier
abbrev pub EndsEarly : Type 0
EndsEarly = (d : List ℕ) → fault d ≡ Err (length d) → WellFormed d → ⊥

abbrev pub All : Type 0
All = FineIsWellFormed × FaultIsWithin × BeforeIsViable × ThroughIsNot × EndsEarly
