-- What is certain of the walk over a line. `proofs/Claims.antt` proves `All`. Assumes nothing.
use Rattle.std.specs.Prelude.{ℕ, ◌≡◌, List}
use Rattle.grammar.specs.Grammar.{Text, Fields}
use Rattle.turbo.specs.Escape.{decode}
use Rattle.turbo.specs.Split.{fields}
use Rattle.turbo.specs.Told.{fields_in, content_in}

-- the walk by bars gives the grammar's fields
abbrev pub FieldsAreTheGrammars : Type 0
FieldsAreTheGrammars = (l : List ℕ) (f : Fields l) → fields l ≡ fields_in f

-- decoding gives the bytes that a text stands for
abbrev pub DecodingIsTheGrammars : Type 0
DecodingIsTheGrammars = (l : List ℕ) (t : Text l) → decode l ≡ content_in t

abbrev pub All : Type 0
All = FieldsAreTheGrammars × DecodingIsTheGrammars
