-- What a well-formed line says, read off the grammar alone: its fields, and a text's content. The claims hold the walk to it. Assumes nothing.
use Rattle.std.specs.Prelude.{ℕ, List, [], ◌∷◌}
use Rattle.grammar.specs.Grammar.{Esc, Text, Fields}

-- the fields of a line
abbrev pub fields_in : {l : List ℕ} → Fields l → List (List ℕ)
fields_in (Fields.one {f} g) = f ∷ []
fields_in (Fields.more {f} g r) = f ∷ fields_in r

-- the byte that an escape stands for
abbrev pub escape_in : {e : ℕ} → Esc e → ℕ
escape_in Esc.slash = 92
escape_in Esc.lf = 10
escape_in Esc.bar = 124
escape_in Esc.cr = 13

-- the bytes that a text stands for
abbrev pub content_in : {l : List ℕ} → Text l → List ℕ
content_in Text.empty = []
content_in (Text.plain {b} p t) = b ∷ content_in t
content_in (Text.esc e t) = escape_in e ∷ content_in t
