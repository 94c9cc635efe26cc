use Prim.Native.Nat.{ℕ, ◌<◌}
use native.Mathlib.Omega.{arith}
use mathlib.Core.Path.{◌≡◌, refl, ap, ◌∙◌}
use mathlib.Core.Bool.{false}
use Rattle.std.specs.Prelude.{Some}
use Rattle.std.specs.Option.{unwrap_or}
use mathlib.Core.List.{List, [], ◌∷◌, ◌++◌}
use borrow.Author.Tests.{ne_eqb}
use Rattle.grammar.specs.Grammar.{Esc, Text, Field, Fields}
use Rattle.turbo.specs.Escape.{escaped, decode_after, decode}
use Rattle.turbo.specs.Split.{into_first, fields}
use Rattle.turbo.specs.Told.{fields_in, escape_in, content_in}

-- The walk's split of a line is the grammar's: a bar stands only between fields. Assumes nothing.

-- bytes with no x among them
pub data Free (x : ℕ) : List ℕ → Type 0 where
  none : Free x []
  byte : {b : ℕ} {l : List ℕ} → (b ≡ x → ⊥) → Free x l → Free x (b ∷ l)

-- an escape's letter is no bar
esc-bar : (e : ℕ) → Esc e → e ≡ 124 → ⊥
esc-bar e Esc.slash q = omega arith
esc-bar e Esc.lf q = omega arith
esc-bar e Esc.bar q = omega arith
esc-bar e Esc.cr q = omega arith

differ : (a b : ℕ) → a < b → a ≡ b → ⊥
differ a b h e = omega arith

text-bar : {l : List ℕ} → Text l → Free 124 l
text-bar Text.empty = none
text-bar (Text.plain p t) = byte p.no-bar (text-bar t)
text-bar (Text.esc {e} p t) = byte (differ 92 124 (omega arith)) (byte (esc-bar e p) (text-bar t))

field-bar : {l : List ℕ} → Field l → Free 124 l
field-bar (Field.text t) = text-bar t
field-bar Field.null = byte (differ 92 124 (omega arith)) (byte (differ 48 124 (omega arith)) none)

-- a field with no bar, alone and before a bar
field-alone : {f : List ℕ} → Free 124 f → fields f ≡ f ∷ []
unfolding fields
field-alone none = refl
field-alone (byte {b} n f) = rw (ne_eqb b 124 n) (ap (into_first b) (field-alone f))

field-before : {f : List ℕ} (l : List ℕ) → Free 124 f → fields (f ++ 124 ∷ l) ≡ f ∷ fields l
unfolding fields
field-before l none = refl
field-before l (byte {b} n f) = rw (ne_eqb b 124 n) (ap (into_first b) (field-before l f))

pub fields-grammar : {l : List ℕ} (f : Fields l) → fields l ≡ fields_in f
fields-grammar (Fields.one f) = field-alone (field-bar f)
fields-grammar (Fields.more {f} {l} g r) = field-before l (field-bar g) ∙ ap (λ (fs : List (List ℕ)). f ∷ fs) (fields-grammar r)

-- decoding
escape-grammar : {e : ℕ} (p : Esc e) → escaped e ≡ Some (escape_in p)
unfolding escaped
escape-grammar Esc.slash = refl
escape-grammar Esc.lf = refl
escape-grammar Esc.bar = refl
escape-grammar Esc.cr = refl

decode-text : {l : List ℕ} (t : Text l) → decode_after false l ≡ content_in t
decode-text Text.empty = refl
decode-text (Text.plain {b} p t) = rw (ne_eqb b 92 p.no_slash) (ap (λ (l : List ℕ). b ∷ l) (decode-text t))
decode-text (Text.esc {l} p t) = ap (λ b. unwrap_or b 0 ∷ decode_after false l) (escape-grammar p) ∙ ap (λ (m : List ℕ). escape_in p ∷ m) (decode-text t)

pub decode-grammar : {l : List ℕ} (t : Text l) → decode l ≡ content_in t
unfolding decode
decode-grammar t = decode-text t
