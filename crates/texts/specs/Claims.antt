-- What is claimed of texts: one fact over any width w, and ten as its use. Assumes nothing.
use Rattle.std.specs.Prelude.{ℕ, ◌≡◌, true, false, List, [], ◌↔◌, length, replicate, Some, None, is_some, unwrap_or}
use Rattle.lists.specs.Text.{bytes}
use Rattle.turbo.specs.Escape.{decode}
use Rattle.texts.specs.Texts.{padded_to, is_text_to, text_to, is_text, padded, text, escape}
use Rattle.texts.specs.Facts.{TextFacts}

-- The test of a text passes exactly for 1 to w bytes, all from 32 to 126.
abbrev pub TestExactly : Type 0
TestExactly = (w : ℕ) (t : List ℕ) → (is_text_to w t ≡ true) ↔ TextFacts w t

-- Each text, written with its escapes, is kept as itself, padded with zero bytes.
abbrev pub TextsRead : Type 0
TextsRead = (w : ℕ) (t : List ℕ) → TextFacts w t → text_to w (escape t) ≡ Some (padded_to w t)

-- A text is kept exactly where what the field stands for is one.
abbrev pub TextsOnly : Type 0
TextsOnly = (w : ℕ) (f : List ℕ) → (is_some (text_to w f) ≡ true) ↔ TextFacts w (decode f)

-- A kept text is what the field stands for, padded with zero bytes to w; where none is kept, w zero bytes may stand for it, and all are w bytes.
abbrev pub TextsKept : Type 0
TextsKept =
    (w : ℕ) (f : List ℕ)
    → ((t : List ℕ) → text_to w f ≡ Some t → t ≡ padded_to w (decode f))
    × (is_some (text_to w f) ≡ false → unwrap_or (text_to w f) (replicate w 0) ≡ replicate w 0)
    × (length (unwrap_or (text_to w f) (replicate w 0)) ≡ w)

-- Two texts that are kept as the same bytes are the same.
abbrev pub TextsTold : Type 0
TextsTold = (w : ℕ) (t u : List ℕ) → TextFacts w t → TextFacts w u → padded_to w t ≡ padded_to w u → t ≡ u

-- A field with no bytes, and a field `\0`, are no text.
abbrev pub NoneOutside : Type 0
NoneOutside = (w : ℕ) → (text_to w [] ≡ None) × (text_to w (bytes "\\0") ≡ None)

-- Texts are kept in ten bytes.
abbrev pub TenBytes : Type 0
TenBytes = (t : List ℕ) → (is_text t ≡ is_text_to 10 t) × (padded t ≡ padded_to 10 t) × (text t ≡ text_to 10 t)

-- All of them.
abbrev pub All : Type 0
All = TestExactly × TextsRead × TextsOnly × TextsKept × TextsTold × NoneOutside × TenBytes
