-- Texts that are kept: 1 to w bytes, each 32 to 126, after decoding. The rules stand over any width w; texts are kept in ten bytes. Assumes nothing.
use Rattle.std.specs.Prelude.{ℕ, ◌-◌, List, [], ◌∷◌, ◌++◌, Bool, true, false, ◌&&◌, length, replicate, eqb, Option, Some, None}
use Rattle.lists.specs.Logic.{on, within}
use Rattle.turbo.specs.Escape.{decode}

-- every byte is 32 to 126
abbrev pub all_text : List ℕ → Bool
all_text [] = true
all_text (x ∷ xs) = within 32 126 x && all_text xs

-- padded with zero bytes to w
abbrev pub padded_to : ℕ → List ℕ → List ℕ
padded_to w t = t ++ replicate (w - length t) 0

-- t, kept in w bytes, where the test passes
abbrev pub given_to : ℕ → Bool → List ℕ → Option (List ℕ)
given_to w true t = Some (padded_to w t)
given_to w false t = None

-- t is a text that may be kept in w bytes
abbrev pub is_text_to : ℕ → List ℕ → Bool
is_text_to w t = within 1 w (length t) && all_text t

-- the text of f, kept in w bytes
abbrev pub text_to : ℕ → List ℕ → Option (List ℕ)
text_to w f = given_to w (is_text_to w (decode f)) (decode f)

-- ---- ten bytes

abbrev pub padded : List ℕ → List ℕ
padded t = padded_to 10 t

abbrev pub text_given : Bool → List ℕ → Option (List ℕ)
text_given b t = given_to 10 b t

abbrev pub is_text : List ℕ → Bool
is_text t = is_text_to 10 t

-- the kept text of f
unfoldable pub text : List ℕ → Option (List ℕ)
text f = text_to 10 f

-- the field that writes t: a backslash is written \i and a bar \p, each other byte as itself
abbrev pub escape : List ℕ → List ℕ
escape [] = []
escape (x ∷ t) = on (eqb x 92) (92 ∷ 105 ∷ escape t) (on (eqb x 124) (92 ∷ 112 ∷ escape t) (x ∷ escape t))
