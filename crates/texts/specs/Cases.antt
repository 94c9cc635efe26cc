-- A text with escapes, by computation. Assumes nothing.
use Rattle.std.specs.Prelude.{◌≡◌, refl, Some}
use Rattle.lists.specs.Text.{bytes}
use Rattle.turbo.specs.Escape.{escaped, decode}
use Rattle.texts.specs.Texts.{padded, text}

-- P4's field, with an escaped bar and an escaped backslash, kept as a text
pub P4_kept : text (bytes "a\\pb\\i") ≡ Some (padded (bytes "a|b\\"))
unfolding text decode escaped
P4_kept = refl
