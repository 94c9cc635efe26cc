-- The claims on texts, proved. Assumes nothing.
use mathlib.Core.Path.{◌≡◌, ◌∙◌, refl, sym, ap}
use mathlib.Core.Bool.{Bool}
use Prim.Native.Nat.{◌-◌}
use lib.ListN.{length}
use Rattle.lists.specs.Logic.{within}
use Rattle.lists.specs.Text.{bytes}
use Rattle.lists.proofs.LogicLaws.{and-false}
use Rattle.turbo.specs.Escape.{escaped, decode}
use Rattle.std.specs.Prelude.{None}
use Rattle.texts.specs.Texts.{given_to, text}
use Rattle.texts.specs.Claims.{TextsOnly, TextsTold, NoneOutside, TenBytes, All}
use Rattle.texts.proofs.KeptLaws.{escape-kept, ok-to, kept-to, refused-to, text-long, told-apart, each_all, test-facts, facts-test}

texts-only : TextsOnly
texts-only w f = (λ e. test-facts w (decode f) (sym (ok-to w f) ∙ e), λ p. ok-to w f ∙ facts-test w (decode f) p)

texts-told : TextsTold
texts-told w t u g h e = told-apart t u (w - length t) (w - length u) (each_all t g.bytes) (each_all u h.bytes) e

none-outside : NoneOutside
unfolding decode escaped
none-outside w = (refl, ap (λ (b : Bool). given_to w b (decode (bytes "\\0"))) (and-false (within 1 w 1)))

-- of ten bytes
pub null-no-text : text (bytes "\\0") ≡ None
unfolding text
null-no-text = (none-outside 10).1

ten-bytes : TenBytes
unfolding text
ten-bytes t = (refl, refl, refl)

pub claims : All
claims = (
  λ w t. (test-facts w t, facts-test w t),
  λ w t f. escape-kept w t (facts-test w t f),
  texts-only,
  λ w f. (λ t e. (kept-to w f t e).1, refused-to w f, text-long w f),
  texts-told,
  none-outside,
  ten-bytes,
)
