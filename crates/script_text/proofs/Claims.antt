-- The proofs of this crate's claims. Assumes nothing.
use mathlib.Core.Path.{◌≡◌, refl}
use mathlib.Core.Bool.{Bool, true, false, not}
use mathlib.Core.List.{List, [], ◌∷◌}
use Prim.Native.Nat.{ℕ, zero, suc}
use lib.ListN.{length, take, drop}
use borrow.Author.Tests.{not-true}
use Rattle.lists.specs.Logic.{on}
use Rattle.lists.specs.Each.{Each}
use Rattle.lists.specs.Part.{over}
use Rattle.lists.proofs.OverLaws.{length_over}
use Rattle.script_text.specs.Rules.{is_blank, run_in, from_word, word_from, word_at, fits, appended}
use Rattle.script_text.specs.Claims.{NoBlankInWord, AppendKeepsLength, All}

-- what l begins with before its first blank has none
no-blank : (l : List ℕ) → Each (λ (b : ℕ). is_blank b ≡ false) (take (run_in false l) l)
unfolding run_in
no-blank [] = tt
no-blank (b ∷ l) = go (not (is_blank b)) refl (no-blank l)
  where
    go : (t : Bool) → not (is_blank b) ≡ t → Each (λ (x : ℕ). is_blank x ≡ false) (take (run_in false l) l)
        → Each (λ (x : ℕ). is_blank x ≡ false) (take (on t (suc (run_in false l)) 0) (b ∷ l))
    go true e h = (not-true (is_blank b) e, h)
    go false e h = tt

no-blank-from : (k : ℕ) (t : List ℕ) → Each (λ (b : ℕ). is_blank b ≡ false) (word_from k t)
unfolding word_from
no-blank-from zero t = no-blank t
no-blank-from (suc k) t = no-blank-from k (from_word (drop (run_in false t) t))

no-blank-in-word : NoBlankInWord
unfolding word_at
no-blank-in-word k line = no-blank-from k (from_word line)

append-keeps-length : AppendKeepsLength
unfolding appended
append-keeps-length n b s = go (fits n b s)
  where
    go : (t : Bool) → length (on t (over n b s) s) ≡ length s
    go true = length_over n b s
    go false = refl

pub claims : All
claims = (no-blank-in-word, append-keeps-length)
