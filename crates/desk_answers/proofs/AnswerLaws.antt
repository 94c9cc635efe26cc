-- Numbers told of a call's outcome are told of what the call promised it to be. Assumes nothing.
use Prim.Native.Nat.{ℕ}
use mathlib.Core.Path.{◌≡◌, refl, ap, ◌∙◌}
use mathlib.Core.List.{List, [], ◌∷◌}
use lib.ListN.{take}
use Rattle.calls.specs.declared.Four.{Four}
use Rattle.calls.specs.declared.Outcome.{Outcome}
use Rattle.calls.specs.Answers.{numbers}
use Rattle.calls.specs.Leaves.{Leaves, leaves}
use Rattle.calls.specs.End.{EndLeaves, end_with}
use Rattle.calls.specs.inner.Steps.{four_of}
use Rattle.desk_answers.specs.Answered.{outcome_number, answered, four, told, told_of, end_told, end_told_of}

-- ---- an answer's numbers as they are written

pub written : (o : Outcome) (n : Four) (r : ℕ) (l : List ℕ) → n ≡ four_of (numbers o.answer)
    → (r ≡ n.number) × (l ≡ n.number ∷ n.value ∷ n.second ∷ n.dossier ∷ o.counts.used ∷ o.counts.rows ∷ [])
    → (r ≡ outcome_number o) × (l ≡ answered o)
unfolding outcome_number answered
written o n r l e p = (p.0 ∙ ap (λ (x : Four). x.number) e, p.1 ∙ ap (λ (x : Four). x.number ∷ x.value ∷ x.second ∷ x.dossier ∷ o.counts.used ∷ o.counts.rows ∷ []) e)

-- ---- and told of a call

first-four : (o : Outcome) → take 4 (answered o) ≡ four (numbers o.answer)
unfolding answered
first-four o = refl

pub of-call : (left : Leaves) (table : ℕ × ℕ × ℕ × ℕ) (o : Outcome) (r : ℕ) (l b t : List ℕ)
    → (r ≡ outcome_number o) × (l ≡ answered o) → (leaves o b t ≡ left) × (numbers o.answer ≡ table)
    → (told r l b t ≡ told_of left) × (take 4 l ≡ four table)
of-call left table o r l b t said called =
    ((λ i. told (said.0 i) (said.1 i) b t) ∙ ap told_of called.0, ap (take 4) said.1 ∙ first-four o ∙ ap four called.1)

pub of_end : (left : EndLeaves) (table : ℕ × ℕ × ℕ × ℕ) (o : Outcome) (r : ℕ) (l b t k : List ℕ)
    → (r ≡ outcome_number o) × (l ≡ answered o) → (end_with o b t k ≡ left) × (numbers o.answer ≡ table)
    → (end_told r l b t k ≡ end_told_of left) × (take 4 l ≡ four table)
of_end left table o r l b t k said called =
    ((λ i. end_told (said.0 i) (said.1 i) b t k) ∙ ap end_told_of called.0, ap (take 4) said.1 ∙ first-four o ∙ ap four called.1)
