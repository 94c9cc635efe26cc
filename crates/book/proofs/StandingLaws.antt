-- The bodies of standing updates, and what a sound book's bodies hold. Assumes nothing.
use mathlib.Core.Path.{◌≡◌, refl, ap, ◌∙◌}
use mathlib.Core.Bool.{Bool, true, false, ◌&&◌}
use mathlib.Core.List.{List, [], ◌∷◌, ◌++◌}
use Prim.Native.Nat.{ℕ, ◌+◌, ◌<◌, ◌^◌}
use native.Mathlib.Omega.{arith}
use lib.Dec.{eqb, leb}
use lib.ListN.{length}
use Rattle.lists.specs.Logic.{on, within}
use Rattle.lists.specs.Rows.{Wide}
use Rattle.lists.proofs.LogicLaws.{and-pass}
use Rattle.lists.proofs.PartLaws.{length_part}
use Rattle.passage.specs.Layout.{body_wide}
use Rattle.passage.specs.Ranges.{plan_in_range, update_in_range}
use Rattle.book.specs.Entries.{number_wide, body_at, entry_wide, kind_of, number_of, sender_of, entry_body, entry_of, entries_of, plan_count, plan_bodies}
use Rattle.book.specs.Rules.{entry_in_range, all_plans, chained, no_entry, last_from, next_number, marked_withdrawn, withdrawn, others, standing, book_sound}
use Rattle.book.specs.Claims.{UpdateBodies, PlanBodies}
use Rattle.book.proofs.PlanLaws.{wide-bodies}
use Rattle.book.proofs.SoundLaws.{sound-facts, used-within, plans-within}
use Rattle.book.proofs.SplitLaws.{sound-split, split-plans, update_count}
use Rattle.book.proofs.NumberLaws.{link}
use Rattle.book.proofs.ChangeLaws.{entry-body, entry-number, marked-kind, marked-number}

-- ---- which bodies stand

pub standing-append : (xs ys : List (List ℕ)) → standing (xs ++ ys) ≡ standing xs ++ standing ys
unfolding standing
standing-append [] ys = refl
standing-append (x ∷ xs) ys = go (eqb (kind_of x) 2) (standing-append xs ys)
  where
    go : (t : Bool) → standing (xs ++ ys) ≡ standing xs ++ standing ys
        → on t (entry_body x ∷ standing (xs ++ ys)) (standing (xs ++ ys)) ≡ on t (entry_body x ∷ standing xs) (standing xs) ++ standing ys
    go true ih = ap (λ (r : List (List ℕ)). entry_body x ∷ r) ih
    go false ih = ih

-- of a new message, all its bodies
pub standing-new : (n s : ℕ) (bodies : List (List ℕ)) → Wide body_wide bodies → standing (entries_of n s bodies) ≡ bodies
unfolding standing entries_of entry_of
standing-new n s [] h = refl
standing-new n s (b ∷ bs) h = rw (entry-body n s b h.0) (ap (λ (r : List (List ℕ)). b ∷ r) (standing-new n s bs h.1))

-- of a withdrawn message none
pub standing-withdrawn : (n : ℕ) (es : List (List ℕ)) → Wide entry_wide es → standing (withdrawn n es) ≡ standing (others n es)
unfolding standing withdrawn others
standing-withdrawn n [] h = refl
standing-withdrawn n (e ∷ es) h = go (eqb (number_of e) n) (standing-withdrawn n es h.1)
  where
    go : (t : Bool) → standing (withdrawn n es) ≡ standing (others n es) → standing (on t (marked_withdrawn e) e ∷ withdrawn n es) ≡ standing (on t (others n es) (e ∷ others n es))
    go true ih = rw (marked-kind e h.0) ih
    go false ih = rw ih

-- ---- ranges

body-ranges : (e : List ℕ) → length e ≡ entry_wide → entry_in_range e ≡ true → (length (entry_body e) ≡ body_wide) × (update_in_range (entry_body e) ≡ true)
unfolding entry_in_range
body-ranges e l h = (
  length_part body_at body_wide e (omega arith),
  (and-pass (within 2 3 (kind_of e) && leb 1 (sender_of e)) _ h).1,
)

pub standing-ranges : (before : List ℕ) (es : List (List ℕ)) → Wide entry_wide es → chained before es ≡ true → UpdateBodies (standing es)
unfolding standing
standing-ranges before [] w h = tt
standing-ranges before (e ∷ es) w h =
    let l = link before e es h in
    go (eqb (kind_of e) 2) (body-ranges e w.0 l.range) (standing-ranges e es w.1 l.chain)
  where
    go : (t : Bool) → (length (entry_body e) ≡ body_wide) × (update_in_range (entry_body e) ≡ true) → UpdateBodies (standing es) → UpdateBodies (on t (entry_body e ∷ standing es) (standing es))
    go true b ih = (b, ih)
    go false b ih = ih

plan-ranges : (bodies : List (List ℕ)) → Wide body_wide bodies → all_plans bodies ≡ true → PlanBodies bodies
unfolding all_plans
plan-ranges [] w h = tt
plan-ranges (b ∷ bs) w h = let p = and-pass (plan_in_range b) (all_plans bs) h in ((w.0, p.0), plan-ranges bs w.1 p.1)

pub sound-plan-ranges : (used : ℕ) (b : List ℕ) → book_sound used b ≡ true → PlanBodies (plan_bodies used b)
sound-plan-ranges used b sound =
    let f = sound-facts used b sound in
    let u = (used-within used b f).0 in
    let k = plans-within used b in
    let p = split-plans used b (plan_count used b) (update_count used b) (sound-split used b sound) in
    let w = wide-bodies (plan_count used b) b (omega arith) in
    plan-ranges (plan_bodies used b) (rw p w) f.ranges

-- ---- the next number

-- a withdrawal leaves it
last-withdrawn : (n : ℕ) (a b : List ℕ) (es : List (List ℕ)) → number_of a ≡ number_of b → number_of (last_from a (withdrawn n es)) ≡ number_of (last_from b es)
unfolding last_from withdrawn
last-withdrawn n a b [] h = h
last-withdrawn n a b (e ∷ es) h = last-withdrawn n (on (eqb (number_of e) n) (marked_withdrawn e) e) e es (go (eqb (number_of e) n))
  where
    go : (t : Bool) → number_of (on t (marked_withdrawn e) e) ≡ number_of e
    go true = marked-number e
    go false = refl

pub next-withdrawn : (n : ℕ) (es : List (List ℕ)) → next_number (withdrawn n es) ≡ next_number es
unfolding next_number
next-withdrawn n es = ap (λ (m : ℕ). m + 1) (last-withdrawn n no_entry no_entry es refl)

-- a message with rows raises it by one
last-append : (e : List ℕ) (xs : List (List ℕ)) (y : List ℕ) (ys : List (List ℕ)) → last_from e (xs ++ y ∷ ys) ≡ last_from y ys
unfolding last_from
last-append e [] y ys = refl
last-append e (x ∷ xs) y ys = last-append x xs y ys

module _ (n s : ℕ) (small : n < 256 ^ number_wide) where
  last-new : (e : List ℕ) (bodies : List (List ℕ)) → number_of e ≡ n → number_of (last_from e (entries_of n s bodies)) ≡ n
  unfolding last_from entries_of
  last-new e [] h = h
  last-new e (b ∷ bs) h = last-new (entry_of n s b) bs (entry-number n s small b)

  pub next-new : (es : List (List ℕ)) (body : List ℕ) (bodies : List (List ℕ)) → next_number (es ++ entries_of n s (body ∷ bodies)) ≡ n + 1
  unfolding next_number entries_of
  next-new es body bodies =
      ap (λ (m : ℕ). m + 1)
      (ap number_of (last-append no_entry es (entry_of n s body) (entries_of n s bodies)) ∙ last-new (entry_of n s body) bodies (entry-number n s small body))
