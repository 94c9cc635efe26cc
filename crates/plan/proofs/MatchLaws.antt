-- Where the first match is, and that nothing joins before it. Assumes nothing.
use Prim.Native.Nat.{ℕ, suc, ◌+◌, ◌≤◌, ◌<◌}
use native.Mathlib.Omega.{arith}
use mathlib.Core.Path.{◌≡◌, refl, sym, ap, ◌∙◌}
use mathlib.Core.Bool.{Bool, true, false}
use mathlib.Core.List.{List, [], ◌∷◌}
use lib.ListN.{length, drop, get_or, length-append}
use Rattle.lists.specs.Logic.{on}
use Rattle.lists.specs.Text.{same}
use Rattle.lists.specs.Part.{part}
use Rattle.lists.specs.Rows.{Wide}
use Rattle.lists.proofs.PartLaws.{length_part, part-add}
use Rattle.passage.specs.Layout.{text_wide, owner_at, body_wide, owner_of}
use Rattle.reader.specs.Passes.{pass_level_at, pass_wide, validity_wide}
use Rattle.plan.specs.Passes.{pass_level, validity_level, plan_body}
use Rattle.plan.proofs.BodyLaws.{body-length}
use Rattle.plan.specs.Rules.{matches, joined_with}
use Rattle.plan.proofs.TextLaws.{same-append}
use Rattle.plan.specs.inner.Look.{shared_wide, first_with, shared_of}

-- how long the owner and the service level of a pass time are
pub shared_long : (s : List ℕ) (p : ℕ) (ps : List ℕ) → s ≡ shared_of (part p pass_wide ps) → p + pass_wide ≤ length ps → length s ≡ shared_wide
shared_long s p ps e h =
    let l = length_part p pass_wide ps h in
    ap length e ∙ length-append (owner_of (part p pass_wide ps)) (pass_level (part p pass_wide ps))
    ∙ omega (arith, length_part owner_at text_wide (part p pass_wide ps) (omega arith), length_part pass_level_at text_wide (part p pass_wide ps) (omega arith))

-- a validity matches exactly where it begins with the pass time's owner and service level
matches-shared : (p v : List ℕ) → length p ≡ pass_wide → length v ≡ validity_wide → matches p v ≡ same (shared_of p) (part 0 shared_wide v)
unfolding matches
matches-shared p v h k =
    sym
    (ap (same (shared_of p)) (part-add owner_at text_wide text_wide v)
    ∙ same-append (owner_of p) (owner_of v) (pass_level p) (validity_level v) (length_part owner_at text_wide p (omega arith) ∙ sym (length_part owner_at text_wide v (omega arith))))

pub first-most : (s : List ℕ) (ws : List (List ℕ)) → first_with s ws ≤ length ws
unfolding first_with
first-most s [] = omega arith
first-most s (v ∷ ws) = go (same s (part 0 shared_wide v)) (first-most s ws)
  where
    go : (b : Bool) → first_with s ws ≤ length ws → on b 0 (suc (first_with s ws)) ≤ suc (length ws)
    go true h = omega arith
    go false h = omega arith

module _ (p : List ℕ) (h : length p ≡ pass_wide) where
  -- the first is one that matches
  pub first_matches : (ws : List (List ℕ)) → Wide validity_wide ws → first_with (shared_of p) ws < length ws → matches p (get_or ws (first_with (shared_of p) ws) []) ≡ true
  unfolding first_with
  first_matches [] w k = absurd (omega arith)
  first_matches (v ∷ ws) w k = go (same (shared_of p) (part 0 shared_wide v)) refl k (first_matches ws w.1)
    where
      go : (b : Bool) → same (shared_of p) (part 0 shared_wide v) ≡ b → on b 0 (suc (first_with (shared_of p) ws)) < suc (length ws)
          → (first_with (shared_of p) ws < length ws → matches p (get_or ws (first_with (shared_of p) ws) []) ≡ true)
          → matches p (get_or (v ∷ ws) (on b 0 (suc (first_with (shared_of p) ws))) []) ≡ true
      go true e l ih = matches-shared p v h w.0 ∙ e
      go false e l ih = ih (omega arith)

  -- and nothing joins before it
  pub first-skips : (ws : List (List ℕ)) → Wide validity_wide ws → joined_with p ws ≡ joined_with p (drop (first_with (shared_of p) ws) ws)
  unfolding first_with joined_with
  first-skips [] w = refl
  first-skips (v ∷ ws) w = go (same (shared_of p) (part 0 shared_wide v)) refl (first-skips ws w.1)
    where
      go : (b : Bool) → same (shared_of p) (part 0 shared_wide v) ≡ b → joined_with p ws ≡ joined_with p (drop (first_with (shared_of p) ws) ws)
          → joined_with p (v ∷ ws) ≡ joined_with p (drop (on b 0 (suc (first_with (shared_of p) ws))) (v ∷ ws))
      go true e ih = refl
      go false e ih = rw (matches-shared p v h w.0 ∙ e) ih

  -- every plan passage is as wide as a body
  pub wide-joined : (ws : List (List ℕ)) → Wide validity_wide ws → Wide body_wide (joined_with p ws)
  unfolding joined_with
  wide-joined [] w = tt
  wide-joined (v ∷ ws) w = go (matches p v) (wide-joined ws w.1)
    where
      go : (b : Bool) → Wide body_wide (joined_with p ws) → Wide body_wide (on b (plan_body p v ∷ joined_with p ws) (joined_with p ws))
      go true ih = (body-length p v h w.0, ih)
      go false ih = ih
