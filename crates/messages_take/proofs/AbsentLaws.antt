-- Updates bring at most one row for each key that is missing at first. Assumes nothing.
use mathlib.Core.Path.{◌≡◌, refl, sym, ap, ◌∙◌}
use mathlib.Core.Bool.{Bool, true, false}
use mathlib.Core.List.{List, [], ◌∷◌}
use mathlib.Core.Logic.{◌⊎◌, inl, inr}
use Prim.Native.Nat.{ℕ, ◌+◌, ◌-◌, ◌*◌, ◌≤◌, ◌<◌}
use native.Mathlib.Nat.{not-suc-le-zero, le_refl}
use native.Mathlib.Omega.{arith}
use borrow.Author.Tests.{le-leb}
use lib.Dec.{leb}
use lib.ListN.{length, drop}
use Rattle.lists.specs.Logic.{on}
use Rattle.lists.specs.Part.{part}
use Rattle.lists.specs.Text.{same}
use Rattle.lists.specs.Rows.{rows_of, Wide}
use Rattle.lists.proofs.RowLaws.{length-rows_of, rows_of-start, rows_of-step}
use Rattle.lists.proofs.WideLaws.{wide-rows_of}
use Rattle.passage.specs.Layout.{key_wide, body_wide, row_wide, key_of}
use Rattle.std.specs.Prelude.{Ok, Err}
use Rattle.keys.specs.Sorted.{lookup, get}
use Rattle.keys.specs.Replay.{taken, taken_all}
use Rattle.keys.proofs.CountLaws.{length-put-held}
use Rattle.keys.proofs.ReplayLaws.{empty-or, length-taken-most, get-taken}
use Rattle.update.specs.Rule.{row_rule}
use Rattle.update.proofs.RuleLaws.{rule-key, rule-not-empty}
use Rattle.messages_take.proofs.TakenLaws.{IsBody, keeps}
use Rattle.messages_take.proofs.LoopLaws.{after, body}
use Rattle.messages_take.proofs.StepLaws.{held-is, held_whole, new_none}
use Rattle.messages_take.specs.inner.Fitting.{one_if_none, absent}

-- ---- rows that come

pub lacking-full : (r : List ℕ) → 0 < length r → one_if_none r ≡ 0
lacking-full [] h = absurd (not-suc-le-zero h)
lacking-full (b ∷ r) h = refl

-- an update of a key that is there brings none
taken-held : (u : List ℕ) (rs : List (List ℕ)) → IsBody u → (get (key_of u) rs ≡ [] → ⊥) → length (taken row_rule u rs) ≡ length rs
unfolding taken
taken-held u rs w n =
    let g = get (key_of u) rs in
    length-put-held (row_rule g u) rs (λ e. n (ap (λ (k : List ℕ). get k rs) (sym (rule-key g u w)) ∙ e))

taken-brings : (u : List ℕ) (rs : List (List ℕ)) → IsBody u → length (taken row_rule u rs) ≤ length rs + one_if_none (get (key_of u) rs)
taken-brings u rs w = go (empty-or (get (key_of u) rs))
  where
    go : (get (key_of u) rs ≡ []) ⊎ (get (key_of u) rs ≡ [] → ⊥) → length (taken row_rule u rs) ≤ length rs + one_if_none (get (key_of u) rs)
    go (inl e) = rw e (omega (arith, length-taken-most row_rule u rs))
    go (inr n) = omega (arith, taken-held u rs w n)

-- a key that is there stays
stays : (k u : List ℕ) (rs : List (List ℕ)) → IsBody u → one_if_none (get k (taken row_rule u rs)) ≤ one_if_none (get k rs)
stays k u rs w = rw (get-taken row_rule IsBody keeps k u rs w) (go (same (key_of u) k))
  where
    go : (b : Bool) → one_if_none (on b (row_rule (get k rs) u) (get k rs)) ≤ one_if_none (get k rs)
    go true = rw (lacking-full (row_rule (get k rs) u) (rule-not-empty (get k rs) u w)) (omega arith)
    go false = le_refl (one_if_none (get k rs))

absent-stays : (us : List (List ℕ)) (u : List ℕ) (rs : List (List ℕ)) → IsBody u → absent us (taken row_rule u rs) ≤ absent us rs
unfolding absent
absent-stays [] u rs w = omega arith
absent-stays (v ∷ us) u rs w = omega (arith, stays (key_of v) u rs w, absent-stays us u rs w)

grows : (us rs : List (List ℕ)) → Wide body_wide us → length (taken_all row_rule us rs) ≤ length rs + absent us rs
unfolding absent taken_all
grows [] rs w = omega arith
grows (u ∷ us) rs w = omega (arith, grows us (taken row_rule u rs) w.1, taken-brings u rs w.0, absent-stays us u rs w.0)

-- no trial is needed where each missing key may bring a row
pub few-fit : (s t : List ℕ) (n m most missing : ℕ) → m * body_wide ≤ length s → n ≤ most → missing ≡ absent (rows_of body_wide m s) (rows_of row_wide n t) → missing ≤ most - n
    → true ≡ leb (length (after s (rows_of row_wide n t) m)) most
few-fit s t n m most missing h l e k =
    let g = grows (rows_of body_wide m s) (rows_of row_wide n t) (wide-rows_of body_wide m s h) in
    sym (le-leb (length (after s (rows_of row_wide n t) m)) most (omega (arith, g, length-rows_of row_wide n t)))

-- ---- what a search tells of a key

module _ (t s : List ℕ) (n at i : ℕ) (fits : n * row_wide ≤ length t) (there : at + body_wide ≤ length s) where
  pub held-there : lookup (part at key_wide s) (rows_of row_wide n t) ≡ Ok i → one_if_none (get (key_of (part at body_wide s)) (rows_of row_wide n t)) ≡ 0
  held-there e =
      let l = held_whole t s n at i fits there e in
      rw (held-is t s n at i fits there e) (lacking-full (part (i * row_wide) row_wide t) (omega arith))

  pub new-lacks : lookup (part at key_wide s) (rows_of row_wide n t) ≡ Err i → one_if_none (get (key_of (part at body_wide s)) (rows_of row_wide n t)) ≡ 1
  new-lacks e = ap one_if_none (new_none t s n at i fits there e)

-- ---- counted in a loop

module _ (rs : List (List ℕ)) (m : ℕ) (s : List ℕ) where
  abbrev bodies_from : ℕ → List (List ℕ)
  bodies_from i = rows_of body_wide (m - i) (drop (i * body_wide) s)

  -- i updates are looked up: so many keys are missing, and those from i on are not counted yet
  pub record Looked (i missing : ℕ) : Type 0 where
    pub small : missing ≤ i
    pub whole : missing + absent (bodies_from i) rs ≡ absent (rows_of body_wide m s) rs

  pub looked-start : Looked 0 0
  looked-start =
      let e = ap (λ (us : List (List ℕ)). absent us rs) (rows_of-start body_wide m s) in
      record { small = omega arith; whole = omega arith }

  next : (i : ℕ) → i < m → absent (bodies_from i) rs ≡ one_if_none (get (key_of (body s i)) rs) + absent (bodies_from (i + 1)) rs
  unfolding absent
  next i h = ap (λ (us : List (List ℕ)). absent us rs) (rows_of-step body_wide m i s h)

  pub looked-held : (i missing : ℕ) → i < m → Looked i missing → one_if_none (get (key_of (body s i)) rs) ≡ 0 → Looked (i + 1) missing
  looked-held i missing h l e =
      let a = next i h in
      let b = l.small in
      let d = l.whole in
      record { small = omega arith; whole = omega arith }

  pub looked-new : (i missing : ℕ) → i < m → Looked i missing → one_if_none (get (key_of (body s i)) rs) ≡ 1 → Looked (i + 1) (missing + 1)
  looked-new i missing h l e =
      let a = next i h in
      let b = l.small in
      let d = l.whole in
      record { small = omega arith; whole = omega arith }

  pub looked-end : (i missing : ℕ) → m ≤ i → Looked i missing → missing ≡ absent (rows_of body_wide m s) rs
  unfolding absent rows_of
  looked-end i missing h l =
      let z : m - i ≡ 0 = omega arith in
      let a : missing + 0 ≡ absent (rows_of body_wide m s) rs = rw z at l.whole in
      omega arith
