-- A plan passage is written piece by piece. Assumes nothing.
use Prim.Native.Nat.{ℕ, ◌+◌, ◌-◌, ◌≤◌}
use native.Mathlib.Omega.{arith}
use native.Mathlib.Nat.{add-zero}
use mathlib.Core.Path.{◌≡◌, ap, ◌∙◌}
use mathlib.Core.List.{List, [], ◌∷◌, ◌++◌, append-nil}
use lib.ListN.{length, get_or, replicate, length-append, drop_of_length-le}
use Rattle.lists.specs.Part.{part, over}
use Rattle.lists.proofs.OverLaws.{onto-fits, over-then}
use Rattle.lists.proofs.PartLaws.{length_part, part-part, part_at}
use Rattle.passage.specs.Layout.{text_wide, date_wide, stamp_wide, owner_at, date_offset, line_at, key_wide, destination_at, stamp_at, arrival_at, show_cancelled_at, body_wide, owner_of}
use Rattle.reader.specs.Passes.{pass_level_at, pass_destination_at, pass_flexible_at, pass_wide, validity_date_at, validity_wide}
use Rattle.plan.specs.Passes.{trip_wide, times_wide, pass_trip_at, pass_times_at, plan_key, plan_rest, plan_body}
use Rattle.plan.specs.inner.Look.{shared_wide, shared_of}

-- a piece behind those that are written
then-piece : (at n : ℕ) (xs ys s₀ s : List ℕ) → s ≡ over at xs s₀ → length xs ≡ n → over (at + n) ys s ≡ over at (xs ++ ys) s₀
then-piece at n xs ys s₀ s e l = rw (e, ← l) (over-then at xs ys s₀)

-- ---- lengths

pub key-length : (p v : List ℕ) → length p ≡ pass_wide → length v ≡ validity_wide → length (plan_key p v) ≡ key_wide
key-length p v h k =
    let date = part validity_date_at date_wide v in
    let trip = part pass_trip_at trip_wide p in
    length-append (owner_of p ++ date) trip
    ∙ omega (arith, length-append (owner_of p) date, length_part owner_at text_wide p (omega arith), length_part validity_date_at date_wide v (omega arith), length_part pass_trip_at trip_wide p (omega arith))

-- timestamp 0 and PLANNED
abbrev unheard : List ℕ
unheard = replicate (stamp_wide + 1) 0

pub rest-length : (p : List ℕ) → length p ≡ pass_wide → length (plan_rest p) ≡ body_wide - key_wide
rest-length p h =
    let destination = part pass_destination_at text_wide p in
    let times = part pass_times_at times_wide p in
    let a = length-append destination unheard in
    let b = length-append (destination ++ unheard) times in
    length-append (destination ++ unheard ++ times) (1 ∷ get_or p pass_flexible_at 0 ∷ 0 ∷ [])
    ∙ omega (arith, length_part pass_destination_at text_wide p (omega arith), length_part pass_times_at times_wide p (omega arith))

pub body-length : (p v : List ℕ) → length p ≡ pass_wide → length v ≡ validity_wide → length (plan_body p v) ≡ body_wide
unfolding plan_body
body-length p v h k = length-append (plan_key p v) (plan_rest p) ∙ omega (arith, key-length p v h k, rest-length p h)

-- ---- pieces of a pass time at p and of a validity at q

module _ (at p : ℕ) (ps : List ℕ) (h : p + pass_wide ≤ length ps) (s₀ : List ℕ) where
  -- a part of the pass time
  piece : (off n : ℕ) → off + n ≤ pass_wide → part off n (part p pass_wide ps) ≡ part (p + off) n ps
  piece off n k = part-part off n p pass_wide ps k

  abbrev flags : List ℕ
  flags = 1 ∷ get_or ps (p + pass_flexible_at) 0 ∷ 0 ∷ []

  pub rest-written : (s₁ s₂ s₃ s₄ : List ℕ)
      → s₁ ≡ over (at + destination_at) (part (p + pass_destination_at) text_wide ps) s₀
      → s₂ ≡ over (at + stamp_at) unheard s₁
      → s₃ ≡ over (at + arrival_at) (part (p + pass_times_at) times_wide ps) s₂
      → s₄ ≡ over (at + show_cancelled_at) flags s₃
      → s₄ ≡ over (at + key_wide) (plan_rest (part p pass_wide ps)) s₀
  rest-written s₁ s₂ s₃ s₄ e₁ e₂ e₃ e₄ =
      let to = at + key_wide in
      let destination = part (p + pass_destination_at) text_wide ps in
      let times = part (p + pass_times_at) times_wide ps in
      let i₂ : at + stamp_at ≡ to + (stamp_at - key_wide) = omega arith in
      let i₃ : at + arrival_at ≡ to + (arrival_at - key_wide) = omega arith in
      let i₄ : at + show_cancelled_at ≡ to + (show_cancelled_at - key_wide) = omega arith in
      let l₁ : length destination ≡ stamp_at - key_wide = length_part (p + pass_destination_at) text_wide ps (omega arith) in
      let l₂ : length (destination ++ unheard) ≡ arrival_at - key_wide = length-append destination unheard ∙ omega arith in
      let l₃ : length ((destination ++ unheard) ++ times) ≡ show_cancelled_at - key_wide = length-append (destination ++ unheard) times ∙ omega (arith, l₂, length_part (p + pass_times_at) times_wide ps (omega arith)) in
      let a₂ = e₂ ∙ ap (λ (m : ℕ). over m unheard s₁) i₂ ∙ then-piece to (stamp_at - key_wide) destination unheard s₀ s₁ e₁ l₁ in
      let a₃ = e₃ ∙ ap (λ (m : ℕ). over m times s₂) i₃ ∙ then-piece to (arrival_at - key_wide) (destination ++ unheard) times s₀ s₂ a₂ l₂ in
      e₄ ∙ ap (λ (m : ℕ). over m flags s₃) i₄ ∙ then-piece to (show_cancelled_at - key_wide) ((destination ++ unheard) ++ times) flags s₀ s₃ a₃ l₃
      ∙ ap (λ (l : List ℕ). over to l s₀) (rw (piece pass_destination_at text_wide (omega arith), piece pass_times_at times_wide (omega arith), part_at p pass_wide ps pass_flexible_at (omega arith)))

  module _ (q : ℕ) (vs : List ℕ) (k : q + validity_wide ≤ length vs) where
    pub key-written : (s₁ s₂ s₃ : List ℕ)
        → s₁ ≡ over at (part p text_wide ps) s₀
        → s₂ ≡ over (at + date_offset) (part (q + validity_date_at) date_wide vs) s₁
        → s₃ ≡ over (at + line_at) (part (p + pass_trip_at) trip_wide ps) s₂
        → s₃ ≡ over at (plan_key (part p pass_wide ps) (part q validity_wide vs)) s₀
    key-written s₁ s₂ s₃ e₁ e₂ e₃ =
        let owner = part p text_wide ps in
        let date = part (q + validity_date_at) date_wide vs in
        let trip = part (p + pass_trip_at) trip_wide ps in
        let l₁ : length owner ≡ date_offset = length_part p text_wide ps (omega arith) in
        let l₂ : length (owner ++ date) ≡ line_at = length-append owner date ∙ omega (arith, l₁, length_part (q + validity_date_at) date_wide vs (omega arith)) in
        let a₂ = e₂ ∙ then-piece at date_offset owner date s₀ s₁ e₁ l₁ in
        e₃ ∙ then-piece at line_at (owner ++ date) trip s₀ s₂ a₂ l₂
        ∙ ap (λ (l : List ℕ). over at l s₀) (rw (piece owner_at text_wide (omega arith), piece pass_trip_at trip_wide (omega arith), part-part validity_date_at date_wide q validity_wide vs (omega arith), add-zero p))

    pub body-written : (s₁ s₂ : List ℕ)
        → s₁ ≡ over at (plan_key (part p pass_wide ps) (part q validity_wide vs)) s₀
        → s₂ ≡ over (at + key_wide) (plan_rest (part p pass_wide ps)) s₁
        → s₂ ≡ over at (plan_body (part p pass_wide ps) (part q validity_wide vs)) s₀
    unfolding plan_body
    body-written s₁ s₂ e₁ e₂ =
        let pass = part p pass_wide ps in
        let validity = part q validity_wide vs in
        e₂ ∙ then-piece at key_wide (plan_key pass validity) (plan_rest pass) s₀ s₁ e₁ (key-length pass validity (length_part p pass_wide ps h) (length_part q validity_wide vs k))

-- ---- owner and service level

-- a list that is written over one as long is what is left
over-whole : (xs s : List ℕ) → length xs ≡ length s → over 0 xs s ≡ xs
unfolding over
over-whole xs s e =
    let h : length s ≤ length xs = omega arith in
    onto-fits xs s (omega arith) ∙ ap (λ (l : List ℕ). xs ++ l) (drop_of_length-le s h) ∙ append-nil xs

pub shared-written : (p : ℕ) (ps s₀ s₁ s₂ : List ℕ) → p + pass_wide ≤ length ps → length s₀ ≡ shared_wide → s₁ ≡ over 0 (part p text_wide ps) s₀ → s₂ ≡ over text_wide (part (p + pass_level_at) text_wide ps) s₁ → s₂ ≡ shared_of (part p pass_wide ps)
shared-written p ps s₀ s₁ s₂ h l e₁ e₂ =
    let owner = part p text_wide ps in
    let level = part (p + pass_level_at) text_wide ps in
    let l₁ : length owner ≡ text_wide = length_part p text_wide ps (omega arith) in
    let l₂ : length (owner ++ level) ≡ shared_wide = length-append owner level ∙ omega (arith, l₁, length_part (p + pass_level_at) text_wide ps (omega arith)) in
    e₂ ∙ then-piece 0 text_wide owner level s₀ s₁ e₁ l₁ ∙ over-whole (owner ++ level) s₀ (omega arith)
    ∙ rw (part-part owner_at text_wide p pass_wide ps (omega arith), part-part pass_level_at text_wide p pass_wide ps (omega arith), add-zero p)
