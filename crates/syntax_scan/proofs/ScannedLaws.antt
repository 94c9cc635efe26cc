-- Laws of scans: over parts, by where counting begins, the verdict at the end, and where one is stuck. Assumes nothing.
use Prim.Native.Nat.{ℕ, suc, ◌+◌, ◌-◌, ◌≤◌, ◌<◌}
use native.Mathlib.Nat.{add-zero}
use native.Mathlib.Omega.{arith}
use mathlib.Core.Path.{◌≡◌, refl, sym, ap, ◌∙◌}
use mathlib.Core.List.{List, [], ◌∷◌, ◌++◌}
use lib.ListN.{length, take}
use Rattle.std.specs.Prelude.{Option, Some, None, Result, Ok, Err}
use Rattle.syntax.specs.declared.Kind.TheVariants.{Nothing}
use Rattle.syntax.specs.declared.State.{State}
use Rattle.syntax.specs.declared.State.TheVariants.{Open}
use Rattle.syntax.specs.Machine.{step, follow, run, fault}
use Rattle.syntax_scan.specs.Scanned.{scanned, and_then, later, verdict_at}

-- a part, then another
pub scanned-append : (s : State) (a b : List ℕ) (i : ℕ) → scanned s (a ++ b) i ≡ and_then (scanned s a i) (λ t. scanned t b (i + length a))
unfolding scanned
scanned-append s [] b i = ap (scanned s b) (sym (add-zero i))
scanned-append s (x ∷ a) b i = go (step s x) (λ t. scanned-append t a b (i + 1))
  where
    more : i + 1 + length a ≡ i + length (x ∷ a)
    more = omega arith

    go : (n : Option State) → ((t : State) → scanned t (a ++ b) (i + 1) ≡ and_then (scanned t a (i + 1)) (λ u. scanned u b (i + 1 + length a)))
        → follow n (λ t. scanned t (a ++ b) (i + 1)) (Err i) ≡ and_then (follow n (λ t. scanned t a (i + 1)) (Err i)) (λ u. scanned u b (i + length (x ∷ a)))
    go (Some t) ih = ih t ∙ ap (λ (m : ℕ). and_then (scanned t a (i + 1)) (λ u. scanned u b m)) more
    go None ih = refl

-- the verdict of the machine is that of the scan
pub run-scanned : (s : State) (d : List ℕ) (i : ℕ) → run s d i ≡ verdict_at (scanned s d i) (i + length d)
unfolding scanned run
run-scanned s [] i = rw (add-zero i)
run-scanned s (x ∷ d) i = go (step s x) (λ t. run-scanned t d (i + 1))
  where
    more : i + 1 + length d ≡ i + length (x ∷ d)
    more = omega arith

    go : (n : Option State) → ((t : State) → run t d (i + 1) ≡ verdict_at (scanned t d (i + 1)) (i + 1 + length d))
        → follow n (λ t. run t d (i + 1)) (Err i) ≡ verdict_at (follow n (λ t. scanned t d (i + 1)) (Err i)) (i + length (x ∷ d))
    go (Some t) ih = ih t ∙ ap (verdict_at (scanned t d (i + 1))) more
    go None ih = refl

pub fault-scanned : (d : List ℕ) → fault d ≡ verdict_at (scanned (Open Nothing) d 0) (length d)
unfolding fault
fault-scanned d = let e : 0 + length d ≡ length d = omega arith in run-scanned (Open Nothing) d 0 ∙ ap (verdict_at (scanned (Open Nothing) d 0)) e

-- where counting begins
later-twice : (i k : ℕ) (r : Result State ℕ) → later i (later k r) ≡ later (i + k) r
later-twice i k (Ok t) = refl
later-twice i k (Err j) = let e : i + (k + j) ≡ i + k + j = omega arith in ap Err e

pub scanned-from : (s : State) (d : List ℕ) (i : ℕ) → scanned s d i ≡ later i (scanned s d 0)
unfolding scanned
scanned-from s [] i = refl
scanned-from s (x ∷ d) i = go (step s x) (λ t. scanned-from t d (i + 1)) (λ t. scanned-from t d 1)
  where
    go : (n : Option State) → ((t : State) → scanned t d (i + 1) ≡ later (i + 1) (scanned t d 0)) → ((t : State) → scanned t d 1 ≡ later 1 (scanned t d 0))
        → follow n (λ t. scanned t d (i + 1)) (Err i) ≡ later i (follow n (λ t. scanned t d (0 + 1)) (Err 0))
    go (Some t) f g = f t ∙ sym (ap (later i) (g t) ∙ later-twice i 1 (scanned t d 0))
    go None f g = ap Err (sym (add-zero i))

-- a scan that leads somewhere is nowhere stuck
to-stuck : {t : State} {j : ℕ} → Ok t ≡ Err j → ⊥
to-stuck {t} {j} e = let z : ◌≡◌ {A = ℕ} 0 1 = ap code e in omega arith
  where
    code : Result State ℕ → ℕ
    code (Ok u) = 0
    code (Err k) = 1

stuck_at : {j k : ℕ} → ◌≡◌ {A = Result State ℕ} (Err j) (Err k) → j ≡ k
stuck_at e = ap place e
  where
    place : Result State ℕ → ℕ
    place (Ok u) = 0
    place (Err k) = k

-- what is stuck is stuck at a byte, and those before it lead somewhere
abbrev Halted : State → List ℕ → ℕ → ℕ → Type 0
Halted s d i j = (i ≤ j) × (j < i + length d) × ((t : State) × (scanned s (take (j - i) d) i ≡ Ok t))

pub stuck-byte : (s : State) (d : List ℕ) (i j : ℕ) → scanned s d i ≡ Err j → Halted s d i j
unfolding scanned
stuck-byte s [] i j e = absurd (to-stuck e)
stuck-byte s (x ∷ d) i j e = go (step s x) refl e (λ t. stuck-byte t d (i + 1) j)
  where
    go : (n : Option State) → step s x ≡ n → follow n (λ t. scanned t d (i + 1)) (Err i) ≡ Err j → ((t : State) → scanned t d (i + 1) ≡ Err j → Halted t d (i + 1) j) → Halted s (x ∷ d) i j
    go (Some t) q h ih =
        let r = ih t h in
        let m : j - i ≡ suc (j - (i + 1)) = let a = r.0 in omega arith in
        (omega (arith, r.0), omega (arith, r.1), (r.2.0, rw (m, q) r.2.1))
    go None q h ih =
        let k = stuck_at h in
        let m : j - i ≡ 0 = omega arith in
        (omega arith, omega arith, (s, rw m refl))

pub stuck-first : (s : State) (d : List ℕ) (j : ℕ) → scanned s d 0 ≡ Err j → (j < length d) × ((t : State) × (scanned s (take j d) 0 ≡ Ok t))
stuck-first s d j e =
    let h = stuck-byte s d 0 j e in
    let m : j - 0 ≡ j = omega arith in
    (omega (arith, h.1), rw m at h.2)
