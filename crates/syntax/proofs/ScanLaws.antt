use Prim.Native.Nat.{ℕ, zero, suc, ◌+◌, ◌-◌, ◌≤◌}
use native.Mathlib.Nat.{add-zero}
use native.Mathlib.Omega.{arith}
use mathlib.Core.Path.{◌≡◌, refl, ◌∙◌}
use mathlib.Core.Bool.{Bool, true, false}
use mathlib.Core.List.{List}
use borrow.Author.Tests.{ne_eqb, lt-ltb, le-ltb}
use lib.ListN.{length, get_or, drop}
use lib.Dec.{eqb}
use Rattle.std.specs.Prelude.{Some}
use Rattle.lists.specs.Logic.{on}
use Rattle.syntax.specs.inner.Quiet.{loud, quiet_for, fresh_at}
use Rattle.syntax.proofs.QuietLaws.{not-loud, loud-here, quiet-skip}
use Rattle.syntax.specs.declared.Kind.{Kind}
use Rattle.syntax.specs.declared.State.{State}
use Rattle.syntax.specs.declared.State.TheVariants.{First, Inside, FirstEsc, InsideEsc}
use Rattle.syntax.specs.Machine.{field_step, step, run}
use Rattle.syntax.specs.inner.Scan.{in_text}
use Rattle.syntax.proofs.RunLaws.{run-to}

-- The machine over runs of quiet bytes. Assumes nothing.

-- the machine over a quiet byte of a field's text
quiet-field : (e : State) (k : Kind) (b : ℕ) → loud b ≡ false → field_step e k b ≡ Some (in_text (eqb b 124) k)
unfolding field_step
quiet-field e k b q =
    let p = not-loud b q in
    let h = p.0 in
    rw (ne_eqb b 92 p.1, ne_eqb b 13 (λ z. omega arith), le-ltb b 32 h) (go (eqb b 124))
  where
    go : (t : Bool) → on t (Some (First k)) (Some (Inside k)) ≡ Some (in_text t k)
    go true = refl
    go false = refl

pub quiet_step : (f : Bool) (k : Kind) (b : ℕ) → loud b ≡ false → step (in_text f k) b ≡ Some (in_text (eqb b 124) k)
unfolding step
quiet_step true k b q = quiet-field (FirstEsc k) k b q
quiet_step false k b q = quiet-field (InsideEsc k) k b q

-- the machine over n quiet bytes
pub quiet-run : (f : Bool) (k : Kind) (d : List ℕ) (i n : ℕ) → n ≤ quiet_for (drop i d) → i + n ≤ length d
    → run (in_text f k) (drop i d) i ≡ run (in_text (fresh_at d i (i + n) f) k) (drop (i + n) d) (i + n)
quiet-run f k d i zero h w = rw (add-zero, le-ltb i i (omega arith))
quiet-run f k d i (suc n) h w =
    let b = get_or d (i + n) 0 in
    let q : loud b ≡ false = quiet-byte in
    let e : i + suc n ≡ i + n + 1 = omega arith in
    let m : i + n + 1 - 1 ≡ i + n = omega arith in
    quiet-run f k d i n (omega arith) (omega arith)
    ∙ run-to _ _ d (i + n) (omega arith) (quiet_step (fresh_at d i (i + n) f) k b q)
    ∙ rw (e, lt-ltb i (i + n + 1) (omega arith), m)
  where
    quiet-byte : loud (get_or d (i + n) 0) ≡ false
    quiet-byte = go (loud (get_or d (i + n) 0)) refl
      where
        go : (t : Bool) → loud (get_or d (i + n) 0) ≡ t → t ≡ false
        go true e = absurd (omega (arith, quiet-skip d i n (omega arith), loud-here d (i + n) (omega arith) e))
        go false e = refl
