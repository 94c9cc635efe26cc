use Prim.Native.Nat.{ℕ, ◌+◌, ◌≤◌, ◌<◌}
use native.Mathlib.Omega.{arith}
use mathlib.Core.Path.{◌≡◌, refl, sym, ap, ◌∙◌}
use mathlib.Core.Bool.{Bool, true, false}
use mathlib.Core.List.{List}
use lib.ListN.{length, get_or, drop}
use Rattle.std.specs.Prelude.{Result, Ok, Err}
use Rattle.syntax.specs.inner.Quiet.{loud, quiet_for, fresh_at}
use Rattle.syntax.proofs.QuietLaws.{quiet-within, quiet-stop}
use Rattle.syntax.specs.declared.Kind.{Kind}
use Rattle.syntax.specs.declared.State.TheVariants.{First, Inside}
use Rattle.syntax.specs.Machine.{run, accepting}
use Rattle.syntax.specs.inner.Scan.{in_text, Ahead, from_line}
use Rattle.syntax.proofs.RunLaws.{run_short}
use Rattle.syntax.proofs.ScanLaws.{quiet-run}

-- The loop over a line's fields: what holds at its start, after a turn, and at each way out. Assumes nothing.

-- at p, in a line whose first field begins at i
pub record Reading (d : List ℕ) (i p : ℕ) (fresh : Bool) : Type 0 where
  pub from : i ≤ p
  pub within : p ≤ length d
  pub same : (k : Kind) → run (First k) (drop i d) i ≡ run (in_text fresh k) (drop p d) p

pub started : (d : List ℕ) (i : ℕ) → i ≤ length d → Reading d i i true
started d i h = record { from = omega arith; within = h; same = λ k. refl }

-- where the quiet bytes from p on end
pub quiet-place : (d : List ℕ) (p j : ℕ) → p ≤ length d → j ≡ p + quiet_for (drop p d) → (p ≤ j) × (j ≤ length d) × (j < length d → loud (get_or d j 0) ≡ true)
quiet-place d p j h e =
    (omega arith, omega (arith, quiet-within d p h), λ w. rw e (quiet-stop d p (omega arith)))

text-open : (f : Bool) (k : Kind) → accepting (in_text f k) ≡ false
unfolding accepting
text-open true k = refl
text-open false k = refl

module _ (d : List ℕ) (i p : ℕ) (fresh : Bool) (r : Reading d i p fresh) (j : ℕ) (e : j ≡ p + quiet_for (drop p d)) where
  -- the machine at j
  at-loud : (k : Kind) → run (First k) (drop i d) i ≡ run (in_text (fresh_at d p j fresh) k) (drop j d) j
  at-loud k =
      r.same k
      ∙ quiet-run fresh k d p (quiet_for (drop p d)) (omega arith) (quiet-within d p r.within)
      ∙ ap (λ (n : ℕ). run (in_text (fresh_at d p n fresh) k) (drop n d) n) (sym e)

  -- the bytes end in the line
  pub stopped-short : length d ≤ j → (j ≤ length d) × ((k : Kind) → run (First k) (drop i d) i ≡ Err j)
  stopped-short h =
      ((quiet-place d p j r.within e).1, λ k. at-loud k ∙ run_short _ d j h (text-open (fresh_at d p j fresh) k))

  -- the line ends, or faults, at j
  pub ended : (o : Result ℕ ℕ) → Ahead j (length d) o → ((f : Bool) (k : Kind) → run (in_text f k) (drop j d) j ≡ from_line k d o)
      → Ahead i (length d) o × ((k : Kind) → run (First k) (drop i d) i ≡ from_line k d o)
  ended o a h = (further o a, λ k. at-loud k ∙ h (fresh_at d p j fresh) k)
    where
      further : (o : Result ℕ ℕ) → Ahead j (length d) o → Ahead i (length d) o
      further (Ok n) (x, y) = let f = r.from in let q = quiet-place d p j r.within e in (omega (arith, q.0), y)
      further (Err n) x = x

  -- an escape at j
  module _ (f : Bool) (g : f ≡ fresh_at d p j fresh) where
    via : (k : Kind) → run (First k) (drop i d) i ≡ run (in_text f k) (drop j d) j
    via k = at-loud k ∙ ap (λ (t : Bool). run (in_text t k) (drop j d) j) (sym g)

    -- it leads to n
    pub turned : (n : ℕ) → (j < n) × (n ≤ length d) → ((k : Kind) → run (in_text f k) (drop j d) j ≡ run (Inside k) (drop n d) n) → (p < n) × Reading d i n false
    turned n b h =
        let f = r.from in
        let w = quiet-place d p j r.within e in (omega (arith, b.0, w.0), record { from = omega (arith, b.0, w.0); within = b.1; same = λ k. via k ∙ h k })

    -- it stops at x
    pub stopped : (x : ℕ) → ((k : Kind) → run (in_text f k) (drop j d) j ≡ Err x) → (k : Kind) → run (First k) (drop i d) i ≡ Err x
    stopped x h k = via k ∙ h k
