-- What is kept of a field is what it says. Assumes nothing.
use mathlib.Core.Path.{◌≡◌, refl, sym, ◌∙◌}
use mathlib.Core.Bool.{Bool, true, false, ◌&&◌}
use mathlib.Core.List.{List, [], ◌∷◌}
use Prim.Native.Nat.{ℕ}
use native.Mathlib.Omega.{arith}
use Rattle.std.specs.Prelude.{Option, Some, None}
use Rattle.lists.specs.Part.{some}
use Rattle.lists.specs.Text.{same}
use Rattle.lists.proofs.TextLaws.{same-equal, same_refl}
use Rattle.clock.specs.declared.OperatingSeconds.{OperatingSeconds}
use Rattle.field_types.specs.Times.{time}
use Rattle.field_types.proofs.Claims.{no-content-outside as outside}
use Rattle.texts.proofs.KeptLaws.{text-read}
use Rattle.columns.specs.Cell.{null, time_cell, time_at, cell}
use Rattle.columns.specs.Tables.{cell_of}
use Rattle.columns.specs.Claims.{TextsKept, NumbersKept, TimesKept, LeftOutAsAbsent}

pub texts_kept : TextsKept
unfolding cell
texts_kept stop f e = rw (text-read f e)

pub numbers-kept : NumbersKept
unfolding cell
numbers-kept = (
  λ stop f. (λ n e. rw e, λ e. rw e),
  λ stop f. (λ n e. rw e, λ e. rw e),
  λ stop f. (λ n e. rw e, λ e. rw e),
  λ stop f. (λ n e. rw e, λ e. rw e),
  λ stop f. (λ n e. rw e, λ e. rw e),
  λ stop f. (λ n e. rw e, λ e. rw e),
  λ stop f. (λ n e. rw e, λ e. rw e),
  λ stop f. (λ n e. rw e, λ e. rw e),
  λ stop f. (λ n e. rw e, λ e. rw e),
  λ stop f. (λ n e. rw e, λ e. rw e),
  λ stop f. (λ n e. rw e, λ e. rw e),
)

-- a field that is not `\0`
other : (f : List ℕ) → (f ≡ null → ⊥) → same f null ≡ false
other f h = go (same f null) refl
  where
    go : (b : Bool) → same f null ≡ b → b ≡ false
    go true e = absurd (h (same-equal f null e))
    go false e = refl

time-said : (word stop f : List ℕ) (t : Option OperatingSeconds) → time f ≡ t → (f ≡ null → ⊥) → time_at word stop f ≡ time_cell t
time-said word stop f t e h = rw (other f h, e)

-- a T is not `\0`
time-other : (f : List ℕ) (s : OperatingSeconds) → time f ≡ Some s → f ≡ null → ⊥
time-other f s e n = let z : None ≡ Some s = sym outside.1 ∙ rw (← n) e in absurd (let y : ◌≡◌ {A = ℕ} 0 1 = cc in omega arith)

pub times_kept : TimesKept
unfolding cell
times_kept stop f = (
  λ s e. (time-said _ stop f (Some s) e (time-other f s e), time-said _ stop f (Some s) e (time-other f s e)),
  λ e h. (time-said _ stop f None e h, time-said _ stop f None e h),
)

pub left-out-as-absent : LeftOutAsAbsent
left-out-as-absent c stop f = (left, λ h. rw (other f h, none (some c.absent)), λ e. rw e)
  where
    none : (b : Bool) → b && false ≡ false
    none true = refl
    none false = refl

    left : (c.absent ≡ [] → ⊥) → cell_of c stop null ≡ c.absent
    left h = go c.absent refl
      where
        go : (l : List ℕ) → c.absent ≡ l → cell_of c stop null ≡ c.absent
        go [] e = absurd (h e)
        go (x ∷ l) e = rw (e, same_refl null)
