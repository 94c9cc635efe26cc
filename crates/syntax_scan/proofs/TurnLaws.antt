-- What the loop of a scan cites: a byte, a run of quiet bytes, and the end of the bytes. Assumes nothing.
use Prim.Native.Nat.{ℕ, zero, suc, ◌+◌, ◌-◌, ◌≤◌, ◌<◌}
use native.Mathlib.Nat.{add-zero}
use native.Mathlib.Numerals.{add-one}
use native.Mathlib.Omega.{arith}
use mathlib.Core.Path.{◌≡◌, refl, sym, ap, ◌∙◌}
use mathlib.Core.Bool.{Bool, true, false, ◌&&◌}
use mathlib.Core.List.{List}
use borrow.Author.Tests.{lt-ltb, le-ltb}
use lib.ListN.{length, get_or, drop, drop_of_length-le}
use lib.Seq.{drop-cons}
use Rattle.std.specs.Prelude.{Option, Some, None, Result, Ok, Err}
use Rattle.lists.proofs.LogicLaws.{and-pass}
use Rattle.syntax.specs.declared.Kind.{Kind}
use Rattle.syntax.specs.declared.Kind.TheVariants.{Rows}
use Rattle.syntax.specs.declared.State.{State}
use Rattle.syntax.specs.declared.State.TheVariants.{Open, First, FirstEsc, Null}
use Rattle.syntax.specs.Machine.{field_step, first_escape_step, null_step, step}
use Rattle.syntax.specs.inner.Quiet.{loud, quiet_for, fresh_at}
use Rattle.syntax.specs.inner.Scan.{in_text}
use Rattle.syntax.proofs.EndLaws.{rows_alike}
use Rattle.syntax.proofs.QuietLaws.{loud-here, quiet-skip, quiet-within}
use Rattle.syntax.proofs.LineLaws.{quiet-place}
use Rattle.syntax.proofs.ScanLaws.{quiet_step}
use Rattle.syntax_scan.specs.Scanned.{scanned}
use Rattle.syntax_scan.specs.inner.Turn.{NullField, Passed, from_turn}

-- ---- a byte

module _ (s : State) (d : List ℕ) (i : ℕ) (here : i < length d) {n : Option State} (e : n ≡ step s (get_or d i 0)) where
  pub byte-on : (t : State) → n ≡ Some t → scanned s (drop i d) i ≡ scanned t (drop (i + 1) d) (i + 1)
  unfolding scanned
  byte-on t q = rw (drop-cons d i 0 here) (rw (sym e ∙ q) (ap (λ (m : ℕ). scanned t (drop m d) (i + 1)) (sym (add-one i))))

  pub byte-stuck : n ≡ None → scanned s (drop i d) i ≡ Err i
  unfolding scanned
  byte-stuck q = rw (drop-cons d i 0 here) (rw (sym e ∙ q))

pub bytes-end : (s : State) (d : List ℕ) (i : ℕ) → length d ≤ i → scanned s (drop i d) i ≡ Ok s
unfolding scanned
bytes-end s d i h = rw (drop_of_length-le d h)

-- ---- quiet bytes

quiet-byte : (d : List ℕ) (i n : ℕ) → suc n ≤ quiet_for (drop i d) → i + suc n ≤ length d → loud (get_or d (i + n) 0) ≡ false
quiet-byte d i n h w = go (loud (get_or d (i + n) 0)) refl
  where
    go : (t : Bool) → loud (get_or d (i + n) 0) ≡ t → t ≡ false
    go true e = absurd (omega (arith, quiet-skip d i n (omega arith), loud-here d (i + n) (omega arith) e))
    go false e = refl

quiet-scan : (f : Bool) (k : Kind) (d : List ℕ) (i n : ℕ) → n ≤ quiet_for (drop i d) → i + n ≤ length d
    → scanned (in_text f k) (drop i d) i ≡ scanned (in_text (fresh_at d i (i + n) f) k) (drop (i + n) d) (i + n)
quiet-scan f k d i zero h w = rw (add-zero, le-ltb i i (omega arith))
quiet-scan f k d i (suc n) h w =
    let b = get_or d (i + n) 0 in
    let e : i + suc n ≡ i + n + 1 = omega arith in
    let m : i + n + 1 - 1 ≡ i + n = omega arith in
    quiet-scan f k d i n (omega arith) (omega arith)
    ∙ byte-on _ d (i + n) (omega arith) refl _ (quiet_step (fresh_at d i (i + n) f) k b (quiet-byte d i n h w))
    ∙ rw (e, lt-ltb i (i + n + 1) (omega arith), m)

-- ---- `\0` as a whole field

null-slash : (k : Kind) → step (First k) 92 ≡ Some (FirstEsc k)
unfolding step field_step
null-slash k = refl

null-zero : (k : Kind) → step (FirstEsc k) 48 ≡ Some (Null k)
unfolding step first_escape_step
null-zero k = refl

null-bar : (k : Kind) → step (Null k) 124 ≡ Some (First k)
unfolding step null_step
null-bar k = refl

null-scan : (k : Kind) (d : List ℕ) (i : ℕ) → NullField d i → scanned (First k) (drop i d) i ≡ scanned (First k) (drop (i + 3) d) (i + 3)
null-scan k d i (h, a, b, c) =
    let two : i + 1 + 1 ≡ i + 2 = omega arith in
    let three : i + 2 + 1 ≡ i + 3 = omega arith in
    byte-on (First k) d i (omega arith) refl (FirstEsc k) (rw a (null-slash k))
    ∙ byte-on (FirstEsc k) d (i + 1) (omega arith) refl (Null k) (rw b (null-zero k))
    ∙ ap (λ (n : ℕ). scanned (Null k) (drop n d) n) two
    ∙ byte-on (Null k) d (i + 2) h refl (First k) (rw c (null-bar k))
    ∙ ap (λ (n : ℕ). scanned (First k) (drop n d) n) three

-- ---- a data line's start is text, but for a backslash

pub start-alike : (d : List ℕ) (i : ℕ) → i < length d → (get_or d i 0 ≡ 92 → ⊥) → scanned (Open Rows) (drop i d) i ≡ scanned (First Rows) (drop i d) i
unfolding scanned
start-alike d i h n = rw (drop-cons d i 0 h) (rw (rows_alike (get_or d i 0) n))

-- ---- a run of text

-- from i to j, where the quiet bytes end, in the state s there
module _ (d : List ℕ) (i : ℕ) (here : i < length d) (f : Bool) (k : Kind) {j : ℕ} (m : j ≡ i + quiet_for (drop i d)) {g : Bool} (b : g ≡ fresh_at d i j f) {s : State} (q : s ≡ in_text g k) where
  at-end : scanned (in_text f k) (drop i d) i ≡ scanned s (drop j d) j
  at-end =
      quiet-scan f k d i (quiet_for (drop i d)) (omega arith) (quiet-within d i (omega arith))
      ∙ ap (λ (n : ℕ). scanned (in_text (fresh_at d i n f) k) (drop n d) n) (sym m)
      ∙ ap (λ (t : State). scanned t (drop j d) j) (sym (q ∙ ap (λ (x : Bool). in_text x k) b))

  -- the bytes end there
  pub text-ends : length d ≤ j → Passed i (length d) (Ok (s, j)) × (scanned (in_text f k) (drop i d) i ≡ from_turn d (Ok (s, j)))
  text-ends h = ((omega arith, (quiet-place d i j (omega arith) m).1), at-end)

  -- a field `\0` stands there
  pub text-null : {t : Bool} → (t ≡ true → NullField d j) → g && t ≡ true → Passed i (length d) (Ok (First k, j + 3)) × (scanned (in_text f k) (drop i d) i ≡ from_turn d (Ok (First k, j + 3)))
  text-null {t} h e =
      let a = and-pass g t e in
      let n = h a.1 in
      let l = (quiet-place d i j (omega arith) m).0 in
      ((omega (arith, n.0), omega (arith, n.0)), at-end ∙ ap (λ (x : State). scanned x (drop j d) j) (q ∙ ap (λ (x : Bool). in_text x k) a.0) ∙ null-scan k d j n)

  -- or another byte
  pub text-on : (r : Result (State × ℕ) ℕ) → Passed j (length d) r → scanned s (drop j d) j ≡ from_turn d r → Passed i (length d) r × (scanned (in_text f k) (drop i d) i ≡ from_turn d r)
  text-on r p h = (further r p, at-end ∙ h)
    where
      further : (r : Result (State × ℕ) ℕ) → Passed j (length d) r → Passed i (length d) r
      further (Ok (t, n)) (x, y) = let l = (quiet-place d i j (omega arith) m).0 in (omega arith, y)
      further (Err n) x = x
