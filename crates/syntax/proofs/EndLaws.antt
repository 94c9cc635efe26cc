use Prim.Native.Nat.{ℕ, ◌+◌, ◌≤◌, ◌<◌}
use native.Mathlib.Omega.{arith}
use mathlib.Core.Path.{◌≡◌, refl, sym, ap, ◌∙◌}
use mathlib.Core.Bool.{Bool, true, false, ◌||◌}
use mathlib.Core.Logic.{◌⊎◌, inl, inr, ⊎_elim}
use mathlib.Core.List.{List}
use borrow.Author.Tests.{ne_eqb, eqb-true}
use lib.ListN.{length, get_or, drop}
use lib.Dec.{eqb, ltb}
use Rattle.std.specs.Prelude.{Some, None, Ok, Err}
use Rattle.lists.specs.Logic.{on}
use Rattle.syntax.specs.inner.Quiet.{loud}
use Rattle.syntax.specs.declared.Kind.{Kind}
use Rattle.syntax.specs.declared.Kind.TheVariants.{Nothing, Group, Table, Rows}
use Rattle.syntax.specs.declared.State.{State}
use Rattle.syntax.specs.declared.State.TheVariants.{Open, Mark, First, Inside, FirstEsc, InsideEsc, Null, Ret}
use Rattle.syntax.specs.Machine.{field_step, escape_step, first_escape_step, null_step, return_step, start_step, mark_step, step, accepting, run}
use Rattle.syntax.specs.inner.Scan.{in_text, marked_start, plain_start, from_start, Begun}
use Rattle.syntax.proofs.RunLaws.{run-to, run-bad, run_short, run-alike}

-- Where the machine goes from a loud byte of a field's text, and from a line's start. Assumes nothing.

-- a backslash in a field's text
abbrev slashed : Bool → Kind → State
slashed true k = FirstEsc k
slashed false k = InsideEsc k

slash-step : (f : Bool) (k : Kind) → step (in_text f k) 92 ≡ Some (slashed f k)
unfolding step field_step
slash-step true k = refl
slash-step false k = refl

slash-open : (f : Bool) (k : Kind) → accepting (slashed f k) ≡ false
unfolding accepting
slash-open true k = refl
slash-open false k = refl

-- the byte behind it
abbrev Letter : ℕ → Type 0
Letter b = (b ≡ 105) ⊎ ((b ≡ 110) ⊎ ((b ≡ 112) ⊎ (b ≡ 114)))

slash-good : (f : Bool) (k : Kind) (b : ℕ) → Letter b → step (slashed f k) b ≡ Some (Inside k)
unfolding step first_escape_step escape_step
slash-good true k b h = ⊎_elim (λ e. rw e) (λ h. ⊎_elim (λ e. rw e) (λ h. ⊎_elim (λ e. rw e) (λ e. rw e) h) h) h
slash-good false k b h = ⊎_elim (λ e. rw e) (λ h. ⊎_elim (λ e. rw e) (λ h. ⊎_elim (λ e. rw e) (λ e. rw e) h) h) h

escape-bad : (k : Kind) (b : ℕ) → (Letter b → ⊥) → escape_step k b ≡ None
unfolding escape_step
escape-bad k b h = rw (ne_eqb b 105 (λ e. h (inl e)), ne_eqb b 110 (λ e. h (inr (inl e))), ne_eqb b 112 (λ e. h (inr (inr (inl e)))), ne_eqb b 114 (λ e. h (inr (inr (inr e)))))

slash-bad : (f : Bool) (k : Kind) (b : ℕ) → (Letter b → ⊥) → (b ≡ 48 → ⊥) → step (slashed f k) b ≡ None
unfolding step first_escape_step
slash-bad true k b h z = rw (ne_eqb b 48 z) (escape-bad k b h)
slash-bad false k b h z = escape-bad k b h

module _ (d : List ℕ) (j : ℕ) (here : j < length d) (slash : get_or d j 0 ≡ 92) (f : Bool) (k : Kind) where
  slash-run : run (in_text f k) (drop j d) j ≡ run (slashed f k) (drop (j + 1) d) (j + 1)
  slash-run = run-to _ _ d j here (rw slash (slash-step f k))

  pub slash-ends : length d ≤ j + 1 → run (in_text f k) (drop j d) j ≡ Err (j + 1)
  slash-ends h = slash-run ∙ run_short _ d (j + 1) h (slash-open f k)

  pub slash-letter : j + 1 < length d → Letter (get_or d (j + 1) 0) → run (in_text f k) (drop j d) j ≡ run (Inside k) (drop (j + 1 + 1) d) (j + 1 + 1)
  slash-letter h e = slash-run ∙ run-to _ _ d (j + 1) h (slash-good f k _ e)

  pub slash-other : j + 1 < length d → (Letter (get_or d (j + 1) 0) → ⊥) → (get_or d (j + 1) 0 ≡ 48 → ⊥) → run (in_text f k) (drop j d) j ≡ Err (j + 1)
  slash-other h n z = slash-run ∙ run-bad _ d (j + 1) h (slash-bad f k _ n z)

-- `\0`
nul-inside : (k : Kind) → step (InsideEsc k) 48 ≡ None
unfolding step escape_step
nul-inside k = refl

nul-first : (k : Kind) → step (FirstEsc k) 48 ≡ Some (Null k)
unfolding step first_escape_step
nul-first k = refl

nul-end : (k : Kind) (b : ℕ) → (b ≡ 13) ⊎ (b ≡ 124) → step (Null k) b ≡ step (Inside k) b
unfolding step null_step field_step
nul-end k b h = ⊎_elim (λ e. rw e) (λ e. rw e) h

nul-bad : (k : Kind) (b : ℕ) → ((b ≡ 13) ⊎ (b ≡ 124) → ⊥) → step (Null k) b ≡ None
unfolding step null_step
nul-bad k b h = rw (ne_eqb b 124 (λ e. h (inr e)), ne_eqb b 13 (λ e. h (inl e)))

module _ (d : List ℕ) (j : ℕ) (here : j + 1 < length d) (slash : get_or d j 0 ≡ 92) (zero-there : get_or d (j + 1) 0 ≡ 48) (k : Kind) where
  pub null-inside : run (Inside k) (drop j d) j ≡ Err (j + 1)
  null-inside = slash-run d j (omega arith) slash false k ∙ run-bad _ d (j + 1) here (rw zero-there (nul-inside k))

  null-run : run (First k) (drop j d) j ≡ run (Null k) (drop (j + 2) d) (j + 2)
  null-run =
      let e : j + 1 + 1 ≡ j + 2 = omega arith in
      slash-run d j (omega arith) slash true k ∙ run-to _ _ d (j + 1) here (rw zero-there (nul-first k)) ∙ ap (λ (n : ℕ). run (Null k) (drop n d) n) e

  pub null-ends : length d ≤ j + 2 → run (First k) (drop j d) j ≡ Err (j + 2)
  unfolding accepting
  null-ends h = null-run ∙ run_short _ d (j + 2) h refl

  pub null-good : j + 2 < length d → (let b = get_or d (j + 2) 0 in (b ≡ 13) ⊎ (b ≡ 124)) → run (First k) (drop j d) j ≡ run (Inside k) (drop (j + 2) d) (j + 2)
  null-good h e = null-run ∙ run-alike _ _ d (j + 2) h (nul-end k _ e)

  pub null-other : j + 2 < length d → (let b = get_or d (j + 2) 0 in (b ≡ 13) ⊎ (b ≡ 124) → ⊥) → run (First k) (drop j d) j ≡ Err (j + 2)
  null-other h e = null-run ∙ run-bad _ d (j + 2) h (nul-bad k _ e)

-- CR LF
loud-step : (f : Bool) (k : Kind) (b : ℕ) → loud b ≡ true → (b ≡ 92 → ⊥) → (b ≡ 13 → ⊥) → step (in_text f k) b ≡ None
unfolding step field_step loud
loud-step f k b l s r = go f (bar (eqb b 124) refl) (low (ltb b 32) (rw (ne_eqb b 92 s) at l))
  where
    low : (t : Bool) → (t || false) ≡ true → t ≡ true
    low true e = refl
    low false e = e

    bar : (t : Bool) → eqb b 124 ≡ t → t ≡ false
    bar true e =
        let q : b ≡ 124 = eqb-true b 124 e in
        let z : ◌≡◌ {A = Bool} false true = rw (q) at l in
        absurd (let y : ◌≡◌ {A = ℕ} 0 1 = cc in omega arith)
    bar false e = refl

    go : (f : Bool) → eqb b 124 ≡ false → ltb b 32 ≡ true → step (in_text f k) b ≡ None
    go true x y = rw (ne_eqb b 92 s, x, ne_eqb b 13 r, y)
    go false x y = rw (ne_eqb b 92 s, x, ne_eqb b 13 r, y)

ret_step : (f : Bool) (k : Kind) → step (in_text f k) 13 ≡ Some (Ret k)
unfolding step field_step
ret_step true k = refl
ret_step false k = refl

ret-good : (k : Kind) → step (Ret k) 10 ≡ Some (Open k)
unfolding step return_step
ret-good k = refl

ret-bad : (k : Kind) (b : ℕ) → (b ≡ 10 → ⊥) → step (Ret k) b ≡ None
unfolding step return_step
ret-bad k b h = rw (ne_eqb b 10 h)

module _ (d : List ℕ) (j : ℕ) (here : j < length d) (f : Bool) (k : Kind) where
  pub loud-faults : loud (get_or d j 0) ≡ true → (get_or d j 0 ≡ 92 → ⊥) → (get_or d j 0 ≡ 13 → ⊥) → run (in_text f k) (drop j d) j ≡ Err j
  loud-faults l s r = run-bad _ d j here (loud-step f k _ l s r)

  module _ (cr : get_or d j 0 ≡ 13) where
    ret-run : run (in_text f k) (drop j d) j ≡ run (Ret k) (drop (j + 1) d) (j + 1)
    ret-run = run-to _ _ d j here (rw cr (ret_step f k))

    pub ret-ends : length d ≤ j + 1 → run (in_text f k) (drop j d) j ≡ Err (j + 1)
    unfolding accepting
    ret-ends h = ret-run ∙ run_short _ d (j + 1) h refl

    pub ret-other : j + 1 < length d → (get_or d (j + 1) 0 ≡ 10 → ⊥) → run (in_text f k) (drop j d) j ≡ Err (j + 1)
    ret-other h e = ret-run ∙ run-bad _ d (j + 1) h (ret-bad k _ e)

    pub ret-line : j + 1 < length d → get_or d (j + 1) 0 ≡ 10 → run (in_text f k) (drop j d) j ≡ run (Open k) (drop (j + 1 + 1) d) (j + 1 + 1)
    ret-line h e = ret-run ∙ run-to _ _ d (j + 1) h (rw e (ret-good k))

-- a line that begins with no backslash
plain-bad : (k : Kind) (b : ℕ) → (b ≡ 92 → ⊥) → on (eqb b 92) (Some (Mark k)) None ≡ None
plain-bad k b h = rw (ne_eqb b 92 h)

-- at a data line's start and in its first field the machine differs in a backslash alone
pub rows_alike : (b : ℕ) → (b ≡ 92 → ⊥) → step (Open Rows) b ≡ step (First Rows) b
unfolding step start_step field_step
rows_alike b h = rw (ne_eqb b 92 h)

module _ (d : List ℕ) (i : ℕ) (here : i < length d) where
  pub plain-line : (k : Kind) → (get_or d i 0 ≡ 92 → ⊥) → run (Open k) (drop i d) i ≡ from_start d (plain_start k i)
  unfolding plain_start step start_step
  plain-line Nothing h = run-bad _ d i here (plain-bad Nothing _ h)
  plain-line Group h = run-bad _ d i here (plain-bad Group _ h)
  plain-line Table h = run-bad _ d i here (plain-bad Table _ h)
  plain-line Rows h = run-alike _ _ d i here (rows_alike _ h)

  pub plain-begun : (k : Kind) → Begun i (length d) (plain_start k i)
  unfolding plain_start
  plain-begun Nothing = omega arith
  plain-begun Group = omega arith
  plain-begun Table = omega arith
  plain-begun Rows = (omega arith, omega arith)

-- a line that begins with a backslash
open-slash : (k : Kind) → step (Open k) 92 ≡ Some (Mark k)
unfolding step start_step field_step
open-slash Nothing = refl
open-slash Group = refl
open-slash Table = refl
open-slash Rows = refl

module _ (d : List ℕ) (i : ℕ) (here : i < length d) (slash : get_or d i 0 ≡ 92) where
  mark-run : (k : Kind) → run (Open k) (drop i d) i ≡ run (Mark k) (drop (i + 1) d) (i + 1)
  mark-run k = run-to _ _ d i here (rw slash (open-slash k))

  pub mark-ends : (k : Kind) → length d ≤ i + 1 → run (Open k) (drop i d) i ≡ Err (i + 1)
  unfolding accepting
  mark-ends k h = mark-run k ∙ run_short _ d (i + 1) h refl

  module _ (there : i + 1 < length d) where
    -- behind the letter t, a line of kind m begins
    letter : (k m : Kind) (t : ℕ) → step (Mark k) t ≡ Some (First m) → get_or d (i + 1) 0 ≡ t → run (Open k) (drop i d) i ≡ run (First m) (drop (i + 2) d) (i + 2)
    letter k m t e q =
        let two : i + 1 + 1 ≡ i + 2 = omega arith in
        mark-run k ∙ run-to _ _ d (i + 1) there (rw q e) ∙ ap (λ (n : ℕ). run (First m) (drop n d) n) two

    no-letter : (k : Kind) → step (Mark k) (get_or d (i + 1) 0) ≡ None → run (Open k) (drop i d) i ≡ Err (i + 1)
    no-letter k e = mark-run k ∙ run-bad _ d (i + 1) there e

    -- no `\T`: the backslash begins the first field
    no_table : step (Mark Rows) (get_or d (i + 1) 0) ≡ step (FirstEsc Rows) (get_or d (i + 1) 0) → run (Open Rows) (drop i d) i ≡ run (First Rows) (drop i d) i
    no_table e = mark-run Rows ∙ run-alike _ _ d (i + 1) there e ∙ sym (slash-run d i here slash true Rows)

    pub marked-line : (k : Kind) → run (Open k) (drop i d) i ≡ from_start d (marked_start k (get_or d (i + 1) 0) i)
    unfolding marked_start step mark_step
    marked-line Nothing = go (eqb (get_or d (i + 1) 0) 71) refl
      where
        go : (t : Bool) → eqb (get_or d (i + 1) 0) 71 ≡ t → run (Open Nothing) (drop i d) i ≡ from_start d (on t (Ok (Group, i + 2)) (Err (i + 1)))
        go true e = letter Nothing Group 71 refl (eqb-true _ _ e)
        go false e = no-letter Nothing (rw e)
    marked-line Group = go (eqb (get_or d (i + 1) 0) 84) refl
      where
        go : (t : Bool) → eqb (get_or d (i + 1) 0) 84 ≡ t → run (Open Group) (drop i d) i ≡ from_start d (on t (Ok (Table, i + 2)) (Err (i + 1)))
        go true e = letter Group Table 84 refl (eqb-true _ _ e)
        go false e = no-letter Group (rw e)
    marked-line Table = go (eqb (get_or d (i + 1) 0) 76) refl
      where
        go : (t : Bool) → eqb (get_or d (i + 1) 0) 76 ≡ t → run (Open Table) (drop i d) i ≡ from_start d (on t (Ok (Rows, i + 2)) (Err (i + 1)))
        go true e = letter Table Rows 76 refl (eqb-true _ _ e)
        go false e = no-letter Table (rw e)
    marked-line Rows = go (eqb (get_or d (i + 1) 0) 84) refl
      where
        go : (t : Bool) → eqb (get_or d (i + 1) 0) 84 ≡ t → run (Open Rows) (drop i d) i ≡ from_start d (on t (Ok (Table, i + 2)) (Ok (Rows, i)))
        go true e = letter Rows Table 84 refl (eqb-true _ _ e)
        go false e = no_table (rw e)

    pub marked-begun : (k : Kind) (b : ℕ) → Begun i (length d) (marked_start k b i)
    unfolding marked_start
    marked-begun Nothing b = go (eqb b 71)
      where
        go : (t : Bool) → Begun i (length d) (on t (Ok (Group, i + 2)) (Err (i + 1)))
        go true = (omega arith, omega arith)
        go false = omega arith
    marked-begun Group b = go (eqb b 84)
      where
        go : (t : Bool) → Begun i (length d) (on t (Ok (Table, i + 2)) (Err (i + 1)))
        go true = (omega arith, omega arith)
        go false = omega arith
    marked-begun Table b = go (eqb b 76)
      where
        go : (t : Bool) → Begun i (length d) (on t (Ok (Rows, i + 2)) (Err (i + 1)))
        go true = (omega arith, omega arith)
        go false = omega arith
    marked-begun Rows b = go (eqb b 84)
      where
        go : (t : Bool) → Begun i (length d) (on t (Ok (Table, i + 2)) (Ok (Rows, i)))
        go true = (omega arith, omega arith)
        go false = (omega arith, omega arith)
