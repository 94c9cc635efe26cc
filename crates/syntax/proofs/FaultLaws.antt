use Prim.Native.Nat.{ℕ, suc, ◌+◌, ◌≤◌, ◌<◌}
use native.Mathlib.Omega.{arith}
use mathlib.Core.Path.{◌≡◌, refl, sym, ap, ◌∙◌}
use mathlib.Core.Bool.{Bool, true, false}
use mathlib.Core.List.{List, [], ◌∷◌, ◌++◌}
use lib.ListN.{length, take}
use Rattle.std.specs.Prelude.{Option, Some, None, Result, Ok, Err, ⊤}
use Rattle.syntax.specs.declared.Kind.{Kind}
use Rattle.syntax.specs.declared.Kind.TheVariants.{Nothing, Group, Table, Rows}
use Rattle.syntax.specs.declared.State.{State}
use Rattle.syntax.specs.declared.State.TheVariants.{Open, Mark, First, Inside, FirstEsc, InsideEsc, Null, Ret}
use Rattle.lists.specs.Each.{Bytes}
use Rattle.lists.specs.Logic.{on}
use Rattle.syntax.specs.Machine.{follow, field_step, escape_step, first_escape_step, null_step, return_step, start_step, mark_step, step, accepting, run, fault}
use Rattle.grammar.specs.Grammar.{WellFormed}
use Rattle.syntax.proofs.GrammarLaws.{fine, formed}

-- A fault lies at the first byte that no well-formed dossier could have after those before it, or at the length if the bytes end early:
-- `viable`, the bytes before the fault begin a well-formed dossier; `dead`, with the byte at the fault they begin none; `within`, `early`.
-- Assumes nothing.

-- bytes that bring each state to a good end
close : Kind → List ℕ
close Nothing = 92 ∷ 71 ∷ 13 ∷ 10 ∷ []
close Group = []
close Table = 92 ∷ 76 ∷ 13 ∷ 10 ∷ []
close Rows = []

finish : State → List ℕ
finish (Open k) = close k
finish (Mark Nothing) = 71 ∷ 13 ∷ 10 ∷ []
finish (Mark Group) = 84 ∷ 13 ∷ 10 ∷ close Table
finish (Mark Table) = 76 ∷ 13 ∷ 10 ∷ []
finish (Mark Rows) = 110 ∷ 13 ∷ 10 ∷ []
finish (First k) = 13 ∷ 10 ∷ close k
finish (Inside k) = 13 ∷ 10 ∷ close k
finish (FirstEsc k) = 110 ∷ 13 ∷ 10 ∷ close k
finish (InsideEsc k) = 110 ∷ 13 ∷ 10 ∷ close k
finish (Null k) = 13 ∷ 10 ∷ close k
finish (Ret k) = 10 ∷ close k

close-fine : (k : Kind) (i : ℕ) → run (Open k) (close k) i ≡ Ok tt
unfolding close run step field_step return_step start_step mark_step accepting
close-fine Nothing i = refl
close-fine Group i = refl
close-fine Table i = refl
close-fine Rows i = refl

finish-fine : (s : State) (i : ℕ) → run s (finish s) i ≡ Ok tt
unfolding close finish run step field_step escape_step first_escape_step null_step return_step start_step mark_step accepting
finish-fine (Open k) i = close-fine k i
finish-fine (Mark Nothing) i = refl
finish-fine (Mark Group) i = refl
finish-fine (Mark Table) i = refl
finish-fine (Mark Rows) i = refl
finish-fine (First k) i = close-fine k (i + 1 + 1)
finish-fine (Inside k) i = close-fine k (i + 1 + 1)
finish-fine (FirstEsc k) i = close-fine k (i + 1 + 1 + 1)
finish-fine (InsideEsc k) i = close-fine k (i + 1 + 1 + 1)
finish-fine (Null k) i = close-fine k (i + 1 + 1)
finish-fine (Ret k) i = close-fine k (i + 1)

close-bytes : (k : Kind) → Bytes (close k)
unfolding close
close-bytes Nothing = (omega arith, (omega arith, (omega arith, (omega arith, tt))))
close-bytes Group = tt
close-bytes Table = (omega arith, (omega arith, (omega arith, (omega arith, tt))))
close-bytes Rows = tt

finish-bytes : (s : State) → Bytes (finish s)
unfolding finish
finish-bytes (Open k) = close-bytes k
finish-bytes (Mark Nothing) = (omega arith, (omega arith, (omega arith, tt)))
finish-bytes (Mark Group) = (omega arith, (omega arith, (omega arith, close-bytes Table)))
finish-bytes (Mark Table) = (omega arith, (omega arith, (omega arith, tt)))
finish-bytes (Mark Rows) = (omega arith, (omega arith, (omega arith, tt)))
finish-bytes (First k) = (omega arith, (omega arith, close-bytes k))
finish-bytes (Inside k) = (omega arith, (omega arith, close-bytes k))
finish-bytes (FirstEsc k) = (omega arith, (omega arith, (omega arith, close-bytes k)))
finish-bytes (InsideEsc k) = (omega arith, (omega arith, (omega arith, close-bytes k)))
finish-bytes (Null k) = (omega arith, (omega arith, close-bytes k))
finish-bytes (Ret k) = (omega arith, close-bytes k)

-- where a run that ends in a fault came to: m bytes were read, into t
record Came (s : State) (d : List ℕ) (i j : ℕ) : Type 0 where
  m : ℕ
  place : j ≡ i + m
  inside : m ≤ length d
  t : State
  reached : (e : List ℕ) → run s (take m d ++ e) i ≡ run t e j
  stuck : (e : List ℕ) → m < length d → run s (take (suc m) d ++ e) i ≡ Err j

came : (d : List ℕ) (s : State) (i j : ℕ) → run s d i ≡ Err j → Came s d i j
unfolding run
came [] s i j h = go (accepting s) h
  where
    go : (a : Bool) → on {A = Result ⊤ ℕ} a (Ok tt) (Err i) ≡ Err j → Came s [] i j
    go true e = let z : ◌≡◌ {A = ℕ} 0 1 = cc in absurd (omega arith)
    go false e =
        let q : i ≡ j = cc in
        record { m = 0; place = omega arith; inside = omega arith; t = s; reached = λ x. ap (λ (n : ℕ). run s x n) q; stuck = λ x w. absurd (omega arith) }
came (b ∷ d) s i j h = go (step s b) refl h (λ t. came d t (i + 1) j)
  where
    go : (n : Option State) → step s b ≡ n → follow n (λ t. run t d (i + 1)) (Err i) ≡ Err j → ((t : State) → run t d (i + 1) ≡ Err j → Came t d (i + 1) j) → Came s (b ∷ d) i j
    go None e g ih =
        let q : i ≡ j = cc in
        record { m = 0; place = omega arith; inside = omega arith; t = s; reached = λ x. ap (λ (n : ℕ). run s x n) q; stuck = λ x w. rw e g }
    go (Some u) e g ih =
        let c : Came u d (i + 1) j = ih u g in
        let p = c.place in
        let w = c.inside in
        record { m = suc c.m; place = omega arith; inside = omega arith; t = c.t; reached = λ x. rw e (c.reached x); stuck = λ x y. rw e (c.stuck x (omega arith)) }

at-start : (d : List ℕ) (j : ℕ) → fault d ≡ Err j → (c : Came (Open Nothing) d 0 j) × (c.m ≡ j)
unfolding fault
at-start d j h = let c : Came (Open Nothing) d 0 j = came d (Open Nothing) 0 j h in let p = c.place in (c, omega arith)

pub within : (d : List ℕ) (j : ℕ) → fault d ≡ Err j → j ≤ length d
within d j h = let (c, q) = at-start d j h in let w = c.inside in omega arith

pub viable : (d : List ℕ) (j : ℕ) → fault d ≡ Err j → (e : List ℕ) × Bytes e × WellFormed (take j d ++ e)
unfolding fault
viable d j h =
    let (c, q) = at-start d j h in
    (finish c.t, finish-bytes c.t, formed _ (ap (λ (n : ℕ). run (Open Nothing) (take n d ++ finish c.t) 0) (sym q) ∙ c.reached (finish c.t) ∙ finish-fine c.t j))

pub dead : (d : List ℕ) (j : ℕ) → fault d ≡ Err j → j < length d → (e : List ℕ) → WellFormed (take (suc j) d ++ e) → ⊥
unfolding fault
dead d j h w e f =
    let (c, q) = at-start d j h in
    let s : run (Open Nothing) (take (suc c.m) d ++ e) 0 ≡ Err j = c.stuck e (omega arith) in
    let g : run (Open Nothing) (take (suc j) d ++ e) 0 ≡ Err j = rw q at s in
    let o : run (Open Nothing) (take (suc j) d ++ e) 0 ≡ Ok tt = fine f in
    let z : ◌≡◌ {A = ℕ} 0 1 = cc in omega arith

pub early : (d : List ℕ) (j : ℕ) → fault d ≡ Err j → WellFormed d → ⊥
early d j h f = let o = fine f in let z : ◌≡◌ {A = ℕ} 0 1 = cc in omega arith
