-- What it means that a function's promise determines its outcome. Assumes nothing.
use mathlib.Core.Path.{◌≡◌}
use mathlib.Core.List.{List}
use Prim.Native.Nat.{ℕ}
use borrow.Fn.Kinds.{ParamKind, ResultKind, Dens, Out, res_t, ended_of}
use contract.Lifetimes.{Lfts}
use denote.Triple.Clauses.{AtExit}

-- of any two outcomes that a promise allows for the same arguments, the same is seen; `seen` says what of an outcome's answer x and parameters s at exit
abbrev pub Determined : {X : Type 0} (n : ℕ) (ps : List (ParamKind n)) (r : ResultKind n) → Out n ps r → ((κs : Lfts n) → (res_t r κs).Denot → AtExit (ended_of n ps r) κs → X) → Type 0
Determined n ps r Post seen =
    (κs : Lfts n) (a : Dens κs ps) (x y : (res_t r κs).Denot) (s t : AtExit (ended_of n ps r) κs) →
    Post κs a x s →
    Post κs a y t →
    seen κs x s ≡ seen κs y t

-- of any two answers that a promise allows for the same arguments, whatever stands behind them at exit, both are the same
abbrev pub OneResult : (n : ℕ) (ps : List (ParamKind n)) (r : ResultKind n) → Out n ps r → Type 0
OneResult n ps r Post =
    (κs : Lfts n) (a : Dens κs ps) (x y : (res_t r κs).Denot) (s t : AtExit (ended_of n ps r) κs) →
    Post κs a x s →
    Post κs a y t →
    x ≡ y
