-- A column's kind that is told: what write_cell cites of it. Assumes nothing.
use mathlib.Core.Path.{◌≡◌}
use mathlib.Core.List.{List}
use Prim.Native.Nat.{ℕ, ◌+◌, ◌≤◌}
use Rattle.columns.specs.declared.Kind.{Kind}
use Rattle.columns.specs.Cell.{width, cell}

pub wide-as : {k n : Kind} (at m : ℕ) → k ≡ n → at + width k ≤ m → at + width n ≤ m
wide-as at m e h = rw e at h

pub kind-as : {k n : Kind} (stop f : List ℕ) → k ≡ n → cell n stop f ≡ cell k stop f
kind-as stop f e = rw e
