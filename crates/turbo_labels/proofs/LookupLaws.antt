-- The field under a name: that of its column where the name is found, no bytes where it is missing. Assumes nothing.
use Prim.Native.Nat.{ℕ, ◌≤◌, ◌<◌}
use native.Mathlib.Omega.{arith}
use mathlib.Core.Path.{◌≡◌, sym, ap, ◌∙◌}
use mathlib.Core.List.{List, []}
use borrow.Author.Tests.{lt-ltb, le-ltb}
use lib.ListN.{length, get_or}
use Rattle.turbo.specs.Split.{field_at}
use Rattle.turbo_labels.specs.Columns.{column_of, field_under}
use Rattle.turbo_labels.specs.Claims.{Twice, LookupIsByName}
use Rattle.turbo_labels.proofs.PlaceLaws.{place-missing, place-once}

module _ (column columns : ℕ) (line : List ℕ) where
  pub under-found : column < columns → field_at column line ≡ field_under column columns line
  unfolding field_under
  under-found h = rw (lt-ltb column columns h)

  pub under-missing : columns ≤ column → [] ≡ field_under column columns line
  unfolding field_under
  under-missing h = rw (le-ltb column columns h)

pub lookup-by-name : LookupIsByName
lookup-by-name line w fs = (
  λ j h q n.
      let e = place-once w fs j h q n in
      sym (under-found (column_of w fs) (length fs) line (omega arith)) ∙ ap (λ (k : ℕ). field_at k line) e,
  λ none.
      let e = (place-missing w fs).1 none in
      sym (under-missing (column_of w fs) (length fs) line (omega arith)),
)
