-- The claims of `specs/Claims.antt`. Assumes nothing.
use Rattle.turbo_labels.specs.Claims.{All}
use Rattle.turbo_labels.proofs.PlaceLaws.{place-most, place-there, place-before, place-missing, second-find, each-place}
use Rattle.turbo_labels.proofs.LookupLaws.{lookup-by-name}

pub claims : All
claims = (
  λ w fs h. (place-there w fs h, place-before w fs),
  λ w fs. (place-most w fs, place-missing w fs),
  second-find,
  each-place,
  lookup-by-name,
)
