-- The claims of `specs/Claims.antt` hold. Assumes nothing.
use Rattle.lists.specs.Claims.{All, SameIsEqual}
use Rattle.lists.proofs.TextLaws.{same_refl, same-equal}
use Rattle.lists.proofs.OverLaws.{length_over}
use Rattle.lists.proofs.ReadLaws.{part_left, part_right, part-written}
use Rattle.lists.proofs.StoreLaws.{store_same, rows_of-store, length-store, store-behind, store-freed}
use Rattle.lists.proofs.BigEndianLaws.{length-spelled, bytes-spelled, number_spelled, spelled-number, number-below, number_same, precedes-number}

same-is-equal : SameIsEqual
same-is-equal a b = (same-equal a b, λ e. rw e (same_refl b))

pub claims : All
claims = (
  same-is-equal,
  part-written,
  λ at vs d. (length_over at vs d, λ p n. part_left p n at vs d, λ p n. part_right p n at vs d),
  λ w v. (length-spelled w v, bytes-spelled w v),
  number_spelled,
  λ l h. (spelled-number l h, number-below l h),
  precedes-number,
  λ l m e h k. number_same l m e h k,
  rows_of-store,
  store_same,
  store-freed,
  λ w n rs t. (length-store w n rs t, store-behind w n rs t),
)
