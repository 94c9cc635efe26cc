-- The claims of `specs/Claims.antt` hold. Assumes nothing.
use mathlib.Core.Path.{◌≡◌, refl, sym, ◌∙◌}
use mathlib.Core.Bool.{true}
use mathlib.Core.List.{List, []}
use Prim.Native.Nat.{ℕ, ◌+◌, ◌<◌, ◌-◌}
use native.Mathlib.Nat.{le_trans}
use native.Mathlib.Omega.{arith}
use lib.ListN.{length, get_or}
use Rattle.lists.proofs.EachLaws.{each_at, each_all}
use Rattle.lists.proofs.RowLaws.{length-rows_of, row-at}
use Rattle.lists.proofs.WideLaws.{wide-rows_of}
use Rattle.lists.proofs.StoreLaws.{length-store, store-behind, store-freed}
use Rattle.passage.specs.Layout.{row_wide, key_of}
use Rattle.passage.specs.Ranges.{row_in_range}
use Rattle.passage.proofs.RangeLaws.{row-facts, facts-row}
use Rattle.std.specs.Prelude.{Ok, Err}
use Rattle.keys.specs.Sorted.{sorted_rows, lookup, put, remove}
use Rattle.keys.proofs.SortedLaws.{sorted-pair, pairs-sorted}
use Rattle.keys.proofs.KeyLaws.{cmp-refl, cmp-same}
use Rattle.keys.proofs.FindLaws.{seek-start, seek-here}
use Rattle.keys.proofs.PutLaws.{lookup-within, found-key, get_at, get-put, get-put-other, sorted-put, get-remove, get_remove_other, sorted-remove}
use Rattle.keys.proofs.EqualLaws.{rows-equal}
use Rattle.keys.proofs.CountLaws.{put-least, remove-most, length-remove-held, wide-put, wide-remove}
use Rattle.table.specs.Rules.{rows, table_sound}
use Rattle.table.specs.Claims.{Orderly, SoundMeansOrderly, RoomExactly, FindExactly, EachRowIsGot, PutChangesOnlyItsKey, RemoveTakesOnlyItsKey, FreedIsZero, RestKept, All}
use Rattle.table.proofs.SoundLaws.{range-each, each-range, room_most, room-least, room-holds, sound-is, sound-most, sound-fits, sound-range, sound-sorted}

-- ---- soundness

module _ (n : ℕ) (t : List ℕ) where
  in_rows : (i : ℕ) → i < n → i < length (rows n t)
  in_rows i h = rw (length-rows_of row_wide n t) h

  sound-orderly : table_sound n t ≡ true → Orderly n t
  sound-orderly e = (
    sound-most n t e,
    sound-fits n t e,
    λ i h.
        row-facts _
        (rw (row-at row_wide n i t h) at (each_at (λ (r : List ℕ). row_in_range r ≡ true) (rows n t) i [] (range-each (rows n t) (sound-range n t e)) (in_rows i h))),
    λ i h.
        let k : i < n = omega arith in
        rw (row-at row_wide n i t k, row-at row_wide n (i + 1) t h) at (sorted-pair (rows n t) i (sound-sorted n t e) (in_rows (i + 1) h)),
  )

  orderly-sound : Orderly n t → table_sound n t ≡ true
  orderly-sound o =
      sound-is n t (room-least n t o.0 o.1)
      (each-range (rows n t) (each_all (λ (r : List ℕ). row_in_range r ≡ true) (rows n t) [] (λ i h.
      let k : i < n = rw (length-rows_of row_wide n t) at h in
      rw (row-at row_wide n i t k) (facts-row _ (o.2 i k)))))
      (pairs-sorted (rows n t) (λ i h.
      let k : i + 1 < n = rw (length-rows_of row_wide n t) at h in
      let l : i < n = omega arith in
      rw (row-at row_wide n i t l, row-at row_wide n (i + 1) t k) (o.3 i k)))

sound-means-orderly : SoundMeansOrderly
sound-means-orderly n t = (sound-orderly n t, orderly-sound n t)

room-exactly : RoomExactly
room-exactly n t = (λ h. (le_trans h (room_most t), room-holds n t h), λ h. room-least n t h.0 h.1)

-- ---- where a key stands

-- a row's key is found where the row stands
here : (k : List ℕ) (rs : List (List ℕ)) → sorted_rows rs ≡ true → (i : ℕ) → i < length rs → key_of (get_or rs i []) ≡ k → lookup k rs ≡ Ok i
here k rs h i l e = sym (seek-here rs k 0 i (length rs) (seek-start rs k h) (omega arith) l (rw e (cmp-refl k)))

find-exactly : FindExactly
find-exactly k rs h i = (
  λ e. (rw e at (lookup-within k rs), found-key k rs i e),
  here k rs h i,
  λ e j l f. let p : Ok j ≡ Err i = sym (here k rs h j l f) ∙ e in let z : ◌≡◌ {A = ℕ} 0 1 = cc in absurd (omega arith),
)

each-row-is-got : EachRowIsGot
each-row-is-got rs h i l = get_at (key_of (get_or rs i [])) rs (Ok i) (here (key_of (get_or rs i [])) rs h i l refl)

-- ---- rows put in and taken out

put-changes : PutChangesOnlyItsKey
put-changes r rs = (get-put r rs, λ k n. get-put-other k r rs (λ e. n (cmp-same (key_of r) k e)), sorted-put r rs)

remove-takes : RemoveTakesOnlyItsKey
remove-takes k rs h = (get-remove k rs h, λ j n. get_remove_other j k rs h (λ e. n (cmp-same k j e)), sorted-remove k rs h)

freed-is-zero : FreedIsZero
freed-is-zero n k t h g =
    let rs = rows n t in
    let w = wide-remove row_wide k rs (wide-rows_of row_wide n t h) in
    let l : length (remove k rs) ≡ n - 1 = omega (arith, length-remove-held k rs g, length-rows_of row_wide n t) in
    let m : n - (n - 1) ≡ 1 = omega (arith, length-remove-held k rs g, length-rows_of row_wide n t) in
    let z = store-freed row_wide n (remove k rs) t w (omega (arith, remove-most k rs, length-rows_of row_wide n t)) h in
    rw (l, m) at z

rest-kept : RestKept
rest-kept n t h =
    let rs = rows n t in
    let w = wide-rows_of row_wide n t h in (
      λ r l. (
        length-store row_wide n (put r rs) t,
        store-behind row_wide n (put r rs) t (wide-put row_wide r rs l w) (length (put r rs)) (omega (arith, put-least r rs, length-rows_of row_wide n t)) (omega arith),
      ),
      λ k. (
        length-store row_wide n (remove k rs) t,
        store-behind row_wide n (remove k rs) t (wide-remove row_wide k rs w) n (omega arith) (omega (arith, remove-most k rs, length-rows_of row_wide n t)),
      ),
    )

pub claims : All
claims = (sound-means-orderly, room-exactly, find-exactly, each-row-is-got, put-changes, remove-takes, rows-equal, freed-is-zero, rest-kept)
