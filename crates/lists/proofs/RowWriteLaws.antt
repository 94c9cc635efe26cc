-- The writes that put a row in, take one out and put one for another, as `store`. Assumes nothing.
use mathlib.Core.Path.{◌≡◌, sym, ap, ◌∙◌}
use mathlib.Core.List.{List, ◌++◌, append_assoc, append-nil}
use Prim.Native.Nat.{ℕ, suc, ◌+◌, ◌*◌, ◌-◌, ◌≤◌, ◌<◌}
use native.Mathlib.Nat.{suc-mul, zero-mul, one-mul, add-mul, mul-le-mul_right, le_trans}
use native.Mathlib.Omega.{arith}
use lib.ListN.{length, take, drop, set, replicate, length-append, length-set, length-take, length-drop}
use lib.Seq.{set_split}
use Rattle.lists.specs.Part.{part, onto, over}
use Rattle.lists.specs.Rows.{rows_of, flat, insert_at, remove_at, store}
use Rattle.lists.proofs.PartLaws.{length_part}
use Rattle.lists.proofs.OverLaws.{over-over, over-then, over-front, over-self}
use Rattle.lists.proofs.RowLaws.{length-rows_of, flat_append, flat-before, flat-from}

module _ (w n i : ℕ) (t : List ℕ) (fits : n * w ≤ length t) where
  in_rows : i ≤ n → i * w ≤ length t
  in_rows h = le_trans (mul-le-mul_right w h) fits

  pub length-insert_at : (r : List ℕ) → i ≤ n → length (insert_at i r (rows_of w n t)) ≡ n + 1
  length-insert_at r h = simp (length-append, length-take, length-drop, length-rows_of) (omega arith)

  pub length-remove_at : i < n → length (remove_at i (rows_of w n t)) ≡ n - 1
  length-remove_at h = simp (length-append, length-take, length-drop, length-rows_of) (omega arith)

  insert-flat : (r : List ℕ) → i ≤ n → flat (insert_at i r (rows_of w n t)) ≡ take (i * w) t ++ (r ++ part (i * w) ((n - i) * w) t)
  unfolding flat
  insert-flat r h = rw (flat_append, flat-before w n i t h, flat-from w n i t h)

  -- the rows behind i a row further on, then r at i
  pub store-insert : (r : List ℕ) → length r ≡ w → i ≤ n → over (i * w) r (over (i * w + w) (part (i * w) ((n - i) * w) t) t) ≡ store w n (insert_at i r (rows_of w n t)) t
  unfolding store
  store-insert r l h =
      let z : n - length (insert_at i r (rows_of w n t)) ≡ 0 = rw (length-insert_at r h) (omega arith) in
      rw (z, zero-mul, append-nil, insert-flat r h)
      (ap (λ (m : ℕ). over (i * w) r (over (i * w + m) (part (i * w) ((n - i) * w) t) t)) (sym l)
      ∙ over-over (i * w) r (part (i * w) ((n - i) * w) t) t ∙ over-front (i * w) (r ++ part (i * w) ((n - i) * w) t) t (in_rows h))

  -- what stands behind row i, by its bytes
  behind : i < n → i * w + w + (n - suc i) * w ≡ n * w
  behind h =
      let e : suc i + (n - suc i) ≡ n = omega arith in
      ap (λ (m : ℕ). m + (n - suc i) * w) (sym (suc-mul i w)) ∙ sym (add-mul (suc i) (n - suc i) w) ∙ ap (λ (m : ℕ). m * w) e

  length-behind : i < n → length (part (i * w + w) ((n - suc i) * w) t) ≡ (n - suc i) * w
  length-behind h = length_part (i * w + w) ((n - suc i) * w) t (rw (behind h) fits)

  flat-behind : i < n → flat (drop (suc i) (rows_of w n t)) ≡ part (i * w + w) ((n - suc i) * w) t
  flat-behind h = flat-from w n (suc i) t h ∙ ap (λ (m : ℕ). part m ((n - suc i) * w) t) (suc-mul i w)

  remove-flat : i < n → flat (remove_at i (rows_of w n t)) ≡ take (i * w) t ++ part (i * w + w) ((n - suc i) * w) t
  remove-flat h =
      let k : i ≤ n = omega arith in
      rw (flat_append, flat-before w n i t k, flat-behind h)

  -- the rows behind i a row back, then zeros
  pub store-remove : i < n → over (i * w + (n - suc i) * w) (replicate w 0) (over (i * w) (part (i * w + w) ((n - suc i) * w) t) t) ≡ store w n (remove_at i (rows_of w n t)) t
  unfolding store
  store-remove h =
      let z : n - length (remove_at i (rows_of w n t)) ≡ 1 = rw (length-remove_at h) (omega arith) in
      rw (z, one-mul, remove-flat h)
      (ap (λ (m : ℕ). over (i * w + m) (replicate w 0) (over (i * w) (part (i * w + w) ((n - suc i) * w) t) t)) (sym (length-behind h))
      ∙ over-then (i * w) (part (i * w + w) ((n - suc i) * w) t) (replicate w 0) t
      ∙ over-front (i * w) (part (i * w + w) ((n - suc i) * w) t ++ replicate w 0) t (in_rows (omega arith))
      ∙ ap (λ (l : List ℕ). onto l t) (sym (append_assoc (take (i * w) t) (part (i * w + w) ((n - suc i) * w) t) (replicate w 0))))

  replace-flat : (r : List ℕ) → i < n → flat (set (rows_of w n t) i r) ≡ take (i * w) t ++ (r ++ part (i * w + w) ((n - suc i) * w) t)
  unfolding flat
  replace-flat r h =
      let k : i ≤ n = omega arith in
      let j : i < length (rows_of w n t) = rw length-rows_of h in
      rw (set_split (rows_of w n t) i r j, flat_append, flat-before w n i t k, flat-behind h)

  pub store-replace : (r : List ℕ) → length r ≡ w → i < n → over (i * w) r t ≡ store w n (set (rows_of w n t) i r) t
  unfolding store
  store-replace r l h =
      let z : n - length (set (rows_of w n t) i r) ≡ 0 = rw (length-set, length-rows_of) (omega arith) in
      rw (z, zero-mul, append-nil, replace-flat r h)
      (ap (λ (d : List ℕ). over (i * w) r d) (sym (over-self (i * w + w) ((n - suc i) * w) t))
      ∙ ap (λ (m : ℕ). over (i * w) r (over (i * w + m) (part (i * w + w) ((n - suc i) * w) t) t)) (sym l)
      ∙ over-over (i * w) r (part (i * w + w) ((n - suc i) * w) t) t ∙ over-front (i * w) (r ++ part (i * w + w) ((n - suc i) * w) t) t (in_rows (omega arith)))
