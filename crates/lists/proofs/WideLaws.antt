-- Laws of rows that all have w bytes. Assumes nothing.
use mathlib.Core.Path.{◌≡◌, refl, sym, ap, ◌∙◌}
use mathlib.Core.List.{List, [], ◌∷◌, ◌++◌, append_assoc}
use Prim.Native.Nat.{ℕ, zero, suc, ◌+◌, ◌*◌, ◌≤◌}
use native.Mathlib.Nat.{suc-mul, zero-mul, add_comm}
use native.Mathlib.Omega.{arith}
use lib.ListN.{length, take, drop, set, length-append, length-take, length-drop}
use lib.Seq.{take_at, drop_at}
use Rattle.lists.specs.Rows.{rows_of, flat, insert_at, remove_at, Wide}
use Rattle.lists.proofs.EachLaws.{each_append, each_take, each-drop, each_set}

pub wide-rows_of : (w n : ℕ) (t : List ℕ) → n * w ≤ length t → Wide w (rows_of w n t)
unfolding rows_of
wide-rows_of w zero t h = tt
wide-rows_of w (suc n) t h =
    let k : n * w + w ≤ length t = rw suc-mul at h in
    (simp length-take (omega arith), wide-rows_of w n (drop w t) (simp length-drop (omega arith)))

module _ (w : ℕ) (rs : List (List ℕ)) (h : Wide w rs) (i : ℕ) where
  abbrev IsWide : List ℕ → Type 0
  IsWide r = length r ≡ w

  pub wide-insert_at : (r : List ℕ) → length r ≡ w → Wide w (insert_at i r rs)
  wide-insert_at r l = each_append IsWide (take i rs) (r ∷ drop i rs) (each_take IsWide i rs h) (l, each-drop IsWide i rs h)

  pub wide-remove_at : Wide w (remove_at i rs)
  wide-remove_at = each_append IsWide (take i rs) (drop (suc i) rs) (each_take IsWide i rs h) (each-drop IsWide (suc i) rs h)

  pub wide-set : (r : List ℕ) → length r ≡ w → Wide w (set rs i r)
  wide-set r l = each_set IsWide rs i r h l

pub length-flat : (w : ℕ) (rs : List (List ℕ)) → Wide w rs → length (flat rs) ≡ length rs * w
unfolding flat
length-flat w [] h = sym (zero-mul w)
length-flat w (r ∷ rs) h =
    length-append r (flat rs) ∙ ap (λ (n : ℕ). length r + n) (length-flat w rs h.1) ∙ rw (suc-mul, h.0) (add_comm w (length rs * w))

pub rows_of-flat : (w : ℕ) (rs : List (List ℕ)) (z : List ℕ) → Wide w rs → rows_of w (length rs) (flat rs ++ z) ≡ rs
unfolding flat rows_of
rows_of-flat w [] z h = refl
rows_of-flat w (r ∷ rs) z h =
    rw (append_assoc r (flat rs) z, take_at r (flat rs ++ z) w h.0, drop_at r (flat rs ++ z) w h.0)
    (ap (λ (l : List (List ℕ)). r ∷ l) (rows_of-flat w rs z h.1))
