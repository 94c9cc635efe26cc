-- Laws of `store`: rows are read back, the rest is kept, and one store after another is one. Assumes nothing.
use mathlib.Core.Path.{◌≡◌, sym, ap, ◌∙◌}
use mathlib.Core.List.{List, ◌++◌, append_assoc, append-nil}
use Prim.Native.Nat.{ℕ, ◌+◌, ◌*◌, ◌-◌, ◌≤◌}
use native.Mathlib.Nat.{zero-add, zero-mul, add-mul, mul-le-mul_right}
use native.Mathlib.Omega.{arith}
use lib.ListN.{length, drop, replicate, length-append, length-drop, length-replicate, replicate-append-replicate}
use lib.Seq.{take_at, drop_at}
use Rattle.lists.specs.Part.{part, onto, over}
use Rattle.lists.specs.Rows.{rows_of, flat, store, Wide}
use Rattle.lists.proofs.OverLaws.{length-onto, onto-fits, onto-split, onto-longer, onto-front, over-self}
use Rattle.lists.proofs.ReadLaws.{drop-behind}
use Rattle.lists.proofs.RowLaws.{length-rows_of, flat-rows_of}
use Rattle.lists.proofs.WideLaws.{length-flat, rows_of-flat}

-- the rows that are there, stored again
pub store_same : (w n : ℕ) (t : List ℕ) → store w n (rows_of w n t) t ≡ t
unfolding store over part
store_same w n t =
    let z : n - length (rows_of w n t) ≡ 0 = rw length-rows_of (omega arith) in
    rw (z, zero-mul, append-nil, flat-rows_of) (over-self 0 (n * w) t)

-- the rows that were stored are read back
pub rows_of-store : (w n : ℕ) (rs : List (List ℕ)) (t : List ℕ) → Wide w rs → length rs * w ≤ length t → rows_of w (length rs) (store w n rs t) ≡ rs
unfolding store
rows_of-store w n rs t h f =
    let k : length (flat rs) ≤ length t = rw (length-flat w rs h) f in
    rw (onto-split (flat rs) (replicate ((n - length rs) * w) 0) t k) (rows_of-flat w rs _ h)

pub length-store : (w n : ℕ) (rs : List (List ℕ)) (t : List ℕ) → length (store w n rs t) ≡ length t
unfolding store
length-store w n rs t = length-onto (flat rs ++ replicate ((n - length rs) * w) 0) t

module _ (w n : ℕ) (rs : List (List ℕ)) (t : List ℕ) (h : Wide w rs) where
  -- the bytes behind the m rows that were written or cleared keep their contents
  pub store-behind : (m : ℕ) → n ≤ m → length rs ≤ m → drop (m * w) (store w n rs t) ≡ drop (m * w) t
  unfolding store over
  store-behind m a b =
      let k : length rs + (n - length rs) ≤ m = omega arith in
      drop-behind (m * w) 0 (flat rs ++ replicate ((n - length rs) * w) 0) t
      (rw (zero-add, length-append, length-flat w rs h, length-replicate, ← (add-mul (length rs) (n - length rs) w)) (mul-le-mul_right w k))

  -- the rows that are gone are zero
  pub store-freed : length rs ≤ n → n * w ≤ length t → part (length rs * w) ((n - length rs) * w) (store w n rs t) ≡ replicate ((n - length rs) * w) 0
  unfolding store part
  store-freed a b =
      let l : length (flat rs) ≡ length rs * w = length-flat w rs h in
      let k = (n - length rs) * w in
      let e : length rs + (n - length rs) ≡ n = omega arith in
      let f : length rs * w + k ≡ n * w = sym (add-mul (length rs) (n - length rs) w) ∙ ap (λ (m : ℕ). m * w) e in
      let zeros = replicate {A = ℕ} k 0 in
      let d = drop (length (flat rs)) t in
      let g : length zeros ≤ length d = rw (length-replicate, length-drop) (omega arith) in
      let o : onto (flat rs ++ zeros) t ≡ flat rs ++ (zeros ++ drop (length zeros) d) =
      onto-split (flat rs) zeros t (omega arith) ∙ ap (λ (r : List ℕ). flat rs ++ r) (onto-fits zeros d g) in
      rw (o, drop_at (flat rs) (zeros ++ drop (length zeros) d) (length rs * w) l) (take_at zeros (drop (length zeros) d) k (length-replicate k 0))

module _ (w n : ℕ) (rs qs : List (List ℕ)) (t : List ℕ) (hr : Wide w rs) (hq : Wide w qs) where
  -- where rows only come
  pub store-grows : n ≤ length rs → length rs ≤ length qs → store w (length rs) qs (store w n rs t) ≡ store w n qs t
  unfolding store
  store-grows a b =
      let x : n - length rs ≡ 0 = omega arith in
      let y : length rs - length qs ≡ 0 = omega arith in
      let z : n - length qs ≡ 0 = omega arith in
      let l : length (flat rs) ≤ length (flat qs) = rw (length-flat w rs hr, length-flat w qs hq) (mul-le-mul_right w b) in
      rw (x, y, z, zero-mul, append-nil (flat rs), append-nil (flat qs)) (onto-longer (flat rs) (flat qs) t l)

  -- where rows only leave
  pub store-shrinks : length qs ≤ length rs → length rs ≤ n → store w (length rs) qs (store w n rs t) ≡ store w n qs t
  unfolding store
  store-shrinks a b =
      let p = (length rs - length qs) * w in
      let q = (n - length rs) * w in
      let m : p + q ≡ (n - length qs) * w =
      let e : (length rs - length qs) + (n - length rs) ≡ n - length qs = omega arith in
      sym (add-mul (length rs - length qs) (n - length rs) w) ∙ ap (λ (k : ℕ). k * w) e in
      let l : length (flat rs) ≡ length (flat qs ++ replicate p 0) =
      let e : length qs + (length rs - length qs) ≡ length rs = omega arith in
      length-flat w rs hr
      ∙ sym
      (length-append (flat qs) (replicate p 0)
      ∙ rw (length-flat w qs hq, length-replicate) (sym (add-mul (length qs) (length rs - length qs) w) ∙ ap (λ (k : ℕ). k * w) e)) in
      onto-front (flat rs) (flat qs ++ replicate p 0) (replicate q 0) t l
      ∙ ap
      (λ (k : List ℕ). onto k t)
      (append_assoc (flat qs) (replicate p 0) (replicate q 0)
      ∙ ap (λ (k : List ℕ). flat qs ++ k) (replicate-append-replicate {A = ℕ} p q 0 ∙ ap (λ (k : ℕ). replicate k 0) m))
