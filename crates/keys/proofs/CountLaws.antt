-- How many rows there are after `put` and `remove`, and what each of them has. Assumes nothing.
use mathlib.Core.Path.{◌≡◌, sym, ap, ◌∙◌}
use mathlib.Core.Logic.{inl, inr}
use mathlib.Core.List.{List, [], ◌∷◌}
use Prim.Native.Nat.{ℕ, suc, ◌≤◌}
use native.Mathlib.Omega.{arith}
use lib.ListN.{length}
use Rattle.lists.specs.Each.{Each}
use Rattle.lists.specs.Rows.{Wide}
use Rattle.std.specs.declared.cmp.Ordering.{Ordering}
use Rattle.std.specs.declared.cmp.Ordering.TheVariants.{Less, Equal, Greater}
use Rattle.passage.specs.Layout.{key_of}
use Rattle.keys.specs.Keys.{cmp, by_order}
use Rattle.keys.specs.Sorted.{put, remove, get}
use Rattle.keys.proofs.KeyLaws.{cmp-same, Cases, cases}
use Rattle.keys.proofs.PutLaws.{put-none, put-less, put_same, put-more, remove-none, remove-less, remove-same, remove-more, get_none, get-less, get-same, get-more}
use Rattle.keys.proofs.EqualLaws.{Filled, filled-not}

-- ---- the rows of a key that is missing, and of one that is there

-- a row whose key is missing is one more
pub length-put-new : (r : List ℕ) (rs : List (List ℕ)) → Filled rs → get (key_of r) rs ≡ [] → length (put r rs) ≡ suc (length rs)
length-put-new r [] f g = rw put-none
length-put-new r (s ∷ rs) f g = go (length-put-new r rs f.1) (cases (cmp (key_of s) (key_of r)))
  where
    go : (get (key_of r) rs ≡ [] → length (put r rs) ≡ suc (length rs)) → Cases (cmp (key_of s) (key_of r)) → length (put r (s ∷ rs)) ≡ suc (length (s ∷ rs))
    go ih (inl e) = rw (put-less r s rs e) (ap suc (ih (sym (get-less (key_of r) s rs e) ∙ g)))
    go ih (inr (inl e)) = filled-not s f.0 (sym (get-same (key_of r) s rs e) ∙ g)
    go ih (inr (inr e)) = rw (put-more r s rs e)

-- a row whose key is there takes the other's place
pub length-put-held : (r : List ℕ) (rs : List (List ℕ)) → (get (key_of r) rs ≡ [] → ⊥) → length (put r rs) ≡ length rs
length-put-held r [] g = absurd (g (get_none (key_of r)))
length-put-held r (s ∷ rs) g = go (length-put-held r rs) (cases (cmp (key_of s) (key_of r)))
  where
    go : ((get (key_of r) rs ≡ [] → ⊥) → length (put r rs) ≡ length rs) → Cases (cmp (key_of s) (key_of r)) → length (put r (s ∷ rs)) ≡ length (s ∷ rs)
    go ih (inl e) = rw (put-less r s rs e) (ap suc (ih (λ n. g (get-less (key_of r) s rs e ∙ n))))
    go ih (inr (inl e)) = rw (put_same r s rs e)
    go ih (inr (inr e)) = absurd (g (get-more (key_of r) s rs e))

-- where a key is missing, its removal changes nothing
pub remove-missing : (k : List ℕ) (rs : List (List ℕ)) → Filled rs → get k rs ≡ [] → remove k rs ≡ rs
remove-missing k [] f g = remove-none k
remove-missing k (s ∷ rs) f g = go (remove-missing k rs f.1) (cases (cmp (key_of s) k))
  where
    go : (get k rs ≡ [] → remove k rs ≡ rs) → Cases (cmp (key_of s) k) → remove k (s ∷ rs) ≡ s ∷ rs
    go ih (inl e) = rw (remove-less k s rs e) (ap (λ (l : List (List ℕ)). s ∷ l) (ih (sym (get-less k s rs e) ∙ g)))
    go ih (inr (inl e)) = filled-not s f.0 (sym (get-same k s rs e) ∙ g)
    go ih (inr (inr e)) = remove-more k s rs e

-- where it is there, one row less
pub length-remove-held : (k : List ℕ) (rs : List (List ℕ)) → (get k rs ≡ [] → ⊥) → suc (length (remove k rs)) ≡ length rs
length-remove-held k [] g = absurd (g (get_none k))
length-remove-held k (s ∷ rs) g = go (length-remove-held k rs) (cases (cmp (key_of s) k))
  where
    go : ((get k rs ≡ [] → ⊥) → suc (length (remove k rs)) ≡ length rs) → Cases (cmp (key_of s) k) → suc (length (remove k (s ∷ rs))) ≡ length (s ∷ rs)
    go ih (inl e) = rw (remove-less k s rs e) (ap suc (ih (λ n. g (get-less k s rs e ∙ n))))
    go ih (inr (inl e)) = rw (remove-same k s rs e)
    go ih (inr (inr e)) = absurd (g (get-more k s rs e))

-- ---- in either case

-- n is at most as long as the list, and at most one shorter
abbrev Grown : ℕ → List (List ℕ) → Type 0
Grown n l = (n ≤ length l) × (length l ≤ suc n)

grown-order : (o : Ordering) (a b c : List (List ℕ)) (n : ℕ) → Grown n a → Grown n b → Grown n c → Grown n (by_order o a b c)
grown-order Less a b c n x y z = x
grown-order Equal a b c n x y z = y
grown-order Greater a b c n x y z = z

put-grown : (r : List ℕ) (rs : List (List ℕ)) → Grown (length rs) (put r rs)
unfolding put
put-grown r [] = omega arith
put-grown r (s ∷ rs) =
    let ih = put-grown r rs in
    grown-order (cmp (key_of s) (key_of r)) (s ∷ put r rs) (r ∷ rs) (r ∷ s ∷ rs) (suc (length rs)) (omega arith) (omega arith) (omega arith)

module _ (r : List ℕ) (rs : List (List ℕ)) where
  pub put-least : length rs ≤ length (put r rs)
  put-least = (put-grown r rs).0

  pub put-most : length (put r rs) ≤ suc (length rs)
  put-most = (put-grown r rs).1

-- l is at most as long as n, and at most one shorter
abbrev Shrunk : ℕ → List (List ℕ) → Type 0
Shrunk n l = (length l ≤ n) × (n ≤ suc (length l))

shrunk-order : (o : Ordering) (a b c : List (List ℕ)) (n : ℕ) → Shrunk n a → Shrunk n b → Shrunk n c → Shrunk n (by_order o a b c)
shrunk-order Less a b c n x y z = x
shrunk-order Equal a b c n x y z = y
shrunk-order Greater a b c n x y z = z

remove-shrunk : (k : List ℕ) (rs : List (List ℕ)) → Shrunk (length rs) (remove k rs)
unfolding remove
remove-shrunk k [] = omega arith
remove-shrunk k (s ∷ rs) =
    let ih = remove-shrunk k rs in
    shrunk-order (cmp (key_of s) k) (s ∷ remove k rs) rs (s ∷ rs) (suc (length rs)) (omega arith) (omega arith) (omega arith)

module _ (k : List ℕ) (rs : List (List ℕ)) where
  pub remove-most : length (remove k rs) ≤ length rs
  remove-most = (remove-shrunk k rs).0

  pub remove-least : length rs ≤ suc (length (remove k rs))
  remove-least = (remove-shrunk k rs).1

-- ---- what each row has

module _ (P : List ℕ → Type 0) where
  each-order : (o : Ordering) (a b c : List (List ℕ)) → Each P a → Each P b → Each P c → Each P (by_order o a b c)
  each-order Less a b c x y z = x
  each-order Equal a b c x y z = y
  each-order Greater a b c x y z = z

  pub each-put : (r : List ℕ) (rs : List (List ℕ)) → P r → Each P rs → Each P (put r rs)
  unfolding put
  each-put r [] l h = (l, tt)
  each-put r (s ∷ rs) l h = each-order (cmp (key_of s) (key_of r)) (s ∷ put r rs) (r ∷ rs) (r ∷ s ∷ rs) (h.0, each-put r rs l h.1) (l, h.1) (l, h)

  pub each-remove : (k : List ℕ) (rs : List (List ℕ)) → Each P rs → Each P (remove k rs)
  unfolding remove
  each-remove k [] h = tt
  each-remove k (s ∷ rs) h = each-order (cmp (key_of s) k) (s ∷ remove k rs) rs (s ∷ rs) (h.0, each-remove k rs h.1) h.1 h

  -- a row that is got has it too
  pub each-get : (k : List ℕ) (rs : List (List ℕ)) → Each P rs → (get k rs ≡ [] → ⊥) → P (get k rs)
  each-get k [] h n = absurd (n (get_none k))
  each-get k (s ∷ rs) h n = go (each-get k rs h.1) (cases (cmp (key_of s) k))
    where
      go : ((get k rs ≡ [] → ⊥) → P (get k rs)) → Cases (cmp (key_of s) k) → P (get k (s ∷ rs))
      go ih (inl e) = rw (get-less k s rs e) (ih (λ m. n (get-less k s rs e ∙ m)))
      go ih (inr (inl e)) = rw (get-same k s rs e) h.0
      go ih (inr (inr e)) = absurd (n (get-more k s rs e))

pub wide-put : (w : ℕ) (r : List ℕ) (rs : List (List ℕ)) → length r ≡ w → Wide w rs → Wide w (put r rs)
wide-put w r rs = each-put (λ (x : List ℕ). length x ≡ w) r rs

pub wide-remove : (w : ℕ) (k : List ℕ) (rs : List (List ℕ)) → Wide w rs → Wide w (remove k rs)
wide-remove w k rs = each-remove (λ (x : List ℕ). length x ≡ w) k rs

-- a row that is got has the key
pub get_key : (k : List ℕ) (rs : List (List ℕ)) → (get k rs ≡ [] → ⊥) → key_of (get k rs) ≡ k
get_key k [] n = absurd (n (get_none k))
get_key k (s ∷ rs) n = go (get_key k rs) (cases (cmp (key_of s) k))
  where
    go : ((get k rs ≡ [] → ⊥) → key_of (get k rs) ≡ k) → Cases (cmp (key_of s) k) → key_of (get k (s ∷ rs)) ≡ k
    go ih (inl e) = rw (get-less k s rs e) (ih (λ m. n (get-less k s rs e ∙ m)))
    go ih (inr (inl e)) = rw (get-same k s rs e) (cmp-same (key_of s) k e)
    go ih (inr (inr e)) = absurd (n (get-more k s rs e))
