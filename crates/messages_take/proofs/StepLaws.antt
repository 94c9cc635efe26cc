-- One update taken into rows of bytes: the row found is changed in its place, or a new one is put in. Assumes nothing.
use mathlib.Core.Path.{◌≡◌, refl, sym, ap, ◌∙◌}
use mathlib.Core.List.{List, [], ◌∷◌, append-nil}
use mathlib.Core.Logic.{inl, inr}
use Prim.Native.Nat.{ℕ, ◌+◌, ◌*◌, ◌≤◌, ◌<◌}
use native.Mathlib.Nat.{add-zero, not-suc-le-zero}
use native.Mathlib.Omega.{arith}
use lib.ListN.{length, set, length-set, drop_of_length-le}
use Rattle.lists.specs.Part.{part, over}
use Rattle.lists.specs.Rows.{rows_of, insert_at, store}
use Rattle.lists.proofs.PartLaws.{part-part, part-all, length_part}
use Rattle.lists.proofs.OverLaws.{onto-fits}
use Rattle.lists.proofs.RowLaws.{length-rows_of, row-at}
use Rattle.lists.proofs.RowWriteLaws.{store-replace, length-insert_at}
use Rattle.passage.specs.Layout.{key_wide, body_wide, row_wide, key_of}
use Rattle.std.specs.Prelude.{Result, Ok, Err}
use Rattle.keys.specs.Sorted.{lookup, get, put}
use Rattle.keys.specs.Replay.{taken}
use Rattle.keys.proofs.PutLaws.{put_by, put-at, get_at, found_below, missing-within}
use Rattle.keys.proofs.ReplayLaws.{get-own}
use Rattle.update.specs.Rule.{apply_row, beginning, begun, row_rule}
use Rattle.messages_take.proofs.TakenLaws.{keeps, whole}

-- ---- a row of its own

-- a write over all of a list
over-all : (vs d : List ℕ) → length vs ≡ length d → over 0 vs d ≡ vs
unfolding over
over-all vs d e =
    let h : length vs ≤ length d = omega arith in
    let k : length d ≤ length vs = omega arith in
    onto-fits vs d h ∙ rw (drop_of_length-le d k) (append-nil vs)

length-beginning : length beginning ≡ row_wide
unfolding beginning
length-beginning = refl

-- begun and applied in a row of its own, and put in at place i
pub new-insert :
    (t t' s z b r : List ℕ) (n i at : ℕ)
    → at + body_wide ≤ length s
    → length z ≡ row_wide
    → b ≡ over 0 beginning z
    → r ≡ over 0 (apply_row (part 0 row_wide b) (part at body_wide s)) b
    → t' ≡ store row_wide n (insert_at i r (rows_of row_wide n t)) t
    → t' ≡ store row_wide n (insert_at i (row_rule [] (part at body_wide s)) (rows_of row_wide n t)) t
unfolding row_rule
new-insert t t' s z b r n i at body l e f g =
    let u = part at body_wide s in
    let p : part 0 row_wide beginning ≡ beginning = rw length-beginning at (part-all beginning) in
    let q : b ≡ beginning = e ∙ over-all beginning z (length-beginning ∙ sym l) in
    let k : over 0 (apply_row beginning u) beginning ≡ row_rule [] u =
    over-all (row_rule [] u) beginning (whole [] u (length_part at body_wide s body) (inl refl) ∙ sym length-beginning) in
    let h : r ≡ row_rule [] u = f ∙ rw (q, p) k in
    g ∙ ap (λ (v : List ℕ). store row_wide n (insert_at i v (rows_of row_wide n t)) t) h

-- ---- the row of the update's key

-- what is held is what is begun with
begun-held : (h : List ℕ) → 0 < length h → begun h ≡ h
begun-held [] l = absurd (not-suc-le-zero l)
begun-held (b ∷ r) l = refl

module _ (t s : List ℕ) (n at i : ℕ) (fits : n * row_wide ≤ length t) (body : at + body_wide ≤ length s) where
  abbrev rs : List (List ℕ)
  rs = rows_of row_wide n t

  abbrev u : List ℕ
  u = part at body_wide s

  wide : length u ≡ body_wide
  wide = length_part at body_wide s body

  -- the key of the body is where the code looks for it
  key-there : part at key_wide s ≡ key_of u
  key-there = sym (part-part 0 key_wide at body_wide s (omega arith) ∙ ap (λ (m : ℕ). part m key_wide s) (add-zero at))

  taken-by : (f : Result ℕ ℕ) → lookup (part at key_wide s) rs ≡ f → taken row_rule u rs ≡ put_by f (row_rule (get (key_of u) rs) u) rs
  unfolding taken
  taken-by f e =
      let k : key_of (row_rule (get (key_of u) rs) u) ≡ part at key_wide s = keeps (get (key_of u) rs) u wide (get-own (key_of u) rs) ∙ sym key-there in
      put-at (row_rule (get (key_of u) rs) u) rs f (rw k e)

  module _ (e : lookup (part at key_wide s) rs ≡ Ok i) where
    pub held_below : i < n
    held_below = found_below row_wide n i (part at key_wide s) t e

    pub held-is : get (key_of u) rs ≡ part (i * row_wide) row_wide t
    held-is = get_at (key_of u) rs (Ok i) (rw (← key-there) e) ∙ row-at row_wide n i t held_below

    pub held_whole : length (part (i * row_wide) row_wide t) ≡ row_wide
    held_whole = let h = held_below in length_part (i * row_wide) row_wide t (omega arith)

    rule-is : row_rule (get (key_of u) rs) u ≡ apply_row (part (i * row_wide) row_wide t) u
    unfolding row_rule
    rule-is =
        let l = held_whole in
        rw held-is (ap (λ (r : List ℕ). apply_row r u) (begun-held (part (i * row_wide) row_wide t) (omega arith)))

    taken-held : taken row_rule u rs ≡ set rs i (apply_row (part (i * row_wide) row_wide t) u)
    taken-held = taken-by (Ok i) e ∙ ap (λ (r : List ℕ). set rs i r) rule-is

    pub held-count : n ≡ length (taken row_rule u rs)
    held-count = sym (rw (taken-held, length-set) (length-rows_of row_wide n t))

    pub held-store : (t' : List ℕ) → t' ≡ over (i * row_wide) (apply_row (part (i * row_wide) row_wide t) u) t → t' ≡ store row_wide n (taken row_rule u rs) t
    held-store t' f =
        let r = apply_row (part (i * row_wide) row_wide t) u in
        let l : length r ≡ row_wide = ap length (sym rule-is) ∙ whole (get (key_of u) rs) u wide (inr (ap length held-is ∙ held_whole)) in
        f ∙ store-replace row_wide n i t fits r l held_below ∙ ap (λ (qs : List (List ℕ)). store row_wide n qs t) (sym taken-held)

  module _ (e : lookup (part at key_wide s) rs ≡ Err i) where
    pub new-within : i ≤ n
    new-within = missing-within row_wide n i (part at key_wide s) t e

    pub new_none : get (key_of u) rs ≡ []
    new_none = get_at (key_of u) rs (Err i) (rw (← key-there) e)

    taken-new : taken row_rule u rs ≡ insert_at i (row_rule [] u) rs
    taken-new = taken-by (Err i) e ∙ ap (λ (h : List ℕ). insert_at i (row_rule h u) rs) new_none

    pub new-count : n + 1 ≡ length (taken row_rule u rs)
    new-count = sym (rw taken-new (length-insert_at row_wide n i t fits (row_rule [] u) new-within))

    pub new-store : (t' : List ℕ) → t' ≡ store row_wide n (insert_at i (row_rule [] u) rs) t → t' ≡ store row_wide n (taken row_rule u rs) t
    new-store t' f = f ∙ ap (λ (qs : List (List ℕ)). store row_wide n qs t) (sym taken-new)
