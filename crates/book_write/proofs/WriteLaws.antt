-- Entries written into the book's free tail, and entries marked as withdrawn. Assumes nothing.
use mathlib.Core.Path.{◌≡◌, refl, sym, ap, ◌∙◌}
use mathlib.Core.List.{List, [], ◌∷◌, ◌++◌, map, append_assoc, append-nil}
use Prim.Native.Nat.{ℕ, suc, ◌+◌, ◌-◌, ◌*◌, ◌≤◌}
use native.Mathlib.Omega.{arith}
use lib.ListN.{length, take, drop, get_or, set, length-append, length-drop, length-set, length-map}
use lib.Seq.{drop-drop}
use Rattle.lists.specs.Part.{part, over}
use Rattle.lists.specs.Rows.{rows_of, flat, Wide}
use Rattle.lists.specs.BigEndian.{spelled}
use Rattle.lists.proofs.BigEndianLaws.{length-spelled}
use Rattle.lists.proofs.PartLaws.{part-is, part-cons}
use Rattle.lists.proofs.OverLaws.{over-nil, over-snoc, over-then, over-over, over-self, length_over}
use Rattle.lists.proofs.RowLaws.{flat_append, length-rows_of}
use Rattle.lists.proofs.WideLaws.{wide-rows_of, length-flat}
use Rattle.passage.specs.Layout.{body_wide}
use Rattle.book.specs.Entries.{kind_wide, plan_entry, number_offset, number_wide, sender_offset, body_at, entry_wide, entry_of, entries_of}
use Rattle.book.specs.Rules.{marked_withdrawn}
use Rattle.book.proofs.WriteLaws.{set-over, rows_of-snoc, wide-entries_of, length-entries_of, wide-marked}

-- ---- one entry

-- kind, then the body
pub plan-entry-written : (at : ℕ) (body t : List ℕ) → over (at + kind_wide) body (set t at 1) ≡ over at (plan_entry body) t
plan-entry-written at body t = rw (set-over at 1 t) (over-then at (1 ∷ []) body t)

-- kind, number, sender and body, one behind the other: u is the tail with kind and number, v with all
module _ (at n s : ℕ) (t u : List ℕ) (begun : u ≡ over (at + number_offset) (spelled number_wide n) (set t at 2)) where
  pub begun-length : length u ≡ length t
  begun-length = ap length begun ∙ length_over (at + number_offset) (spelled number_wide n) (set t at 2) ∙ length-set t at 2

  module _ (body v : List ℕ) (done : v ≡ over (at + body_at) body (set u (at + sender_offset) s)) where
    pub done-length : length v ≡ length t
    done-length = ap length done ∙ length_over (at + body_at) body (set u (at + sender_offset) s) ∙ length-set u (at + sender_offset) s ∙ begun-length

    pub entry-written : v ≡ over at (entry_of n s body) t
    unfolding entry_of
    entry-written =
        let sp = spelled number_wide n in
        let l = length-spelled number_wide n in
        let x : u ≡ over at (2 ∷ sp) t = begun ∙ rw (set-over at 2 t) (over-then at (2 ∷ []) sp t) in
        let p : at + sender_offset ≡ at + length (2 ∷ sp) = rw l in
        let y : set u (at + sender_offset) s ≡ over at (2 ∷ sp ++ s ∷ []) t = rw (x, p) (over-snoc at s (2 ∷ sp) t) in
        let q : at + body_at ≡ at + length (2 ∷ sp ++ s ∷ []) = rw (length-append, l) in
        done ∙ rw (y, q) (over-then at (2 ∷ sp ++ s ∷ []) body t ∙ ap (λ (r : List ℕ). over at (2 ∷ r) t) (append_assoc sp (s ∷ []) body))

-- ---- one entry more behind those written

map-append : (f : List ℕ → List ℕ) (xs ys : List (List ℕ)) → map f (xs ++ ys) ≡ map f xs ++ map f ys
map-append f [] ys = refl
map-append f (x ∷ xs) ys = ap (λ (l : List (List ℕ)). f x ∷ l) (map-append f xs ys)

flat-snoc : (xs : List (List ℕ)) (x : List ℕ) → flat (xs ++ x ∷ []) ≡ flat xs ++ x
unfolding flat
flat-snoc xs x = flat_append xs (x ∷ []) ∙ ap (λ (l : List ℕ). flat xs ++ l) (append-nil x)

module _ (n s : ℕ) (src : List ℕ) where
  abbrev pub written : ℕ → List ℕ
  written i = flat (entries_of n s (rows_of body_wide i src))

  pub written_start : (t₀ : List ℕ) → t₀ ≡ over 0 (written 0) t₀
  unfolding rows_of entries_of flat
  written_start t₀ = sym (over-nil 0 t₀)

  -- t has i entries, u one more
  pub written-turn : (i : ℕ) (t₀ t u : List ℕ) → (i + 1) * body_wide ≤ length src → u ≡ over (i * entry_wide) (entry_of n s (part (i * body_wide) body_wide src)) t
      → t ≡ over 0 (written i) t₀ → u ≡ over 0 (written (i + 1)) t₀
  unfolding entries_of
  written-turn i t₀ t u h f e =
      let x = entry_of n s (part (i * body_wide) body_wide src) in
      let w : Wide body_wide (rows_of body_wide i src) = wide-rows_of body_wide i src (omega arith) in
      let l : length (written i) ≡ i * entry_wide =
      length-flat entry_wide (entries_of n s (rows_of body_wide i src)) (wide-entries_of n s (rows_of body_wide i src) w)
      ∙ ap (λ (m : ℕ). m * entry_wide) (length-entries_of n s (rows_of body_wide i src) ∙ length-rows_of body_wide i src) in
      let g : written (i + 1) ≡ written i ++ x =
      ap (λ (r : List (List ℕ)). flat (map (entry_of n s) r)) (rows_of-snoc body_wide i src)
      ∙ ap flat (map-append (entry_of n s) (rows_of body_wide i src) (part (i * body_wide) body_wide src ∷ []))
      ∙ flat-snoc (entries_of n s (rows_of body_wide i src)) x in
      let p : i * entry_wide ≡ 0 + length (written i) = omega arith in
      f ∙ rw (e, g, p) (over-then 0 (written i) x t₀)

-- ---- marks

module _ (at : ℕ) (b₀ : List ℕ) where
  abbrev pub marks : ℕ → List ℕ
  marks i = flat (map marked_withdrawn (rows_of entry_wide i (drop at b₀)))

  pub marks-start : b₀ ≡ over at (marks 0) b₀
  unfolding rows_of flat
  marks-start = sym (over-nil at b₀)

  pub marks-turn : (i : ℕ) (b : List ℕ) → at + (i + 1) * entry_wide ≤ length b₀ → b ≡ over at (marks i) b₀ → set b (at + i * entry_wide) 3 ≡ over at (marks (i + 1)) b₀
  unfolding marked_withdrawn
  marks-turn i b h e =
      let us = rows_of entry_wide i (drop at b₀) in
      let p = at + i * entry_wide in
      let tail = part (suc p) (entry_wide - 1) b₀ in
      let w : Wide entry_wide us = wide-rows_of entry_wide i (drop at b₀) (simp length-drop (omega arith)) in
      let l : length (marks i) ≡ i * entry_wide =
      length-flat entry_wide (map marked_withdrawn us) (wide-marked entry_wide us w) ∙ ap (λ (m : ℕ). m * entry_wide) (length-map us marked_withdrawn ∙ length-rows_of entry_wide i (drop at b₀)) in
      let row : part (i * entry_wide) entry_wide (drop at b₀) ≡ get_or b₀ p 0 ∷ tail =
      part-is (i * entry_wide) entry_wide (drop at b₀) ∙ ap (take entry_wide) (drop-drop (i * entry_wide) at b₀) ∙ sym (part-is p entry_wide b₀) ∙ part-cons p (entry_wide - 1) b₀ (omega arith) in
      let g : marks (i + 1) ≡ marks i ++ (3 ∷ tail) =
      ap (λ (r : List (List ℕ)). flat (map marked_withdrawn r)) (rows_of-snoc entry_wide i (drop at b₀) ∙ ap (λ (r : List ℕ). us ++ r ∷ []) row)
      ∙ ap flat (map-append marked_withdrawn us ((get_or b₀ p 0 ∷ tail) ∷ []))
      ∙ flat-snoc (map marked_withdrawn us) (3 ∷ tail) in
      let q : p ≡ at + length (marks i) = omega arith in
      let r : at + length (marks i ++ 3 ∷ []) ≡ suc p = rw length-append (omega arith) in
      let x : set b p 3 ≡ over at (marks i ++ 3 ∷ []) b₀ = rw (e, q) (over-snoc at 3 (marks i) b₀) in
      let y : over at (marks i ++ 3 ∷ []) b₀ ≡ over at ((marks i ++ 3 ∷ []) ++ tail) b₀ =
      ap (over at (marks i ++ 3 ∷ [])) (sym (over-self (suc p) (entry_wide - 1) b₀) ∙ ap (λ (m : ℕ). over m tail b₀) (sym r)) ∙ over-over at (marks i ++ 3 ∷ []) tail b₀ in
      x ∙ y ∙ ap (λ (k : List ℕ). over at k b₀) (append_assoc (marks i) (3 ∷ []) tail ∙ sym g)
