-- The ways through a day's file. Assumes nothing.
use mathlib.Core.Path.{◌≡◌, refl, sym, ap, ◌∙◌}
use mathlib.Core.Bool.{Bool, true, false}
use mathlib.Core.List.{List, ◌++◌}
use Prim.Native.Nat.{ℕ, ◌+◌, ◌*◌, ◌≤◌, ◌<◌}
use native.Mathlib.Omega.{arith}
use borrow.Author.Tests.{eq-eqb, ne_eqb, lt-ltb, le-ltb}
use lib.ListN.{length}
use Rattle.lists.specs.Logic.{on}
use Rattle.lists.specs.Text.{same}
use Rattle.lists.specs.Part.{part, over}
use Rattle.lists.specs.BigEndian.{spelled}
use Rattle.lists.proofs.OverLaws.{over-then}
use Rattle.register.specs.Register.{register_sound}
use Rattle.book.specs.Rules.{book_sound}
use Rattle.table.specs.Rules.{table_sound}
use Rattle.script_text.specs.Rules.{appended}
use Rattle.boards_saved.specs.declared.Saved.{Saved}
use Rattle.boards_saved.specs.declared.Saved.TheVariants.{Day, Other}
use Rattle.boards_saved.specs.Saved.{name, heading_of, pairs_in, used_in, rows_in, between, parts_sound, whole_day, is_day, day_in, register_from, book_from, table_from}

-- ---- soundness

module _ (r b : List ℕ) (u : ℕ) (t : List ℕ) (n : ℕ) where
  pub sound_none : register_sound r ≡ false → false ≡ parts_sound r b u t n
  unfolding parts_sound
  sound_none h = rw h

  pub sound-book : register_sound r ≡ true → book_sound u b ≡ false → false ≡ parts_sound r b u t n
  unfolding parts_sound
  sound-book h k = rw (h, k)

  pub sound-by : (o : Bool) → register_sound r ≡ true → book_sound u b ≡ true → o ≡ table_sound n t → o ≡ parts_sound r b u t n
  unfolding parts_sound
  sound-by o h k g = rw (h, k) g

module _ (p u n : ℕ) (file : List ℕ) where
  pub whole-none : (e : ℕ) → e ≡ 28 + p + u + n * 67 → (length file ≡ e → ⊥) → false ≡ whole_day p u n file
  unfolding whole_day
  whole-none e f h = rw (← f) (rw (ne_eqb (length file) e h))

  pub whole_by : (m l e : ℕ) (r b t : List ℕ) (o : Bool)
      → m ≡ 28 + p
      → l ≡ 28 + p + u
      → e ≡ 28 + p + u + n * 67
      → length file ≡ e
      → r ≡ between 28 m file
      → b ≡ between m l file
      → t ≡ between l e file
      → o ≡ parts_sound r b u t n
      → o ≡ whole_day p u n file
  unfolding whole_day
  whole_by m l e r b t o f g k h x y z q =
      let g' : l ≡ m + u = g ∙ ap (λ (i : ℕ). i + u) (sym f) in
      let k' : e ≡ l + n * 67 = k ∙ ap (λ (i : ℕ). i + n * 67) (sym g) in
      rw (← f, ← g', ← k', eq-eqb (length file) e h, ← x, ← y, ← z) q

-- ---- what a file gives

module _ (file : List ℕ) where
  pub day-short : length file < 28 → Other ≡ day_in file
  unfolding day_in is_day
  day-short h = rw (lt-ltb (length file) 28 h)

  pub day-other : (w : List ℕ) → w ≡ part 0 16 file → 28 ≤ length file → same w name ≡ false → Other ≡ day_in file
  unfolding day_in is_day
  day-other w e h k = rw (le-ltb (length file) 28 h, ← e, k)

  pub day-broken : (w : List ℕ) (p u n : ℕ) → w ≡ part 0 16 file → p ≡ pairs_in file → u ≡ used_in file → n ≡ rows_in file
      → 28 ≤ length file
      → same w name ≡ true
      → whole_day p u n file ≡ false
      → Other ≡ day_in file
  unfolding day_in is_day
  day-broken w p u n e f g q h k l = rw (le-ltb (length file) 28 h, ← e, k, ← f, ← g, ← q, l)

  pub day-whole : (w : List ℕ) (p u n : ℕ) → w ≡ part 0 16 file → p ≡ pairs_in file → u ≡ used_in file → n ≡ rows_in file
      → 28 ≤ length file
      → same w name ≡ true
      → whole_day p u n file ≡ true
      → Day p u n ≡ day_in file
  unfolding day_in is_day
  day-whole w p u n e f g q h k l = rw (le-ltb (length file) 28 h, ← e, k, ← f, ← g, ← q, l)

-- the numbers of what a file gives
first : Saved → ℕ
first (Day p u n) = p
first Other = 0

second : Saved → ℕ
second (Day p u n) = u
second Other = 0

third : Saved → ℕ
third (Day p u n) = n
third Other = 0

tag : Saved → ℕ
tag (Day p u n) = 1
tag Other = 0

-- a day is given where the file is one, with its numbers
pub given-day : (file : List ℕ) (p u n : ℕ) → Day p u n ≡ day_in file → (is_day file ≡ true) × (p ≡ pairs_in file) × (u ≡ used_in file) × (n ≡ rows_in file)
unfolding day_in first second third tag
given-day file p u n = go (is_day file)
  where
    go : (t : Bool) → Day p u n ≡ on t (Day (pairs_in file) (used_in file) (rows_in file)) Other → (t ≡ true) × (p ≡ pairs_in file) × (u ≡ used_in file) × (n ≡ rows_in file)
    go true e = (refl, ap first e, ap second e, ap third e)
    go false e = absurd (omega (arith, ap tag e))

pub given-other : (file : List ℕ) → Other ≡ day_in file → is_day file ≡ false
unfolding day_in tag
given-other file = go (is_day file)
  where
    go : (t : Bool) → Other ≡ on t (Day (pairs_in file) (used_in file) (rows_in file)) Other → t ≡ false
    go true e = absurd (omega (arith, ap tag e))
    go false e = refl

-- ---- what is lent afterwards

pub part-put : (file w s t : List ℕ) (a b a' b' : ℕ) → t ≡ appended 0 w s → w ≡ between a b file → a ≡ a' → b ≡ b' → t ≡ appended 0 (between a' b' file) s
part-put file w s t a b a' b' g e f h =
    g ∙ ap (λ (x : List ℕ). appended 0 x s) (e ∙ ap (λ (i : ℕ). between i b file) f ∙ ap (λ (i : ℕ). between a' i file) h)

module _ (file : List ℕ) (p u n : ℕ) (e : Day p u n ≡ day_in file) (s t : List ℕ) where
  pub register-day : t ≡ appended 0 (between 28 (28 + p) file) s → t ≡ register_from file s
  unfolding register_from
  register-day g = let d = given-day file p u n e in rw d.0 (g ∙ ap (λ (k : ℕ). appended 0 (between 28 (28 + k) file) s) d.1)

  pub book-day : t ≡ appended 0 (between (28 + p) (28 + p + u) file) s → t ≡ book_from file s
  unfolding book_from
  book-day g =
      let d = given-day file p u n e in
      rw d.0
      (g ∙ ap (λ (k : ℕ). appended 0 (between (28 + k) (28 + k + u) file) s) d.1
      ∙ ap (λ (k : ℕ). appended 0 (between (28 + pairs_in file) (28 + pairs_in file + k) file) s) d.2)

  pub table-day : t ≡ appended 0 (between (28 + p + u) (28 + p + u + n * 67) file) s → t ≡ table_from file s
  unfolding table_from
  table-day g =
      let d = given-day file p u n e in
      rw d.0
      (g ∙ ap (λ (k : ℕ). appended 0 (between (28 + k + u) (28 + k + u + n * 67) file) s) d.1
      ∙ ap (λ (k : ℕ). appended 0 (between (28 + pairs_in file + k) (28 + pairs_in file + k + n * 67) file) s) d.2
      ∙ ap (λ (k : ℕ). appended 0 (between (28 + pairs_in file + used_in file) (28 + pairs_in file + used_in file + k * 67) file) s) d.3)

module _ (file : List ℕ) (e : Other ≡ day_in file) (s : List ℕ) where
  pub register-other : s ≡ register_from file s
  unfolding register_from
  register-other = rw (given-other file e)

  pub book-other : s ≡ book_from file s
  unfolding book_from
  book-other = rw (given-other file e)

  pub table-other : s ≡ table_from file s
  unfolding table_from
  table-other = rw (given-other file e)

-- ---- the heading

pub heading-is : (p u n : ℕ) (h h₁ h₂ h₃ h₄ : List ℕ)
    → h₁ ≡ over 0 name h
    → h₂ ≡ over 16 (spelled 4 p) h₁
    → h₃ ≡ over 20 (spelled 4 u) h₂
    → h₄ ≡ over 24 (spelled 4 n) h₃
    → h₄ ≡ over 0 (heading_of p u n) h
unfolding heading_of spelled
heading-is p u n h h₁ h₂ h₃ h₄ a b c d =
    d ∙ ap (over 24 (spelled 4 n)) (c ∙ ap (over 20 (spelled 4 u)) (b ∙ ap (over 16 (spelled 4 p)) a ∙ over-then 0 name (spelled 4 p) h) ∙ over-then 0 (name ++ spelled 4 p) (spelled 4 u) h)
    ∙ over-then 0 ((name ++ spelled 4 p) ++ spelled 4 u) (spelled 4 n) h
