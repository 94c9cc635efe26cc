-- A message without the columns in which the forms differ is read the same in both. Assumes nothing.
use Prim.Native.Nat.{ℕ, suc}
use mathlib.Core.Path.{◌≡◌, refl, sym, ap, subst, ◌∙◌}
use mathlib.Core.Bool.{Bool, not}
use mathlib.Core.List.{List, [], ◌∷◌}
use lib.Dec.{ltb}
use lib.ListN.{length}
use Rattle.std.specs.Prelude.{Err}
use Rattle.lists.specs.Logic.{first_held}
use Rattle.lists.specs.Each.{Each}
use Rattle.syntax.specs.Machine.{fault}
use Rattle.turbo_lines.specs.declared.Mark.{Mark}
use Rattle.turbo_lines.specs.declared.Mark.TheVariants as Marks
use Rattle.turbo_lines.specs.Lines.{lines, first_long, mark_of}
use Rattle.columns.specs.declared.Form as Forms
use Rattle.columns.specs.declared.Table.TheVariants.{Message}
use Rattle.columns.specs.Tables.{table_name, row_of}
use Rattle.columns.proofs.FormLaws.{forms-agree}
use Rattle.passage.specs.Layout.{owner_of}
use Rattle.register.specs.Register.{grants}
use Rattle.reader.specs.declared.Fault.TheVariants.{TooLong, Syntax, Long}
use Rattle.reader.specs.Items.{Item, head, row, Place, outside, awaiting, under, place_after, seen, in_front, items}
use Rattle.reader.specs.Rules.{Reading, largest, form_bad, wrong_at, is_wrong, owner_bad, first_line, first_column, data_rows, items_of, faults, fault_place, is_line, answer_to, reading_of}
use Rattle.reader.specs.Claims.{Plain, FormsReadAlike}

module _ (f g : Forms.Form) where
  place-alike : (m : Mark) (l : List ℕ) (p : Place) → place_after (Message f) m l p ≡ place_after (Message g) m l p
  unfolding table_name
  place-alike Marks.Group l p = refl
  place-alike Marks.Table l p = refl
  place-alike Marks.Labels l awaiting = refl
  place-alike Marks.Labels l outside = refl
  place-alike Marks.Labels l (under ls) = refl
  place-alike Marks.Data l p = refl

  items_alike : (p : Place) (n : ℕ) (ls : List (List ℕ)) → items (Message f) p n ls ≡ items (Message g) p n ls
  unfolding items
  items_alike p n [] = refl
  items_alike p n (l ∷ ls) =
      ap (λ (xs : List Item). in_front (seen (mark_of l) n l p) xs)
      (items_alike (place_after (Message f) (mark_of l) l p) (suc n) ls ∙ ap (λ (q : Place). items (Message g) q (suc n) ls) (place-alike (mark_of l) l p))

  form-alike : (x : Item) → Plain x → form_bad (Message f) x ≡ form_bad (Message g) x
  form-alike (head n ls) h = (forms-agree ls h.0 h.1 h.2 f g).0
  form-alike (row n ls l) h = refl

  wrong-alike : (x : Item) → Plain x → wrong_at (Message f) x ≡ wrong_at (Message g) x
  wrong-alike (head n ls) h = refl
  wrong-alike (row n ls l) h = ((forms-agree ls h.0 h.1 h.2 f g).1 l).1

  is-wrong-alike : (x : Item) → Plain x → is_wrong (Message f) x ≡ is_wrong (Message g) x
  is-wrong-alike x h = rw (wrong-alike x h)

  owner-alike : (register : List ℕ) (sender : ℕ) (x : Item) → Plain x → owner_bad (Message f) register sender x ≡ owner_bad (Message g) register sender x
  owner-alike register sender (head n ls) h = refl
  owner-alike register sender (row n ls l) h =
      ap (λ (r : List ℕ). not (grants register sender (owner_of r))) ((forms-agree ls h.0 h.1 h.2 f g).1 l).0

  first_alike : (a b : Item → Bool) → ((x : Item) → Plain x → a x ≡ b x) → (xs : List Item) → Each Plain xs → first_line a xs ≡ first_line b xs
  unfolding first_line
  first_alike a b e [] h = refl
  first_alike a b e (x ∷ xs) h = rw (e x h.0, first_alike a b e xs h.1)

  column-alike : (xs : List Item) → Each Plain xs → first_column (Message f) xs ≡ first_column (Message g) xs
  unfolding first_column
  column-alike [] h = refl
  column-alike (x ∷ xs) h = rw (wrong-alike x h.0, column-alike xs h.1)

  rows_alike : (xs : List Item) → Each Plain xs → data_rows (Message f) xs ≡ data_rows (Message g) xs
  unfolding data_rows
  rows_alike [] h = refl
  rows_alike (head n ls ∷ xs) h = rows_alike xs h.1
  rows_alike (row n ls l ∷ xs) h =
      let k = h.0 in
      rw (((forms-agree ls k.0 k.1 k.2 f g).1 l).0, rows_alike xs h.1)

  answer-alike : (register : List ℕ) (sender : ℕ) (xs : List Item) → Each Plain xs → answer_to (Message f) register sender xs ≡ answer_to (Message g) register sender xs
  unfolding answer_to
  answer-alike register sender xs h =
      rw (
        first_alike (form_bad (Message f)) (form_bad (Message g)) form-alike xs h,
        first_alike (is_wrong (Message f)) (is_wrong (Message g)) is-wrong-alike xs h,
        first_alike (owner_bad (Message f) register sender) (owner_bad (Message g) register sender) (owner-alike register sender) xs h,
        column-alike xs h,
        rows_alike xs h,
      )

  reading-alike : (register : List ℕ) (sender : ℕ) (d : List ℕ) → Each Plain (items_of (Message f) d)
      → reading_of (Message f) register sender d ≡ reading_of (Message g) register sender d
  unfolding reading_of
  reading-alike register sender d h =
      ap
      (λ (a : Reading).
      first_held
      ((ltb largest (length d), Err TooLong)
      ∷ (faults (fault d), Err (Syntax (fault_place (fault d))))
      ∷ (is_line (first_long 1 (lines d)), Err (Long (first_long 1 (lines d))))
      ∷ [])
      a)
      (answer-alike register sender (items_of (Message f) d) h ∙ ap (answer_to (Message g) register sender) (items_alike outside 1 (lines d)))

pub forms-read-alike : FormsReadAlike
forms-read-alike f g register sender d h =
    (reading-alike f g register sender d h, rows_alike f g (items_of (Message f) d) h ∙ ap (data_rows (Message g)) (items_alike f g outside 1 (lines d)))
