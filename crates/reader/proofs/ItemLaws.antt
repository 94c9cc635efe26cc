-- The items of a dossier are the label lines and the data lines of the table. Assumes nothing.
use Prim.Native.Nat.{ℕ, suc, ◌+◌, ◌≤◌}
use native.Mathlib.Omega.{arith}
use mathlib.Core.Path.{◌≡◌, refl, sym, ap, subst, ◌∙◌}
use mathlib.Core.Bool.{Bool, true, false}
use mathlib.Core.List.{List, [], ◌∷◌, ◌++◌, append-nil, append_assoc}
use mathlib.Core.Logic.{◌⊎◌, inl, inr, ⊎_elim, ◌↔◌}
use lib.ListN.{length, length-append}
use Rattle.lists.specs.Logic.{on}
use Rattle.lists.specs.Text.{same}
use Rattle.lists.specs.Each.{Each}
use Rattle.lists.proofs.EachLaws.{each_append}
use Rattle.lists.proofs.TextLaws.{same_refl, same-equal}
use Rattle.turbo.specs.Split.{until, fields}
use Rattle.turbo_lines.specs.declared.Mark.{Mark}
use Rattle.turbo_lines.specs.declared.Mark.TheVariants as Marks
use Rattle.turbo_lines.specs.Lines.{lines, mark_of, after_mark}
use Rattle.columns.specs.declared.Table.{Table}
use Rattle.columns.specs.Tables.{table_name}
use Rattle.reader.specs.Items.{Item, head, row, Place, outside, awaiting, under, place_after, seen, in_front, items}
use Rattle.reader.specs.Rules.{line_number, items_of}
use Rattle.reader.specs.Claims.{IsData, Named, Under, Is, OneOf, ItemsExactly, Rise, ItemsInOrder}

-- ---- in the order of lines

rise-later : (m n : ℕ) (xs : List Item) → m ≤ n → Rise n xs → Rise m xs
rise-later m n [] h r = tt
rise-later m n (x ∷ xs) h r = let k = r.0 in (omega arith, r.1)

seen-rises : (m : Mark) (n : ℕ) (l : List ℕ) (p : Place) (xs : List Item) → Rise (suc n) xs → Rise n (in_front (seen m n l p) xs)
seen-rises Marks.Group n l p xs r = rise-later n (suc n) xs (omega arith) r
seen-rises Marks.Table n l p xs r = rise-later n (suc n) xs (omega arith) r
seen-rises Marks.Labels n l awaiting xs r = (omega arith, rise-later (n + 1) (suc n) xs (omega arith) r)
seen-rises Marks.Labels n l outside xs r = rise-later n (suc n) xs (omega arith) r
seen-rises Marks.Labels n l (under ls) xs r = rise-later n (suc n) xs (omega arith) r
seen-rises Marks.Data n l outside xs r = rise-later n (suc n) xs (omega arith) r
seen-rises Marks.Data n l awaiting xs r = rise-later n (suc n) xs (omega arith) r
seen-rises Marks.Data n l (under ls) xs r = (omega arith, rise-later (n + 1) (suc n) xs (omega arith) r)

items-rise : (t : Table) (p : Place) (n : ℕ) (ls : List (List ℕ)) → Rise n (items t p n ls)
unfolding items
items-rise t p n [] = tt
items-rise t p n (l ∷ ls) = seen-rises (mark_of l) n l p _ (items-rise t (place_after t (mark_of l) l p) (suc n) ls)

pub items-in-order : ItemsInOrder
items-in-order t d = items-rise t outside 1 (lines d)

-- ---- one of the items

one_none : (x : Item) → OneOf x [] → ⊥
one_none x ([], us, e) = let n = ap length e in omega arith
one_none x (b ∷ bs, us, e) = let n = ap length e in omega arith

one_split : (x y : Item) (xs : List Item) → OneOf x (y ∷ xs) → (y ≡ x) ⊎ OneOf x xs
one_split x y xs ([], us, e) = inl cc
one_split x y xs (b ∷ bs, us, e) = inr (bs, us, cc)

one_later : (x : Item) (ys xs : List Item) → OneOf x xs → OneOf x (in_front ys xs)
one_later x [] xs o = o
one_later x (y ∷ ys) xs o = (y ∷ o.0, o.1, ap (λ (zs : List Item). y ∷ zs) o.2)

module _ (t : Table) where
  -- ---- from the items to the lines

  -- what the lines so far are, by the place that they lead to
  abbrev Came : List (List ℕ) → Place → Type 0
  Came ls outside = Unit {0}
  Came ls awaiting = Named t ls
  Came ls (under labels) = Under t ls labels

  came-next : (ls : List (List ℕ)) (l : List ℕ) (m : Mark) → mark_of l ≡ m → (p : Place) → Came ls p → Came (ls ++ l ∷ []) (place_after t m l p)
  came-next ls l Marks.Group e p c = tt
  came-next ls l Marks.Table e p c = go (same (until 124 (after_mark l)) (table_name t)) refl
    where
      go : (b : Bool) → same (until 124 (after_mark l)) (table_name t) ≡ b → Came (ls ++ l ∷ []) (on b awaiting outside)
      go true q = record { earlier = ls; line = l; later = []; split = refl; mark = e; name = same-equal (until 124 (after_mark l)) (table_name t) q; data-later = tt }
      go false q = tt
  came-next ls l Marks.Labels e awaiting c = record { earlier = ls; line = l; later = []; split = refl; mark = e; label = refl; data-later = tt; named = c }
  came-next ls l Marks.Labels e outside c = tt
  came-next ls l Marks.Labels e (under labels) c = tt
  came-next ls l Marks.Data e outside c = tt
  came-next ls l Marks.Data e awaiting c =
      record {
        earlier = c.earlier;
        line = c.line;
        later = c.later ++ l ∷ [];
        split = ap (λ (xs : List (List ℕ)). xs ++ l ∷ []) c.split ∙ append_assoc c.earlier (c.line ∷ c.later) (l ∷ []);
        mark = c.mark;
        name = c.name;
        data-later = each_append IsData c.later (l ∷ []) c.data-later (e, tt);
      }
  came-next ls l Marks.Data e (under labels) c =
      record {
        earlier = c.earlier;
        line = c.line;
        later = c.later ++ l ∷ [];
        split = ap (λ (xs : List (List ℕ)). xs ++ l ∷ []) c.split ∙ append_assoc c.earlier (c.line ∷ c.later) (l ∷ []);
        mark = c.mark;
        label = c.label;
        data-later = each_append IsData c.later (l ∷ []) c.data-later (e, tt);
        named = c.named;
      }

  module _ (x : Item) where
    -- an item is its line's, or one of the later lines'
    seen_one : (m : Mark) (n : ℕ) (l : List ℕ) (p : Place) (xs : List Item) (before : List (List ℕ)) → mark_of l ≡ m → Came before p → n ≡ length before + 1
        → OneOf x (in_front (seen m n l p) xs) → Is t x before l ⊎ OneOf x xs
    seen_one Marks.Group n l p xs before e c k o = inr o
    seen_one Marks.Table n l p xs before e c k o = inr o
    seen_one Marks.Labels n l awaiting xs before e c k o =
        ⊎_elim (λ q. inl (subst (λ (y : Item). Is t y before l) q (k, e, refl, c))) inr (one_split x (head n (fields (after_mark l))) xs o)
    seen_one Marks.Labels n l outside xs before e c k o = inr o
    seen_one Marks.Labels n l (under labels) xs before e c k o = inr o
    seen_one Marks.Data n l outside xs before e c k o = inr o
    seen_one Marks.Data n l awaiting xs before e c k o = inr o
    seen_one Marks.Data n l (under labels) xs before e c k o =
        ⊎_elim (λ q. inl (subst (λ (y : Item). Is t y before l) q (k, e, refl, c))) inr (one_split x (row n labels l) xs o)

    abbrev From : List (List ℕ) → Type 0
    From all = (before : List (List ℕ)) × (l : List ℕ) × (after : List (List ℕ)) × (all ≡ before ++ l ∷ after) × Is t x before l

    item-line : (ls : List (List ℕ)) (p : Place) (n : ℕ) (before : List (List ℕ)) → Came before p → n ≡ length before + 1 → OneOf x (items t p n ls) → From (before ++ ls)
    unfolding items
    item-line [] p n before c k o = absurd (one_none x o)
    item-line (l ∷ ls) p n before c k o =
        let h : suc n ≡ length (before ++ l ∷ []) + 1 = omega (arith, k, length-append before (l ∷ [])) in
        ⊎_elim
        (λ i. (before, l, ls, refl, i))
        (λ r. subst From (append_assoc before (l ∷ []) ls) (item-line ls (place_after t (mark_of l) l p) (suc n) (before ++ l ∷ []) (came-next before l (mark_of l) refl p c) h r))
        (seen_one (mark_of l) n l p _ before refl c k o)

  -- ---- from the lines to the items

  -- the place that lines lead to
  abbrev place_of : Place → List (List ℕ) → Place
  place_of p [] = p
  place_of p (l ∷ ls) = place_of (place_after t (mark_of l) l p) ls

  place-append : (p : Place) (us bs : List (List ℕ)) → place_of p (us ++ bs) ≡ place_of (place_of p us) bs
  place-append p [] bs = refl
  place-append p (a ∷ us) bs = place-append (place_after t (mark_of a) a p) us bs

  place-data : (p : Place) (ls : List (List ℕ)) → Each IsData ls → place_of p ls ≡ p
  place-data p [] e = refl
  place-data p (l ∷ ls) e = rw e.0 (place-data p ls e.1)

  named-next : (l : List ℕ) (p : Place) → mark_of l ≡ Marks.Table → until 124 (after_mark l) ≡ table_name t → place_after t (mark_of l) l p ≡ awaiting
  named-next l p e q = rw (e, q, same_refl (table_name t))

  place-named : (p : Place) (ls : List (List ℕ)) → Named t ls → place_of p ls ≡ awaiting
  place-named p ls c =
      ap (place_of p) c.split ∙ place-append p c.earlier (c.line ∷ c.later)
      ∙ ap (λ (q : Place). place_of q c.later) (named-next c.line (place_of p c.earlier) c.mark c.name)
      ∙ place-data awaiting c.later c.data-later

  under_next : (l : List ℕ) (labels : List (List ℕ)) (p : Place) → p ≡ awaiting → mark_of l ≡ Marks.Labels → labels ≡ fields (after_mark l) → place_after t (mark_of l) l p ≡ under labels
  under_next l labels p h e q = rw (h, e, q)

  place-under : (p : Place) (ls labels : List (List ℕ)) → Under t ls labels → place_of p ls ≡ under labels
  place-under p ls labels c =
      ap (place_of p) c.split ∙ place-append p c.earlier (c.line ∷ c.later)
      ∙ ap (λ (q : Place). place_of q c.later) (under_next c.line labels (place_of p c.earlier) (place-named p c.earlier c.named) c.mark c.label)
      ∙ place-data (under labels) c.later c.data-later

  later-item : (x : Item) (p : Place) (n : ℕ) (before ls : List (List ℕ)) → OneOf x (items t (place_of p before) (n + length before) ls) → OneOf x (items t p n (before ++ ls))
  unfolding items
  later-item x p n [] ls o = let e : n + 0 ≡ n = omega arith in subst (λ (m : ℕ). OneOf x (items t p m ls)) e o
  later-item x p n (b ∷ before) ls o =
      let e : n + suc (length before) ≡ suc n + length before = omega arith in
      one_later x (seen (mark_of b) n b p) _
      (later-item x (place_after t (mark_of b) b p) (suc n) before ls (subst (λ (m : ℕ). OneOf x (items t (place_of (place_after t (mark_of b) b p) before) m ls)) e o))

  head_first : (n : ℕ) (l : List ℕ) (labels ls : List (List ℕ)) → mark_of l ≡ Marks.Labels → labels ≡ fields (after_mark l) → OneOf (head n labels) (items t awaiting n (l ∷ ls))
  unfolding items
  head_first n l labels ls e q = ([], items t (under labels) (suc n) ls, rw (e, q))

  row_first : (n : ℕ) (l : List ℕ) (labels ls : List (List ℕ)) → mark_of l ≡ Marks.Data → OneOf (row n labels l) (items t (under labels) n (l ∷ ls))
  unfolding items
  row_first n l labels ls e = ([], items t (under labels) (suc n) ls, rw e)

  line-item : (x : Item) (before : List (List ℕ)) (l : List ℕ) (after : List (List ℕ)) → Is t x before l → OneOf x (items t outside 1 (before ++ l ∷ after))
  line-item (head n labels) before l after (k, e, q, c) =
      let h : n ≡ 1 + length before = omega arith in
      later-item (head n labels) outside 1 before (l ∷ after)
      (rw (place-named outside before c, ← h) (head_first n l labels after e q))
  line-item (row n labels line) before l after (k, e, q, c) =
      let h : n ≡ 1 + length before = omega arith in
      later-item (row n labels line) outside 1 before (l ∷ after)
      (rw (place-under outside before labels c, ← h, q) (row_first n l labels after e))

pub items-exactly : ItemsExactly
items-exactly t d x = (
  item-line t x (lines d) outside 1 [] tt refl,
  λ f. subst (λ (ls : List (List ℕ)). OneOf x (items t outside 1 ls)) (sym f.3) (line-item t x f.0 f.1 f.2 f.4),
)
