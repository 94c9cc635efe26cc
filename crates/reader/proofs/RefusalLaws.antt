-- Each refusal holds exactly where the lines say so, at the first line that is not right. Assumes nothing.
use Prim.Native.Nat.{ℕ, zero, suc, ◌+◌, ◌≤◌, ◌<◌}
use native.Mathlib.Omega.{arith}
use mathlib.Core.Path.{◌≡◌, refl, sym, ap, subst, ◌∙◌}
use mathlib.Core.Bool.{Bool, true, false, not}
use mathlib.Core.List.{List, [], ◌∷◌, ◌++◌}
use mathlib.Core.Logic.{◌↔◌}
use borrow.Author.Tests.{eq-eqb, ne_eqb, eqb-true, eqb-false, ltb-true, ltb-false, lt-ltb, le-ltb}
use lib.Dec.{eqb, ltb}
use lib.ListN.{length}
use Rattle.std.specs.Prelude.{Result, Ok, Err, ⊤}
use Rattle.lists.specs.Logic.{on}
use Rattle.lists.specs.Text.{same}
use Rattle.lists.specs.Each.{Each}
use Rattle.syntax.specs.Machine.{fault}
use Rattle.grammar.specs.Grammar.{WellFormed}
use Rattle.syntax.proofs.GrammarLaws.{fine, formed}
use Rattle.turbo.specs.Split.{fields, until}
use Rattle.turbo_lines.specs.declared.Mark.{Mark}
use Rattle.turbo_lines.specs.declared.Mark.TheVariants as Marks
use Rattle.turbo_lines.specs.Lines.{lines, first_long, mark_of, after_mark}
use Rattle.turbo_lines.specs.Claims.{Short, LongAt}
use Rattle.turbo_lines.proofs.LongLaws.{none-long, all_short, long-found}
use Rattle.columns.specs.declared.Table.{Table}
use Rattle.columns.specs.Tables.{table_name, row_of, wrong_column, label_fault}
use Rattle.register.specs.Register.{may_send}
use Rattle.rows.specs.Claims.{OutsideType}
use Rattle.rows.proofs.LabelLaws.{faultless, once, there}
use Rattle.rows.proofs.UnderLaws.{right-none, none_right, first-outside, outside-first}
use Rattle.reader.specs.declared.Fault.TheVariants.{TooLong, Syntax, Long, Form, Field, Owner}
use Rattle.reader.specs.Items.{Item, head, row, Place, outside, awaiting, under, place_after, seen, in_front, items}
use Rattle.reader.specs.Rules.{Reading, largest, line_number, form_bad, is_wrong, wrong_at, owner_bad, first_line, first_column, data_rows, items_of, faults, fault_place, answer_to, reading_of}
use Rattle.reader.specs.Claims.{FirstNot, FormRight, FieldsRight, OwnerRight, TooLongExactly, SyntaxExactly, LongExactly, FormExactly, FieldExactly, OwnerExactly}
use Rattle.reader.proofs.AllRowsLaws.{items-numbered, none_first, first-none}
use Rattle.reader.proofs.LookLaws.{look-long, look-syntax}

-- ---- the first line that a test finds, over any test and what it says

each_in : (P : Item → Type 0) (before : List Item) (x : Item) (after : List Item) → Each P (before ++ x ∷ after) → P x
each_in P [] x after h = h.0
each_in P (y ∷ before) x after h = each_in P before x after h.1

never : {A : Type 0} (b : Bool) → b ≡ true → b ≡ false → A
never b e f = absurd (let z : ◌≡◌ {A = ℕ} 0 1 = cc in omega arith)

module _ (bad : Item → Bool) (Right : Item → Type 0) where
  -- the test says what is right of each item
  abbrev Says : Item → Type 0
  Says x = (bad x ≡ false) ↔ Right x

  abbrev FirstLine : List Item → ℕ → Type 0
  FirstLine xs l = (x : Item) × FirstNot Right xs x × (line_number x ≡ l)

  first-at : (xs : List Item) → Each Says xs → (l : ℕ) → 1 ≤ l → first_line bad xs ≡ l → FirstLine xs l
  unfolding first_line
  first-at [] w l h e = absurd (omega arith)
  first-at (x ∷ xs) w l h e = go (bad x) refl e (first-at xs w.1 l h)
    where
      go : (b : Bool) → bad x ≡ b → on b (line_number x) (first_line bad xs) ≡ l → (first_line bad xs ≡ l → FirstLine xs l) → FirstLine (x ∷ xs) l
      go true q k ih = (x, record { before = []; after = xs; split = refl; right = tt; wrong = λ r. never (bad x) q (w.0.1 r) }, k)
      go false q k ih =
          let f = ih k in
          let g = f.1 in
          (f.0, record { before = x ∷ g.before; after = g.after; split = ap (λ (ys : List Item). x ∷ ys) g.split; right = (w.0.0 q, g.right); wrong = g.wrong }, f.2)

  line-in : (before : List Item) (x : Item) (after : List Item) → Each Says (before ++ x ∷ after) → Each Right before → (Right x → ⊥) → first_line bad (before ++ x ∷ after) ≡ line_number x
  unfolding first_line
  line-in [] x after w r n = go (bad x) refl
    where
      go : (b : Bool) → bad x ≡ b → on b (line_number x) (first_line bad after) ≡ line_number x
      go true q = refl
      go false q = absurd (n (w.0.0 q))
  line-in (y ∷ before) x after w r n = rw (w.0.1 r.0) (line-in before x after w.1 r.1 n)

  at_first : (xs : List Item) → Each Says xs → (x : Item) → FirstNot Right xs x → first_line bad xs ≡ line_number x
  at_first xs w x f = ap (first_line bad) f.split ∙ line-in f.before x f.after (subst (Each Says) f.split w) f.right f.wrong

  all-fine : (xs : List Item) → Each Says xs → Each Right xs → Each (λ (x : Item). bad x ≡ false) xs
  all-fine [] w r = tt
  all-fine (x ∷ xs) w r = (w.0.1 r.0, all-fine xs w.1 r.1)

  all_right : (xs : List Item) → Each Says xs → Each (λ (x : Item). bad x ≡ false) xs → Each Right xs
  all_right [] w r = tt
  all_right (x ∷ xs) w r = (w.0.0 r.0, all_right xs w.1 r.1)

-- ---- what the three tests say

fine-equal : (a b : ℕ) → (not (eqb a b) ≡ false) ↔ (a ≡ b)
fine-equal a b = (λ e. go (eqb a b) refl e, λ e. rw (eq-eqb a b e))
  where
    go : (c : Bool) → eqb a b ≡ c → not c ≡ false → a ≡ b
    go true q e = eqb-true a b q
    go false q e = absurd (let z : ◌≡◌ {A = ℕ} 0 1 = cc in omega arith)

form-says : (t : Table) (x : Item) → (form_bad t x ≡ false) ↔ FormRight t x
form-says t (head n ls) = (λ e. (once t ls e, there t ls e), λ p. faultless t ls p.0 p.1)
form-says t (row n ls l) = fine-equal (length (fields l)) (length ls)

-- the labels of a data line are without a fault
abbrev pub Labelled : Table → Item → Type 0
Labelled t (head n ls) = Unit {0}
Labelled t (row n ls l) = label_fault t ls ≡ false

fields-say : (t : Table) (x : Item) → Labelled t x → (is_wrong t x ≡ false) ↔ FieldsRight t x
fields-say t (head n ls) e = (λ q. tt, λ r. refl)
fields-say t (row n ls l) e = (λ q. right-none t ls e l ((fine-equal (wrong_column t ls l) 0).0 q), λ r. rw (none_right t ls e l r))

owner-says : (t : Table) (register : List ℕ) (sender : ℕ) (x : Item) → (owner_bad t register sender x ≡ false) ↔ OwnerRight t register sender x
owner-says t register sender (head n ls) = (λ q. tt, λ r. refl)
owner-says t register sender (row n ls l) = (go (may_send t register sender (row_of t ls l)), λ e. rw e)
  where
    go : (b : Bool) → not b ≡ false → b ≡ true
    go true e = refl
    go false e = absurd (let z : ◌≡◌ {A = ℕ} 0 1 = cc in omega arith)

each-says : (P : Item → Type 0) → ((x : Item) → P x) → (xs : List Item) → Each P xs
each-says P f [] = tt
each-says P f (x ∷ xs) = (f x, each-says P f xs)

each-then : (P Q : Item → Type 0) → ((x : Item) → P x → Q x) → (xs : List Item) → Each P xs → Each Q xs
each-then P Q f [] h = tt
each-then P Q f (x ∷ xs) h = (f x h.0, each-then P Q f xs h.1)

-- ---- where each line is right in form, each data line's labels are without a fault

module _ (t : Table) where
  abbrev Known : Place → Type 0
  Known outside = Unit {0}
  Known awaiting = Unit {0}
  Known (under ls) = label_fault t ls ≡ false

  abbrev Formed : List Item → Type 0
  Formed xs = Each (λ (x : Item). form_bad t x ≡ false) xs

  known-name : (b : Bool) → Known (on b awaiting outside)
  known-name true = tt
  known-name false = tt

  seen-labelled : (m : Mark) (n : ℕ) (l : List ℕ) (p : Place) (xs : List Item) → Known p → (Known (place_after t m l p) → Formed xs → Each (Labelled t) xs)
      → Formed (in_front (seen m n l p) xs) → Each (Labelled t) (in_front (seen m n l p) xs)
  seen-labelled Marks.Group n l p xs k ih e = ih tt e
  seen-labelled Marks.Table n l p xs k ih e = ih (known-name (same (until 124 (after_mark l)) (table_name t))) e
  seen-labelled Marks.Labels n l awaiting xs k ih e = (tt, ih e.0 e.1)
  seen-labelled Marks.Labels n l outside xs k ih e = ih tt e
  seen-labelled Marks.Labels n l (under ls) xs k ih e = ih tt e
  seen-labelled Marks.Data n l outside xs k ih e = ih tt e
  seen-labelled Marks.Data n l awaiting xs k ih e = ih tt e
  seen-labelled Marks.Data n l (under ls) xs k ih e = (k, ih k e.1)

  pub labelled : (p : Place) (n : ℕ) (ls : List (List ℕ)) → Known p → Formed (items t p n ls) → Each (Labelled t) (items t p n ls)
  unfolding items
  labelled p n [] k e = tt
  labelled p n (l ∷ ls) k e = seen-labelled (mark_of l) n l p _ k (labelled (place_after t (mark_of l) l p) (suc n) ls) e

-- ---- the answer

module _ (t : Table) (register : List ℕ) (sender : ℕ) (d : List ℕ) where
  abbrev its : List Item
  its = items_of t d

  abbrev form : ℕ
  form = first_line (form_bad t) its

  abbrev wrong : ℕ
  wrong = first_line (is_wrong t) its

  abbrev owner : ℕ
  owner = first_line (owner_bad t register sender) its

  abbrev Small : Type 0
  Small = length d ≤ largest

  abbrev long : ℕ
  long = first_long 1 (lines d)

  -- what each answer tells of the first lines
  abbrev Tells : Reading → Type 0
  Tells (Err TooLong) = largest < length d
  Tells (Err (Syntax i)) = Small × (fault d ≡ Err i)
  Tells (Err (Long l)) = Small × (fault d ≡ Ok tt) × (long ≡ l) × (1 ≤ l)
  Tells (Err (Form l)) = Small × (fault d ≡ Ok tt) × (long ≡ 0) × (form ≡ l) × (1 ≤ l)
  Tells (Err (Field l c)) = Small × (fault d ≡ Ok tt) × (long ≡ 0) × (form ≡ 0) × (wrong ≡ l) × (1 ≤ l) × (first_column t its ≡ c)
  Tells (Err (Owner l)) = Small × (fault d ≡ Ok tt) × (long ≡ 0) × (form ≡ 0) × (wrong ≡ 0) × (owner ≡ l) × (1 ≤ l)
  Tells (Ok n) = Unit {0}

  line-there : (n : ℕ) → eqb n 0 ≡ false → 1 ≤ n
  line-there n e = let h = eqb-false n 0 e in omega arith

  tells : Tells (reading_of t register sender d)
  unfolding reading_of answer_to
  tells = go (ltb largest (length d)) (fault d) (eqb long 0) (eqb form 0) (eqb wrong 0) (eqb owner 0) refl refl refl refl refl refl
    where
      go : (b : Bool) (v : Result ⊤ ℕ) (u x y z : Bool) → ltb largest (length d) ≡ b → fault d ≡ v → eqb long 0 ≡ u → eqb form 0 ≡ x → eqb wrong 0 ≡ y → eqb owner 0 ≡ z
          → Tells (on b (Err TooLong) (on (faults v) (Err (Syntax (fault_place v))) (on (not u) (Err (Long long)) (on (not x) (Err (Form form)) (on (not y) (Err (Field wrong (first_column t its))) (on (not z) (Err (Owner owner)) (Ok (length (data_rows t its)))))))))
      go true v u x y z p q k a b c = ltb-true _ _ p
      go false (Err i) u x y z p q k a b c = (ltb-false _ _ p, q)
      go false (Ok u) false x y z p q k a b c = (ltb-false _ _ p, q, refl, line-there _ k)
      go false (Ok u) true false y z p q k a b c = (ltb-false _ _ p, q, eqb-true _ _ k, refl, line-there _ a)
      go false (Ok u) true true false z p q k a b c = (ltb-false _ _ p, q, eqb-true _ _ k, eqb-true _ _ a, refl, line-there _ b, refl)
      go false (Ok u) true true true false p q k a b c = (ltb-false _ _ p, q, eqb-true _ _ k, eqb-true _ _ a, eqb-true _ _ b, refl, line-there _ c)
      go false (Ok u) true true true true p q k a b c = tt

  told : (r : Reading) → reading_of t register sender d ≡ r → Tells r
  told r e = subst Tells e tells

  long-none : long ≡ 0 → Each Short (lines d)
  long-none e = none-long 1 (lines d) (omega arith) e

  module _ (small : Small) (w : WellFormed d) where
    long-back : (l : ℕ) → long ≡ l → 1 ≤ l → reading_of t register sender d ≡ Err (Long l)
    unfolding reading_of
    long-back l e h = rw (le-ltb largest (length d) small, fine w, e, ne_eqb l 0 (λ q. omega arith))

    module _ (short : Each Short (lines d)) where
      form-back : (l : ℕ) → form ≡ l → 1 ≤ l → reading_of t register sender d ≡ Err (Form l)
      unfolding reading_of answer_to
      form-back l e h = rw (le-ltb largest (length d) small, fine w, all_short 1 (lines d) short, e, ne_eqb l 0 (λ q. omega arith))

      field_back : (l c : ℕ) → form ≡ 0 → wrong ≡ l → 1 ≤ l → first_column t its ≡ c → reading_of t register sender d ≡ Err (Field l c)
      unfolding reading_of answer_to
      field_back l c f e h k = rw (le-ltb largest (length d) small, fine w, all_short 1 (lines d) short, f, e, ne_eqb l 0 (λ q. omega arith), k)

      owner-back : (l : ℕ) → form ≡ 0 → wrong ≡ 0 → owner ≡ l → 1 ≤ l → reading_of t register sender d ≡ Err (Owner l)
      unfolding reading_of answer_to
      owner-back l f e o h = rw (le-ltb largest (length d) small, fine w, all_short 1 (lines d) short, f, e, o, ne_eqb l 0 (λ q. omega arith))

  numbered : Each (λ (x : Item). 1 ≤ line_number x) its
  numbered = items-numbered t outside 1 (lines d) (omega arith)

  first-numbered : (Right : Item → Type 0) (x : Item) → FirstNot Right its x → 1 ≤ line_number x
  first-numbered Right x f = each_in (λ (y : Item). 1 ≤ line_number y) f.before x f.after (subst (Each (λ (y : Item). 1 ≤ line_number y)) f.split numbered)

  forms : Each (λ (x : Item). (form_bad t x ≡ false) ↔ FormRight t x) its
  forms = each-says (λ (x : Item). (form_bad t x ≡ false) ↔ FormRight t x) (form-says t) its

  owners : Each (λ (x : Item). (owner_bad t register sender x ≡ false) ↔ OwnerRight t register sender x) its
  owners = each-says (λ (x : Item). (owner_bad t register sender x ≡ false) ↔ OwnerRight t register sender x) (owner-says t register sender) its

  fields_in : Each (FormRight t) its → Each (λ (x : Item). (is_wrong t x ≡ false) ↔ FieldsRight t x) its
  fields_in f =
      each-then (Labelled t) (λ (x : Item). (is_wrong t x ≡ false) ↔ FieldsRight t x) (fields-say t) its
      (labelled t outside 1 (lines d) tt (all-fine (form_bad t) (FormRight t) its forms f))

  form-none : form ≡ 0 → Each (FormRight t) its
  form-none e = all_right (form_bad t) (FormRight t) its forms (none_first (form_bad t) its numbered e)

  none-form : Each (FormRight t) its → form ≡ 0
  none-form f = first-none (form_bad t) its (all-fine (form_bad t) (FormRight t) its forms f)

-- ---- the column of the first line with a wrong field

module _ (t : Table) where
  column-in : (before : List Item) (x : Item) (after : List Item) → Each (Says (is_wrong t) (FieldsRight t)) (before ++ x ∷ after) → Each (FieldsRight t) before → (FieldsRight t x → ⊥)
      → first_column t (before ++ x ∷ after) ≡ wrong_at t x
  unfolding first_column
  column-in [] x after w r n = go (is_wrong t x) refl
    where
      go : (b : Bool) → is_wrong t x ≡ b → on b (wrong_at t x) (first_column t after) ≡ wrong_at t x
      go true q = refl
      go false q = absurd (n (w.0.0 q))
  column-in (y ∷ before) x after w r n = rw (w.0.1 r.0) (column-in before x after w.1 r.1 n)

  column-at : (xs : List Item) → Each (Says (is_wrong t) (FieldsRight t)) xs → (x : Item) → FirstNot (FieldsRight t) xs x → first_column t xs ≡ wrong_at t x
  column-at xs w x f = ap (first_column t) f.split ∙ column-in f.before x f.after (subst (Each (Says (is_wrong t) (FieldsRight t))) f.split w) f.right f.wrong

-- ---- the refusals

pub too-long-exactly : TooLongExactly
too-long-exactly t register sender d = (told t register sender d (Err TooLong), λ h. sym (look-long t register sender d [] h).0)

pub syntax-exactly : SyntaxExactly
syntax-exactly t register sender d i = (told t register sender d (Err (Syntax i)), λ k. sym (look-syntax t register sender d [] k.0 i k.1).0)

pub long-exactly : LongExactly
long-exactly t register sender d l = (to, back)
  where
    to : reading_of t register sender d ≡ Err (Long l) → (length d ≤ 65536) × WellFormed d × LongAt (lines d) l
    to e =
        let k = told t register sender d (Err (Long l)) e in
        (k.0, formed d k.1, (long-found (lines d) l k.3).0 k.2)

    back : (length d ≤ 65536) × WellFormed d × LongAt (lines d) l → reading_of t register sender d ≡ Err (Long l)
    back (small, w, f) =
        let e = f.number in
        let n : 1 ≤ l = omega arith in
        long-back t register sender d small w l ((long-found (lines d) l n).1 f) n

pub form-exactly : FormExactly
form-exactly t register sender d l = (to, back)
  where
    to : reading_of t register sender d ≡ Err (Form l) → (length d ≤ 65536) × WellFormed d × Each Short (lines d) × ((x : Item) × FirstNot (FormRight t) (items_of t d) x × (line_number x ≡ l))
    to e =
        let k = told t register sender d (Err (Form l)) e in
        (k.0, formed d k.1, long-none t register sender d k.2, first-at (form_bad t) (FormRight t) (items_of t d) (forms t register sender d) l k.4 k.3)

    back : (length d ≤ 65536) × WellFormed d × Each Short (lines d) × ((x : Item) × FirstNot (FormRight t) (items_of t d) x × (line_number x ≡ l)) → reading_of t register sender d ≡ Err (Form l)
    back (small, w, h, (x, f, e)) =
        let n = first-numbered t register sender d (FormRight t) x f in
        form-back t register sender d small w h l (at_first (form_bad t) (FormRight t) (items_of t d) (forms t register sender d) x f ∙ e) (omega arith)

pub owner-exactly : OwnerExactly
owner-exactly t register sender d l = (to, back)
  where
    to : reading_of t register sender d ≡ Err (Owner l)
        → (length d ≤ 65536) × WellFormed d × Each Short (lines d) × Each (FormRight t) (items_of t d) × Each (FieldsRight t) (items_of t d)
        × ((x : Item) × FirstNot (OwnerRight t register sender) (items_of t d) x × (line_number x ≡ l))
    to e =
        let k = told t register sender d (Err (Owner l)) e in
        let f = form-none t register sender d k.3 in (
          k.0,
          formed d k.1,
          long-none t register sender d k.2,
          f,
          all_right (is_wrong t) (FieldsRight t) (items_of t d) (fields_in t register sender d f) (none_first (is_wrong t) (items_of t d) (numbered t register sender d) k.4),
          first-at (owner_bad t register sender) (OwnerRight t register sender) (items_of t d) (owners t register sender d) l k.6 k.5,
        )

    back : (length d ≤ 65536) × WellFormed d × Each Short (lines d) × Each (FormRight t) (items_of t d) × Each (FieldsRight t) (items_of t d)
        × ((x : Item) × FirstNot (OwnerRight t register sender) (items_of t d) x × (line_number x ≡ l))
        → reading_of t register sender d ≡ Err (Owner l)
    back (small, w, h, f, r, (x, o, e)) =
        let n = first-numbered t register sender d (OwnerRight t register sender) x o in
        owner-back t register sender d small w h l (none-form t register sender d f)
        (first-none (is_wrong t) (items_of t d) (all-fine (is_wrong t) (FieldsRight t) (items_of t d) (fields_in t register sender d f) r))
        (at_first (owner_bad t register sender) (OwnerRight t register sender) (items_of t d) (owners t register sender d) x o ∙ e)
        (omega arith)

module _ (t : Table) (register : List ℕ) (sender : ℕ) (d : List ℕ) (l c : ℕ) where
  -- the first field outside its type, in the first line that has one
  abbrev FieldAt : Type 0
  FieldAt =
      (labels : List (List ℕ)) × (line : List ℕ) × (p : ℕ) × FirstNot (FieldsRight t) (items_of t d) (row l labels line)
      × (c ≡ p + 1) × OutsideType t labels line p × ((q : ℕ) → OutsideType t labels line q → p ≤ q)

  labels-of : Each (FormRight t) (items_of t d) → (x : Item) → FirstNot (FieldsRight t) (items_of t d) x → Labelled t x
  labels-of f x a =
      each_in (Labelled t) a.before x a.after
      (subst (Each (Labelled t)) a.split (labelled t outside 1 (lines d) tt (all-fine (form_bad t) (FormRight t) (items_of t d) (forms t register sender d) f)))

  field_of : (x : Item) → FirstNot (FieldsRight t) (items_of t d) x → Labelled t x → line_number x ≡ l → wrong_at t x ≡ c → FieldAt
  field_of (head n ls) a g e k = absurd (a.wrong tt)
  field_of (row n ls line) a g e k = go c refl
    where
      go : (m : ℕ) → c ≡ m → FieldAt
      go zero q = absurd (a.wrong (right-none t ls g line (k ∙ q)))
      go (suc p) q =
          let h : c ≡ p + 1 = q ∙ omega arith in
          let o = first-outside t ls g line p (k ∙ h) in
          (ls, line, p, subst (λ (m : ℕ). FirstNot (FieldsRight t) (items_of t d) (row m ls line)) e a, h, o.0, o.1)

  pub field-to : reading_of t register sender d ≡ Err (Field l c) → (length d ≤ 65536) × WellFormed d × Each Short (lines d) × Each (FormRight t) (items_of t d) × FieldAt
  field-to e =
      let k = told t register sender d (Err (Field l c)) e in
      let f = form-none t register sender d k.3 in
      let s = fields_in t register sender d f in
      let a = first-at (is_wrong t) (FieldsRight t) (items_of t d) s l k.5 k.4 in
      (k.0, formed d k.1, long-none t register sender d k.2, f, field_of a.0 a.1 (labels-of f a.0 a.1) a.2 (sym (column-at t (items_of t d) s a.0 a.1) ∙ k.6))

  pub field-from : (length d ≤ 65536) × WellFormed d × Each Short (lines d) × Each (FormRight t) (items_of t d) × FieldAt → reading_of t register sender d ≡ Err (Field l c)
  field-from (small, w, h, f, (ls, line, p, a, e, o, least)) =
      let s = fields_in t register sender d f in
      let n : 1 ≤ l = first-numbered t register sender d (FieldsRight t) (row l ls line) a in
      field_back t register sender d small w h l c (none-form t register sender d f)
      (at_first (is_wrong t) (FieldsRight t) (items_of t d) s (row l ls line) a)
      n
      (column-at t (items_of t d) s (row l ls line) a ∙ outside-first t ls (labels-of f (row l ls line) a) line p o least ∙ sym e)

pub field-exactly : FieldExactly
field-exactly t register sender d l c = (field-to t register sender d l c, field-from t register sender d l c)
