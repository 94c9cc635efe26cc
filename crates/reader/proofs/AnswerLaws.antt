use Prim.Native.Nat.{ℕ, ◌+◌, ◌*◌, ◌≤◌}
use native.Mathlib.Omega.{arith}
use mathlib.Core.Path.{◌≡◌, refl, sym, ap, subst, ◌∙◌}
use mathlib.Core.Bool.{Bool, true, false, not, ◌||◌}
use mathlib.Core.List.{List, [], ◌∷◌}
use mathlib.Core.Logic.{◌↔◌}
use borrow.Author.Tests.{eqb-true, ltb-false, le-ltb}
use lib.Dec.{eqb, ltb}
use lib.ListN.{length}
use Rattle.std.specs.Prelude.{Result, Ok, Err, ⊤}
use Rattle.lists.specs.Logic.{on}
use Rattle.lists.specs.Part.{part}
use Rattle.lists.specs.Each.{Each}
use Rattle.lists.proofs.OverLaws.{length_over}
use Rattle.syntax.specs.Machine.{fault}
use Rattle.grammar.specs.Grammar.{WellFormed}
use Rattle.syntax.proofs.GrammarLaws.{fine, formed}
use Rattle.turbo_lines.specs.Lines.{lines, first_long}
use Rattle.turbo_lines.specs.Claims.{Short}
use Rattle.turbo_lines.proofs.LongLaws.{none-long, all_short}
use Rattle.columns.specs.declared.Form as Forms
use Rattle.columns.specs.declared.Table.{Table}
use Rattle.columns.specs.declared.Table.TheVariants.{Message, Planning, Calendar}
use Rattle.columns.specs.Tables.{row_of}
use Rattle.register.specs.Register.{grants}
use Rattle.register.proofs.RegisterLaws.{grants-desk}
use Rattle.reader.proofs.BoundLaws.{message-bounded, planning-bounded, calendar-bounded}
use Rattle.reader.specs.declared.Fault.TheVariants.{TooLong, Syntax, Long, Form, Field, Owner}
use Rattle.reader.specs.Items.{Item, head, row, outside}
use Rattle.reader.specs.Rules.{largest, form_bad, is_wrong, wrong_at, owner_bad, data_rows, answer_to, items_of, faults, fault_place, reading_of}
use Rattle.reader.specs.Staging.{rows_up_to, laid, short_items, staged_by}
use Rattle.reader.specs.inner.Settled.{answered_by}
use Rattle.reader.proofs.AllRowsLaws.{items-numbered, none_first, first-none, not-wrong, right-not, all-rows}

-- What an answer says of the items. Assumes nothing.

-- an answer of rows says that there is no fault
settled-rows : (f w c o r n : ℕ) → answered_by f w c o r ≡ Ok n → (f ≡ 0) × (w ≡ 0) × (o ≡ 0) × (r ≡ n)
settled-rows f w c o r n = go (eqb f 0) (eqb w 0) (eqb o 0) refl refl refl
  where
    go : (a b d : Bool) → eqb f 0 ≡ a → eqb w 0 ≡ b → eqb o 0 ≡ d → on (not a) (Err (Form f)) (on (not b) (Err (Field w c)) (on (not d) (Err (Owner o)) (Ok r))) ≡ Ok n → (f ≡ 0) × (w ≡ 0) × (o ≡ 0) × (r ≡ n)
    go true true true p q s e = (eqb-true _ _ p, eqb-true _ _ q, eqb-true _ _ s, cc)
    go true true false p q s e = absurd (let z : ◌≡◌ {A = ℕ} 0 1 = cc in omega arith)
    go true false d p q s e = absurd (let z : ◌≡◌ {A = ℕ} 0 1 = cc in omega arith)
    go false b d p q s e = absurd (let z : ◌≡◌ {A = ℕ} 0 1 = cc in omega arith)

module _ (t : Table) (register : List ℕ) (sender : ℕ) (d : List ℕ) where
  abbrev its : List Item
  its = items_of t d

  abbrev Right : Type 0
  Right =
      (length d ≤ largest) × WellFormed d
      × Each Short (lines d)
      × Each (λ (x : Item). form_bad t x ≡ false) its
      × Each (λ (x : Item). wrong_at t x ≡ 0) its
      × Each (λ (x : Item). owner_bad t register sender x ≡ false) its

  answer-right : (n : ℕ) → answer_to t register sender its ≡ Ok n → (Each (λ (x : Item). form_bad t x ≡ false) its) × (Each (λ (x : Item). wrong_at t x ≡ 0) its) × (Each (λ (x : Item). owner_bad t register sender x ≡ false) its) × (length (data_rows t its) ≡ n)
  unfolding answer_to
  answer-right n e =
      let k = settled-rows _ _ _ _ _ n e in
      let m = items-numbered t outside 1 (lines d) (omega arith) in
      (none_first (form_bad t) its m k.0, not-wrong t its (none_first (is_wrong t) its m k.1), none_first (owner_bad t register sender) its m k.2, k.3)

  -- what is looked at before the items
  abbrev Looked : ℕ → Type 0
  Looked n = (length d ≤ largest) × (fault d ≡ Ok tt) × Each Short (lines d) × (answer_to t register sender its ≡ Ok n)

  pub reading-looked : (n : ℕ) → reading_of t register sender d ≡ Ok n → Looked n
  unfolding reading_of
  reading-looked n = go (ltb largest (length d)) (fault d) (eqb (first_long 1 (lines d)) 0) refl refl refl
    where
      go : (b : Bool) (v : Result ⊤ ℕ) (x : Bool) → ltb largest (length d) ≡ b → fault d ≡ v → eqb (first_long 1 (lines d)) 0 ≡ x
          → on b (Err TooLong) (on (faults v) (Err (Syntax (fault_place v))) (on (not x) (Err (Long (first_long 1 (lines d)))) (answer_to t register sender its))) ≡ Ok n → Looked n
      go true v x p q r e = absurd (let z : ◌≡◌ {A = ℕ} 0 1 = cc in omega arith)
      go false (Ok u) true p q r e = (ltb-false _ _ p, q, none-long 1 (lines d) (omega arith) (eqb-true _ _ r), e)
      go false (Ok u) false p q r e = absurd (let z : ◌≡◌ {A = ℕ} 0 1 = cc in omega arith)
      go false (Err i) x p q r e = absurd (let z : ◌≡◌ {A = ℕ} 0 1 = cc in omega arith)

  accepted-back : length d ≤ largest → WellFormed d → Each Short (lines d) → Each (λ (x : Item). form_bad t x ≡ false) its → Each (λ (x : Item). wrong_at t x ≡ 0) its → Each (λ (x : Item). owner_bad t register sender x ≡ false) its
      → reading_of t register sender d ≡ Ok (length (data_rows t its))
  unfolding reading_of answer_to
  accepted-back small w h f r o =
      rw (le-ltb largest (length d) small, fine w, all_short 1 (lines d) h, first-none (form_bad t) its f, first-none (is_wrong t) its (right-not t its r), first-none (owner_bad t register sender) its o)

  pub accepted : ((n : ℕ) × (reading_of t register sender d ≡ Ok n)) ↔ Right
  accepted = (to, back)
    where
      to : ((n : ℕ) × (reading_of t register sender d ≡ Ok n)) → Right
      to (n, e) = let k = reading-looked n e in let a = answer-right n k.3 in (k.0, formed d k.1, k.2, a.0, a.1, a.2)

      back : Right → (n : ℕ) × (reading_of t register sender d ≡ Ok n)
      back (small, w, h, f, r, o) = (length (data_rows t its), accepted-back small w h f r o)

  pub rows-counted : (n : ℕ) → reading_of t register sender d ≡ Ok n → n ≡ length (data_rows t its)
  rows-counted n e = let k = reading-looked n e in sym (answer-right n k.3).3

  -- the rows before the first line at fault are all rows
  pub accepted-rows : (n : ℕ) → reading_of t register sender d ≡ Ok n → rows_up_to t register sender its ≡ data_rows t its
  accepted-rows n e = let a = answer-right n (reading-looked n e).3 in all-rows t register sender its a.0 a.1 a.2

  -- so what holds of each of them holds of each row
  pub accepted-each : (P : List ℕ → Type 0) → Each P (rows_up_to t register sender its) → (n : ℕ) → reading_of t register sender d ≡ Ok n → Each P (data_rows t its)
  accepted-each P h n e = subst (Each P) (accepted-rows n e) h

-- every row of the desk's is refused
desk-never : {A : Type 0} (register owner : List ℕ) → not (grants register 0 owner) ≡ false → A
desk-never register owner q =
    let y : grants register 0 owner ≡ false = grants-desk register 0 owner refl in
    absurd (let z : ◌≡◌ {A = ℕ} 0 1 = cc in omega arith)

desk-rows : (f : Forms.Form) (register : List ℕ) (xs : List Item) → Each (λ (x : Item). owner_bad (Message f) register 0 x ≡ false) xs → data_rows (Message f) xs ≡ []
unfolding data_rows
desk-rows f register [] e = refl
desk-rows f register (head n ls ∷ xs) e = desk-rows f register xs e.1
desk-rows f register (row n ls l ∷ xs) e = desk-never register (part 0 10 (row_of (Message f) ls l)) e.0

pub desk-nothing : (f : Forms.Form) (register d : List ℕ) (n : ℕ) → reading_of (Message f) register 0 d ≡ Ok n → n ≡ 0
desk-nothing f register d n e =
    let k = reading-looked (Message f) register 0 d n e in
    let a = answer-right (Message f) register 0 d n k.3 in
    sym a.3 ∙ ap length (desk-rows f register (items_of (Message f) d) a.2)

pub area-length : (t : Table) (register : List ℕ) (sender : ℕ) (d staging : List ℕ) → length (staged_by t register sender d staging) ≡ length staging
unfolding staged_by
area-length t register sender d staging = go (ltb largest (length d) || faults (fault d))
  where
    go : (b : Bool) → length (on b staging (laid t (rows_up_to t register sender (short_items t d)) staging)) ≡ length staging
    go true = refl
    go false = length_over 0 _ staging

-- few rows of a table whose rows are bounded
module _ (t : Table) (register : List ℕ) (sender least : ℕ) (bounded : (d : List ℕ) → length (rows_up_to t register sender (items_of t d)) * least ≤ length d + 2) where
  few-rows : (d : List ℕ) (n : ℕ) → reading_of t register sender d ≡ Ok n → (n * least ≤ length d + 2) × (length d ≤ largest)
  few-rows d n e =
      let c = rows-counted t register sender d n e ∙ ap length (sym (accepted-rows t register sender d n e)) in
      let b : length (rows_up_to t register sender (items_of t d)) * least ≤ length d + 2 = bounded d in
      (rw (← c) at b, (reading-looked t register sender d n e).0)

pub rows_few : (f : Forms.Form) (register : List ℕ) (sender : ℕ) (d : List ℕ) (n : ℕ) → reading_of (Message f) register sender d ≡ Ok n → (n * 27 ≤ length d + 2) × (n ≤ 2427)
rows_few f register sender d n e = let b = few-rows (Message f) register sender 27 (message-bounded f register sender) d n e in (b.0, omega arith)

pub planning-few : (d : List ℕ) (n : ℕ) → reading_of Planning [] 0 d ≡ Ok n → (n * 10 ≤ length d + 2) × (n ≤ 6553)
planning-few d n e = let f = few-rows Planning [] 0 10 (planning-bounded [] 0) d n e in (f.0, omega arith)

pub calendar-few : (d : List ℕ) (n : ℕ) → reading_of Calendar [] 0 d ≡ Ok n → (n * 12 ≤ length d + 2) × (n ≤ 5461)
calendar-few d n e = let f = few-rows Calendar [] 0 12 (calendar-bounded [] 0) d n e in (f.0, omega arith)
