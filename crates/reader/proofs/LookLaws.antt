use Prim.Native.Nat.{ℕ, ◌≤◌, ◌<◌}
use mathlib.Core.Path.{◌≡◌, refl, ap, ◌∙◌}
use mathlib.Core.Bool.{Bool, true, false}
use mathlib.Core.List.{List}
use borrow.Author.Tests.{lt-ltb, le-ltb}
use lib.Dec.{ltb}
use lib.ListN.{length}
use Rattle.std.specs.Prelude.{Ok, Err}
use Rattle.lists.specs.Logic.{on}
use Rattle.syntax.specs.Machine.{fault}
use Rattle.turbo_lines.specs.Lines.{lines, first_long}
use Rattle.columns.specs.declared.Table.{Table}
use Rattle.reader.specs.declared.Fault.TheVariants.{TooLong, Syntax, Long, Form, Field, Owner}
use Rattle.reader.specs.Rules.{Reading, largest, form_bad, is_wrong, owner_bad, first_line, is_line, faults, answer_to, items_of, reading_of}
use Rattle.reader.specs.Numbers.{reading_numbers, reading_table}
use Rattle.reader.specs.Claims.{NumbersByTable}
use Rattle.reader.specs.Staging.{rows_up_to, laid, short_items, staged_by}
use Rattle.reader.specs.inner.Settled.{lines_answer}

-- Which case of a reading holds, and its numbers. Assumes nothing.

-- an answer by six tests, and its numbers by the same
by_number : (p₂ p₃ q p₄ p₅ p₆ : Bool) (i m l w c o n : ℕ)
    → reading_numbers (on p₂ (Err TooLong) (on p₃ (Err (Syntax i)) (on q (Err (Long m)) (on p₄ (Err (Form l)) (on p₅ (Err (Field w c)) (on p₆ (Err (Owner o)) (Ok n)))))))
    ≡ on {A = ℕ × ℕ × ℕ} p₂ (2, 0, 0) (on p₃ (3, i, 0) (on q (15, m, 0) (on p₄ (4, l, 0) (on p₅ (5, w, c) (on p₆ (6, o, 0) (0, n, 0))))))
by_number true p₃ q p₄ p₅ p₆ i m l w c o n = refl
by_number false true q p₄ p₅ p₆ i m l w c o n = refl
by_number false false true p₄ p₅ p₆ i m l w c o n = refl
by_number false false false true p₅ p₆ i m l w c o n = refl
by_number false false false false true p₆ i m l w c o n = refl
by_number false false false false false true i m l w c o n = refl
by_number false false false false false false i m l w c o n = refl

pub numbers-by-table : NumbersByTable
unfolding reading_of answer_to reading_table
numbers-by-table t register sender d =
    by_number (ltb largest (length d)) (faults (fault d)) (is_line (first_long 1 (lines d))) (is_line (first_line (form_bad t) (items_of t d))) (is_line (first_line (is_wrong t) (items_of t d)))
    (is_line (first_line (owner_bad t register sender) (items_of t d))) _ _ _ _ _ _ _

module _ (t : Table) (register : List ℕ) (sender : ℕ) (d st : List ℕ) where
  -- with the answer its numbers
  pub numbered : {r : Reading} {area : List ℕ} → (r ≡ reading_of t register sender d) × (area ≡ staged_by t register sender d st)
      → (r ≡ reading_of t register sender d) × ((area ≡ staged_by t register sender d st) × (reading_numbers r ≡ reading_table t register sender d))
  numbered (e, a) = (e, (a, ap reading_numbers e ∙ numbers-by-table t register sender d))

  pub look-long : largest < length d → (Err TooLong ≡ reading_of t register sender d) × (st ≡ staged_by t register sender d st)
  unfolding reading_of staged_by
  look-long h = rw (lt-ltb _ _ h) (refl, refl)

  module _ (small : length d ≤ largest) where
    pub look-syntax : (i : ℕ) → fault d ≡ Err i → (Err (Syntax i) ≡ reading_of t register sender d) × (st ≡ staged_by t register sender d st)
    unfolding reading_of staged_by
    look-syntax i e = rw (le-ltb _ _ small, e) (refl, refl)

    pub look-lines : fault d ≡ Ok tt
        → (lines_answer t register sender d ≡ reading_of t register sender d) × (laid t (rows_up_to t register sender (short_items t d)) st ≡ staged_by t register sender d st)
    unfolding reading_of staged_by
    look-lines e = rw (le-ltb _ _ small, e) (refl, refl)
