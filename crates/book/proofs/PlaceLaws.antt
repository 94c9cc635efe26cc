-- Entries by their place: the fields of an entry where they stand in the book, and the rows that a loop has still to pass. Assumes nothing.
use mathlib.Core.Path.{◌≡◌, sym, ap, ◌∙◌}
use mathlib.Core.List.{List, [], ◌∷◌}
use Prim.Native.Nat.{ℕ, ◌+◌, ◌*◌, ◌-◌, ◌≤◌, ◌<◌}
use native.Mathlib.Nat.{add-zero}
use native.Mathlib.Omega.{arith}
use lib.ListN.{drop, get_or}
use lib.Seq.{drop-drop}
use Rattle.lists.specs.Part.{part}
use Rattle.lists.specs.Rows.{rows_of}
use Rattle.lists.specs.BigEndian.{number}
use Rattle.lists.proofs.PartLaws.{part_at, part-part}
use Rattle.lists.proofs.RowLaws.{rows_of-step, rows_of-start}
use Rattle.passage.specs.Layout.{body_wide}
use Rattle.book.specs.Entries.{plan_wide, plan_body_of, number_offset, number_wide, sender_offset, body_at, entry_wide, kind_of, number_of, sender_of, entry_body}
use Rattle.book.specs.inner.Steps.{plan_body_at}

-- the first byte of a part
pub first-at : (p n : ℕ) (b : List ℕ) → 0 < n → get_or (part p n b) 0 0 ≡ get_or b p 0
first-at p n b h = part_at p n b 0 h ∙ ap (λ (m : ℕ). get_or b m 0) (add-zero p)

-- ---- a plan entry

pub plan-body-at : (i : ℕ) (b : List ℕ) → plan_body_of (part (i * plan_wide) plan_wide b) ≡ plan_body_at i b
plan-body-at i b = part-part 1 body_wide (i * plan_wide) plan_wide b (omega arith)

-- ---- an update that begins at p

module _ (p : ℕ) (b : List ℕ) where
  pub kind_at : kind_of (part p entry_wide b) ≡ get_or b p 0
  kind_at = first-at p entry_wide b (omega arith)

  pub number-from : number_of (part p entry_wide b) ≡ number (part (p + number_offset) number_wide b)
  number-from = ap number (part-part number_offset number_wide p entry_wide b (omega arith))

  pub sender-from : sender_of (part p entry_wide b) ≡ get_or b (p + sender_offset) 0
  sender-from = part_at p entry_wide b sender_offset (omega arith)

  pub body-from : entry_body (part p entry_wide b) ≡ part (p + body_at) body_wide b
  body-from = part-part body_at body_wide p entry_wide b (omega arith)

-- ---- of m updates from `at` on, those from place i on

module _ (b : List ℕ) (at m : ℕ) where
  abbrev pub rest : ℕ → List (List ℕ)
  rest i = rows_of entry_wide (m - i) (drop (i * entry_wide) (drop at b))

  pub rest-start : rest 0 ≡ rows_of entry_wide m (drop at b)
  rest-start = sym (rows_of-start entry_wide m (drop at b))

  pub rest-step : (i : ℕ) → i < m → rest i ≡ part (at + i * entry_wide) entry_wide b ∷ rest (i + 1)
  unfolding part
  rest-step i h = rows_of-step entry_wide m i (drop at b) h ∙ rw (drop-drop (i * entry_wide) at b)

  pub rest_end : (i : ℕ) → m ≤ i → rest i ≡ []
  unfolding rows_of
  rest_end i h = let e : m - i ≡ 0 = omega arith in rw e
