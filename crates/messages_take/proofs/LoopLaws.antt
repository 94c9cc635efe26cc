-- A loop that takes the bodies of s into the n rows of t₀, one after another. Assumes nothing.
use mathlib.Core.Path.{◌≡◌, refl, sym, ap, ◌∙◌}
use mathlib.Core.Bool.{true}
use mathlib.Core.List.{List}
use Prim.Native.Nat.{ℕ, ◌+◌, ◌-◌, ◌*◌, ◌≤◌}
use native.Mathlib.Omega.{arith}
use lib.ListN.{length, drop}
use Rattle.lists.specs.Part.{part}
use Rattle.lists.specs.Rows.{rows_of, store, Wide}
use Rattle.lists.proofs.RowLaws.{length-rows_of, rows_of-append}
use Rattle.lists.proofs.WideLaws.{wide-rows_of}
use Rattle.lists.proofs.StoreLaws.{store_same, store-grows, rows_of-store, length-store}
use Rattle.passage.specs.Layout.{body_wide, row_wide}
use Rattle.keys.specs.Sorted.{sorted_rows}
use Rattle.keys.specs.Replay.{taken, taken_all}
use Rattle.keys.proofs.ReplayLaws.{taken_all-append, taken_all-snoc, sorted-taken_all, length-taken-most, length-taken_all-least, length-taken_all-most}
use Rattle.update.specs.Rule.{row_rule}
use Rattle.messages_take.proofs.TakenLaws.{all-wide}

-- the rows once i bodies are taken
abbrev pub after : List ℕ → List (List ℕ) → ℕ → List (List ℕ)
after s rs i = taken_all row_rule (rows_of body_wide i s) rs

-- the i-th body
abbrev pub body : List ℕ → ℕ → List ℕ
body s i = part (i * body_wide) body_wide s

module _ (s : List ℕ) (rs : List (List ℕ)) where
  after_none : after s rs 0 ≡ rs
  unfolding rows_of taken_all
  after_none = refl

  pub after_next : (i : ℕ) → after s rs (i + 1) ≡ taken row_rule (body s i) (after s rs i)
  unfolding rows_of part
  after_next i =
      ap (λ (us : List (List ℕ)). taken_all row_rule us rs) (rows_of-append body_wide i 1 s)
      ∙ taken_all-snoc row_rule (rows_of body_wide i s) (body s i) rs

  -- rows only come
  pub after-rises : (i j : ℕ) → i ≤ j → length (after s rs i) ≤ length (after s rs j)
  after-rises i j h =
      let e : j ≡ i + (j - i) = omega arith in
      let more = rows_of body_wide (j - i) (drop (i * body_wide) s) in
      let f : after s rs j ≡ taken_all row_rule more (after s rs i) =
      ap (λ (k : ℕ). after s rs k) e ∙ ap (λ (us : List (List ℕ)). taken_all row_rule us rs) (rows_of-append body_wide i (j - i) s) ∙ taken_all-append row_rule (rows_of body_wide i s) more rs in
      rw f (length-taken_all-least row_rule more (after s rs i))

  pub after-most : (i : ℕ) → length (after s rs i) ≤ length rs + i
  after-most i = rw (length-rows_of body_wide i s) at (length-taken_all-most row_rule (rows_of body_wide i s) rs)

  -- one more body makes at most one row more
  pub after-step : (i : ℕ) → length (after s rs (i + 1)) ≤ length (after s rs i) + 1
  after-step i = rw after_next (omega (arith, length-taken-most row_rule (body s i) (after s rs i)))

  pub after-wide : (i : ℕ) → i * body_wide ≤ length s → Wide row_wide rs → Wide row_wide (after s rs i)
  after-wide i h k = all-wide (rows_of body_wide i s) rs (wide-rows_of body_wide i s h) k

-- after i turns the count and the bytes are those of the rows that the first i bodies make
pub record Taking (s t₀ : List ℕ) (n i count : ℕ) (t : List ℕ) : Type 0 where
  pub counted : count ≡ length (after s (rows_of row_wide n t₀) i)
  pub stored : t ≡ store row_wide n (after s (rows_of row_wide n t₀) i) t₀

module _ (s t₀ : List ℕ) (n : ℕ) (fits : n * row_wide ≤ length t₀) where
  abbrev rs₀ : List (List ℕ)
  rs₀ = rows_of row_wide n t₀

  pub taking-start : Taking s t₀ n 0 n t₀
  taking-start = record {
    counted = sym (rw (after_none s rs₀) (length-rows_of row_wide n t₀));
    stored = sym (rw (after_none s rs₀) (store_same row_wide n t₀));
  }

  pub taking-length : (i count : ℕ) (t : List ℕ) → Taking s t₀ n i count t → length t ≡ length t₀
  taking-length i count t l = ap length l.stored ∙ length-store row_wide n (after s rs₀ i) t₀

  pub taking-end : (i m count : ℕ) (t : List ℕ) → i ≡ m → Taking s t₀ n i count t → (count ≡ length (after s rs₀ m)) × (t ≡ store row_wide n (after s rs₀ m) t₀)
  taking-end i m count t e l = (rw e at l.counted, rw e at l.stored)

  module _ (i count : ℕ) (t : List ℕ) (l : Taking s t₀ n i count t) (there : i * body_wide + body_wide ≤ length s) (room : length (after s rs₀ (i + 1)) * row_wide ≤ length t₀) where
    abbrev rs : List (List ℕ)
    rs = after s rs₀ i

    wide : Wide row_wide rs
    wide = after-wide s rs₀ i (omega arith) (wide-rows_of row_wide n t₀ fits)

    room-now : length rs * row_wide ≤ length t₀
    room-now = omega (arith, after-rises s rs₀ i (i + 1) (omega arith))

    -- the rows are read back
    rows-now : rows_of row_wide count t ≡ rs
    rows-now =
        ap (λ (k : ℕ). rows_of row_wide k t) l.counted
        ∙ ap (λ (d : List ℕ). rows_of row_wide (length rs) d) l.stored
        ∙ rows_of-store row_wide n rs t₀ wide room-now

    -- what `take_row` asks for
    pub taking-asked :
        sorted_rows rs₀ ≡ true
        → ((count * row_wide ≤ length t) × (i * body_wide + body_wide ≤ length s))
        × ((sorted_rows (rows_of row_wide count t) ≡ true) × (length (taken row_rule (body s i) (rows_of row_wide count t)) * row_wide ≤ length t))
    taking-asked h =
        let same = taking-length i count t l in (
          (rw (l.counted, same) room-now, there),
          (rw rows-now (sorted-taken_all row_rule (rows_of body_wide i s) rs₀ h), rw (rows-now, ← (after_next s rs₀ i), same) room),
        )

    pub taking-next :
        (count' : ℕ) (t' : List ℕ)
        → count' ≡ length (taken row_rule (body s i) (rows_of row_wide count t))
        → t' ≡ store row_wide count (taken row_rule (body s i) (rows_of row_wide count t)) t
        → Taking s t₀ n (i + 1) count' t'
    taking-next count' t' e f =
        let q : taken row_rule (body s i) (rows_of row_wide count t) ≡ after s rs₀ (i + 1) = rw rows-now (sym (after_next s rs₀ i)) in
        let a : n ≤ length rs = rw (length-rows_of row_wide n t₀) at (length-taken_all-least row_rule (rows_of body_wide i s) rs₀) in
        let b : length rs ≤ length (after s rs₀ (i + 1)) = after-rises s rs₀ i (i + 1) (omega arith) in
        let w : Wide row_wide (after s rs₀ (i + 1)) = after-wide s rs₀ (i + 1) (omega arith) (wide-rows_of row_wide n t₀ fits) in
        record {
          counted = e ∙ ap length q;
          stored =
              f
              ∙ ap (λ (r : List (List ℕ)). store row_wide count r t) q
              ∙ ap (λ (k : ℕ). store row_wide k (after s rs₀ (i + 1)) t) l.counted
              ∙ ap (λ (d : List ℕ). store row_wide (length rs) (after s rs₀ (i + 1)) d) l.stored
              ∙ store-grows row_wide n rs (after s rs₀ (i + 1)) t₀ wide w a b;
        }
