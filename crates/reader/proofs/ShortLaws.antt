use Prim.Native.Nat.{ℕ, suc, ◌+◌, ◌≤◌, ◌<◌}
use native.Mathlib.Omega.{arith}
use mathlib.Core.Path.{◌≡◌, refl, sym, ap, subst, ◌∙◌}
use mathlib.Core.Bool.{Bool, true, false, not}
use mathlib.Core.List.{List, [], ◌∷◌}
use borrow.Author.Tests.{eqb-true, ne_eqb}
use lib.Dec.{eqb}
use Rattle.std.specs.Prelude.{Some, None}
use Rattle.std.specs.Option.{unwrap_or}
use lib.ListN.{length, drop}
use Rattle.std.specs.Prelude.{Err}
use Rattle.lists.specs.Logic.{on}
use Rattle.turbo.specs.Split.{until, past}
use Rattle.turbo_lines.specs.Lines.{lines, long_line, first_long, short_front}
use Rattle.turbo_lines.proofs.LineLaws.{after-line-shorter}
use Rattle.turbo_lines.proofs.LongLaws.{bytes-none, bytes-long, bytes-short, long-number, line-from, none-long, front-whole}
use Rattle.columns.specs.declared.Table.{Table}
use Rattle.reader_step.specs.declared.State.{State}
use Rattle.reader_step.specs.Step.{line_step, line_staged, Fresh}
use Rattle.reader.specs.declared.Fault.TheVariants.{Long, Form}
use Rattle.reader.specs.Items.{outside, items}
use Rattle.reader.specs.Rules.{Reading as Answer, answer_to, items_of}
use Rattle.reader.specs.Staging.{rows_up_to, laid, short_items}
use Rattle.reader.specs.inner.Settled.{answered_by, unless_long, lines_answer}
use Rattle.reader.proofs.FoldLaws.{Reads}
use Rattle.reader.proofs.StageLaws.{Fronts}
use Rattle.reader.proofs.LinesLaws.{Reading, reading-start, reading-counts, reading-ends, reading-turn, reading-done, reading-length}

-- The loop over a dossier's bytes: the reading of the lines before the first that is too long, and where that stands. Assumes nothing.

-- where no line is too long, two answers that are then the same
unless-same : (long : ℕ) (x y : Answer) → (long ≡ 0 → x ≡ y) → unless_long long x ≡ unless_long long y
unless-same long x y h = go (eqb long 0) refl
  where
    go : (b : Bool) → eqb long 0 ≡ b → on (not b) (Err (Long long)) x ≡ on (not b) (Err (Long long)) y
    go true e = h (eqb-true long 0 e)
    go false e = refl

unless-long : (long : ℕ) (x : Answer) → 1 ≤ long → Err (Long long) ≡ unless_long long x
unless-long long x h = rw (ne_eqb long 0 (λ e. omega arith)) refl

-- a fault of form, where the first line that is too long is looked for behind it
pub form-long : (line long form : ℕ) (rest : List ℕ) → 1 ≤ line → long_line line (lines rest) ≡ Some long → Err (Long long) ≡ unless_long (first_long line (lines rest)) (Err (Form form))
form-long line long form rest h e =
    let k : 1 ≤ long = omega (arith, line-from line (lines rest) long e) in
    unless-long long (Err (Form form)) k ∙ ap (λ (n : ℕ). unless_long n (Err (Form form))) (sym (long-number line (lines rest) ∙ ap (λ o. unwrap_or o 0) e))

pub form-short : (line form : ℕ) (rest : List ℕ) → long_line line (lines rest) ≡ None → Err (Form form) ≡ unless_long (first_long line (lines rest)) (Err (Form form))
form-short line form rest e = ap (λ (n : ℕ). unless_long n (Err (Form form))) (sym (long-number line (lines rest) ∙ ap (λ o. unwrap_or o 0) e))

-- then its front of short lines is all of it
whole : (t : Table) (d : List ℕ) → first_long 1 (lines d) ≡ 0 → short_items t d ≡ items_of t d
whole t d e = ap (items t outside 1) (front-whole (lines d) (none-long 1 (lines d) (omega arith) e))

-- after some lines of the bytes d: s is kept of them, rest is left
pub record Going (t : Table) (register : List ℕ) (sender : ℕ) (d st₀ : List ℕ) (s : State) (rest st : List ℕ) : Type 0 where
  pub reading : Reading t register sender (short_front (lines d)) st₀ s (short_front (lines rest)) st
  pub long : first_long 1 (lines d) ≡ first_long s.line (lines rest)
  pub bytes : s.line + length rest ≤ length d + 1

module _ (t : Table) (register : List ℕ) (sender : ℕ) (d st₀ : List ℕ) where
  pub going_start : (s : State) → Fresh s → Going t register sender d st₀ s d st₀
  going_start s f =
      let e : s.line ≡ 1 = f.1 in
      record { reading = reading-start t register sender (short_front (lines d)) st₀ s f; long = ap (λ (n : ℕ). first_long n (lines d)) (sym e); bytes = omega arith }

  module _ (s : State) (rest st : List ℕ) (now : Going t register sender d st₀ s rest st) where
    abbrev Settles : Answer → List ℕ → Type 0
    Settles r area = (r ≡ lines_answer t register sender d) × (area ≡ laid t (rows_up_to t register sender (short_items t d)) st₀)

    -- nothing is left
    pub going_done : length rest ≤ 0 → Settles (answered_by 0 s.wrong s.column s.owner s.rows) st
    going_done h =
        let k = bytes-none rest s.line h in
        let z : first_long 1 (lines d) ≡ 0 = now.long ∙ k.0 in
        let r = reading-done t register sender (short_front (lines d)) st₀ s st (subst (λ (ls : List (List ℕ)). Reading t register sender (short_front (lines d)) st₀ s ls st) k.1 now.reading) in
        (r.0 ∙ ap (answer_to t register sender) (whole t d z) ∙ sym (ap (λ (n : ℕ). unless_long n (answer_to t register sender (items_of t d))) z), r.1)

    module _ (some : 0 < length rest) (size : ℕ) (is : size ≡ length (until 13 rest)) where
      -- a line that is too long
      pub going-long : 4094 < size → Settles (Err (Long s.line)) st
      going-long h =
          let k = bytes-long rest some size is s.line h in
          let z : first_long 1 (lines d) ≡ s.line = now.long ∙ k.0 in
          let r = reading-done t register sender (short_front (lines d)) st₀ s st (subst (λ (ls : List (List ℕ)). Reading t register sender (short_front (lines d)) st₀ s ls st) k.1 now.reading) in
          (unless-long s.line (answer_to t register sender (items_of t d)) now.reading.from ∙ ap (λ (n : ℕ). unless_long n (answer_to t register sender (items_of t d))) (sym z), r.1)

      -- or one that is read
      module _ (short : size ≤ 4094) (l : List ℕ) (line : l ≡ until 13 rest) (rest' : List ℕ) (after-it : rest' ≡ drop 1 (past 13 rest))
          (n : State) (line-step : n ≡ line_step t register sender s l) (st' : List ℕ) (line-staged : st' ≡ line_staged t register sender s l st)
          (reads : Reads t register sender l) (fronts : Fronts t l) where
        next : Reading t register sender (short_front (lines d)) st₀ s (l ∷ short_front (lines rest')) st
        next =
            subst (λ (ls : List (List ℕ)). Reading t register sender (short_front (lines d)) st₀ s ls st)
            ((bytes-short rest some size is s.line rest' short after-it).1 ∙ ap (λ (x : List ℕ). x ∷ short_front (lines rest')) (sym line)) now.reading

        counts : n.line ≡ suc s.line
        counts = reading-counts t register sender (short_front (lines d)) st₀ s l (short_front (lines rest')) st next n line-step st' line-staged reads fronts

        later : first_long 1 (lines d) ≡ first_long n.line (lines rest')
        later = now.long ∙ (bytes-short rest some size is s.line rest' short after-it).0 ∙ ap (λ (i : ℕ). first_long i (lines rest')) (sym counts)

        pub going-fewer : (1 ≤ n.line) × (n.line + length rest' ≤ length d + 1)
        going-fewer = (omega (arith, counts), omega (arith, counts, now.bytes, ap length after-it, after-line-shorter rest some))

        -- with a fault of form: what is too long behind it goes before it
        pub going-ends : (n.form ≡ 0 → ⊥) → (r : Answer) → r ≡ unless_long (first_long n.line (lines rest')) (Err (Form n.form)) → Settles r st'
        going-ends h r e =
            let k = reading-ends t register sender (short_front (lines d)) st₀ s l (short_front (lines rest')) st next n line-step st' line-staged reads fronts h in (
              e
                  ∙ ap (λ (i : ℕ). unless_long i (Err (Form n.form))) (sym later)
                  ∙ unless-same (first_long 1 (lines d)) (Err (Form n.form)) (answer_to t register sender (items_of t d)) (λ z. k.0 ∙ ap (answer_to t register sender) (whole t d z)),
              k.1,
            )

        -- else it goes on
        pub going_on : n.form ≡ 0 → Going t register sender d st₀ n rest' st'
        going_on h =
            record {
              reading = reading-turn t register sender (short_front (lines d)) st₀ s l (short_front (lines rest')) st next n line-step st' line-staged reads fronts h;
              long = later;
              bytes = going-fewer.1;
            }

-- the staging area keeps its length
pub going-length : (t : Table) (register : List ℕ) (sender : ℕ) (d st₀ : List ℕ) (s : State) (rest st : List ℕ) → Going t register sender d st₀ s rest st → length st ≡ length st₀
going-length t register sender d st₀ s rest st now = reading-length t register sender (short_front (lines d)) st₀ s (short_front (lines rest)) st now.reading
