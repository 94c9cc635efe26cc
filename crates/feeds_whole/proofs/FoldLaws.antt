use Prim.Native.Nat.{ℕ, ◌+◌, ◌*◌, ◌/◌, ◌≤◌, ◌<◌}
use native.Mathlib.Omega.{arith}
use native.Mathlib.Nat.{le-div_iff_mul-le}
use native.Mathlib.Numerals.{add-one}
use mathlib.Core.Path.{◌≡◌, refl, sym, ap, subst, ◌∙◌}
use mathlib.Core.Bool.{Bool, true, false, ◌&&◌}
use mathlib.Core.List.{List, [], ◌∷◌}
use borrow.Author.Tests.{le-ltb, le-leb, leb-true, leb-false, ltb-true, ltb-false, eq-eqb, ne_eqb, eqb-true, eqb-false}
use lib.Dec.{eqb, leb, ltb}
use lib.ListN.{length, length-append}
use Rattle.std.specs.Prelude.{Err}
use Rattle.lists.specs.Logic.{on}
use Rattle.lists.proofs.LogicLaws.{and-false}
use Rattle.lists.proofs.OverLaws.{length_over}
use Rattle.turbo_lines.specs.declared.Mark.{Mark}
use Rattle.turbo_lines.specs.declared.Mark.TheVariants as Marks
use Rattle.turbo.specs.Split.{fields}
use Rattle.turbo_lines.specs.Lines.{is_long, first_long, short_front, mark_of, after_mark}
use Rattle.turbo_lines.proofs.LongLaws.{long-here, long-later, long-none, front_ends, front-more, front-none}
use Rattle.columns.specs.declared.Table.{Table}
use Rattle.columns.specs.Tables.{row_width}
use Rattle.rows.specs.declared.Shape.{Shape}
use Rattle.std.specs.Prelude.{Result, Ok, Err}
use Rattle.rows.specs.Shape.{shape_of}
use Rattle.rows.specs.Reading.{read_by}
use Rattle.register.specs.Register.{may_send}
use Rattle.reader_step.specs.declared.State.{State}
use Rattle.reader_step.specs.declared.Place.TheVariants.{Outside}
use Rattle.reader_step.specs.Place.{is_awaiting, is_under}
use Rattle.reader_step.specs.Step.{moved, misformed, labelled, mistyped, disowned, one_row_more, row_step, data_step, label_step, step_at, step_by, line_step, line_staged}
use Rattle.reader_step.proofs.StepLaws.{line-counted}
use Rattle.reader_step.proofs.WidthLaws.{width_some}
use Rattle.reader.specs.declared.Fault.TheVariants.{Form}
use Rattle.reader.specs.Items.{outside, items}
use Rattle.reader.specs.Rules.{answer_to}
use Rattle.reader.specs.Staging.{rows_up_to, laid}
use Rattle.reader.specs.inner.Settled.{answered_by}
use Rattle.reader.proofs.FoldLaws.{clean}
use Rattle.reader.proofs.ReadLaws.{line_reads, line-fronts}
use Rattle.reader.proofs.LinesLaws.{Reading, reading-start, reading-turn, reading-ends, reading-done, reading-length}
use Rattle.feeds.specs.Feed.{row_stays}
use Rattle.feeds.specs.Kept.{no_lines}
use Rattle.calls.specs.End.{least}
use Rattle.feeds_whole.proofs.ByteLaws.{Core, passed, stepped, line_on, lines_on}

-- A feed line by line: what is kept of the lines answers as the lines do. Assumes nothing.

-- ---- a line

-- n is s with a line more, which counts as a row only where all before it was right
record More (s n : State) : Type 0 where
  line : n.line ≡ s.line + 1
  low : s.rows ≤ n.rows
  high : n.rows ≤ s.rows + 1
  right : s.rows < n.rows → (n.form ≡ 0) × (clean n ≡ true)

plain : (s n : State) → n.line ≡ s.line + 1 → n.rows ≡ s.rows → More s n
plain s n l r = record { line = l; low = omega arith; high = omega arith; right = λ h. absurd (omega arith) }

on-more : (s x y : State) (b : Bool) → (b ≡ true → More s x) → More s y → More s (on b x y)
on-more s x y true p q = p refl
on-more s x y false p q = q

sent-more : (s : State) → s.form ≡ 0 → s.wrong ≡ 0 → s.owner ≡ 0 → More s (one_row_more s)
sent-more s f w o = record { line = refl; low = omega arith; high = omega arith; right = λ h. (f, rw (w, o) refl) }

row_more : (t : Table) (register : List ℕ) (sender : ℕ) (s : State) (r : Result (List ℕ) ℕ) → s.form ≡ 0 → s.wrong ≡ 0 → More s (row_step t register sender s r)
unfolding row_step
row_more t register sender s (Ok row) f w =
    on-more s _ (moved s s.place) (eqb s.owner 0)
    (λ o. on-more s (one_row_more s) (disowned s) (may_send t register sender row) (λ m. sent-more s f w (eqb-true _ _ o)) (plain s (disowned s) refl refl))
    (plain s (moved s s.place) refl refl)
row_more t register sender s (Err c) f w = plain s (mistyped s c) refl refl

data-more : (t : Table) (register : List ℕ) (sender : ℕ) (s : State) (l : List ℕ) → s.form ≡ 0 → More s (data_step t register sender s l)
unfolding data_step
data-more t register sender s l f =
    on-more s _ (misformed s) (eqb (length (fields l)) s.shape.count)
    (λ a. on-more s (row_step t register sender s (read_by t s.shape l)) (moved s s.place) (eqb s.wrong 0)
    (λ w. row_more t register sender s (read_by t s.shape l) f (eqb-true _ _ w))
    (plain s (moved s s.place) refl refl))
    (plain s (misformed s) refl refl)

label-more : (s : State) (h : Shape) → More s (label_step s h)
unfolding label_step
label-more s h = on-more s (misformed s) (labelled s h) h.fault (λ e. plain s (misformed s) refl refl) (plain s (labelled s h) refl refl)

mark-more : (t : Table) (register : List ℕ) (sender : ℕ) (s : State) (l : List ℕ) (m : Mark) → s.form ≡ 0 → More s (step_at t register sender s l m)
mark-more t register sender s l Marks.Group f = plain s (moved s Outside) refl refl
mark-more t register sender s l Marks.Table f = plain s _ refl refl
mark-more t register sender s l Marks.Labels f =
    on-more s (label_step s (shape_of t (fields (after_mark l)))) (moved s Outside) (is_awaiting s.place) (λ e. label-more s (shape_of t (fields (after_mark l)))) (plain s (moved s Outside) refl refl)
mark-more t register sender s l Marks.Data f =
    on-more s (data_step t register sender s l) (moved s s.place) (is_under s.place) (λ e. data-more t register sender s l f) (plain s (moved s s.place) refl refl)

step-more : (t : Table) (register : List ℕ) (sender : ℕ) (s : State) (l : List ℕ) → s.form ≡ 0 → More s (step_by t register sender s l)
unfolding step_by
step-more t register sender s l f = mark-more t register sender s l (mark_of l) f

line-more : (t : Table) (register : List ℕ) (sender : ℕ) (s : State) (l : List ℕ) → More s (line_step t register sender s l)
unfolding line_step
line-more t register sender s l =
    on-more s (step_by t register sender s l) (moved s s.place) (eqb s.form 0) (λ f. step-more t register sender s l (eqb-true _ _ f)) (plain s (moved s s.place) refl refl)

-- ---- how many rows are staged

pub least-low : (a b : ℕ) → a ≤ b → least a b ≡ a
least-low a b h = rw (le-leb a b h) refl

pub least-high : (a b : ℕ) → b ≤ a → least a b ≡ b
least-high a b h = go (leb a b) refl
  where
    go : (t : Bool) → leb a b ≡ t → on t a b ≡ b
    go true e = let k : a ≤ b = leb-true a b e in omega arith
    go false e = refl

-- s rows were read and n are now; of room for cap rows, as many are staged as fit
staged-more : (s n staged w area : ℕ) → 0 < w → staged ≡ least s (area / w) → s ≤ n → n ≤ s + 1
    → on (ltb s n && (eqb staged s && leb (n * w) area)) (staged + 1) staged ≡ least n (area / w)
staged-more s n staged w area some e low high = go (ltb s n) (leb (n * w) area) refl refl
  where
    go : (a c : Bool) → ltb s n ≡ a → leb (n * w) area ≡ c → on (a && (eqb staged s && c)) (staged + 1) staged ≡ least n (area / w)
    go false c p q = let k : n ≤ s = ltb-false s n p in let z : s ≡ n = omega arith in e ∙ ap (λ (i : ℕ). least i (area / w)) z
    go true true p q =
        let k : s < n = ltb-true s n p in
        let f : n ≤ area / w = (le-div_iff_mul-le some).1 (leb-true (n * w) area q) in
        let z : staged ≡ s = e ∙ least-low s (area / w) (omega arith) in
        rw (eq-eqb staged s z) (let m : staged + 1 ≡ n = omega arith in m ∙ sym (least-low n (area / w) f))
    go true false p q =
        let k : s < n = ltb-true s n p in
        let f : area / w < n = not-most (area / w) n (λ h. let g : area < n * w = leb-false (n * w) area q in let m : n * w ≤ area = (le-div_iff_mul-le some).0 h in omega arith) in
        ap (λ (t : Bool). on t (staged + 1) staged) (and-false (eqb staged s)) ∙ e ∙ least-high s (area / w) (omega arith) ∙ sym (least-high n (area / w) (omega arith))
      where
        not-most : (a b : ℕ) → (b ≤ a → ⊥) → a < b
        not-most a b h = omega arith

-- ---- the lines, one after the other

module _ (t : Table) (register : List ℕ) (sender : ℕ) where
  line-passed : (c : Core) (l : List ℕ) → (c.long ≡ 0 → ⊥) → line_on t register sender c l ≡ passed c.long c
  unfolding line_on
  line-passed c l h = rw (ne_eqb c.long 0 h) refl

  line-long : (c : Core) (l : List ℕ) → c.long ≡ 0 → is_long l ≡ true → line_on t register sender c l ≡ passed c.lines.line c
  unfolding line_on
  line-long c l h e = rw (eq-eqb c.long 0 h, e) refl

  line_read : (c : Core) (l : List ℕ) → c.long ≡ 0 → is_long l ≡ false → line_on t register sender c l ≡ stepped t register sender l c
  unfolding line_on
  line_read c l h e = rw (eq-eqb c.long 0 h, e) refl

  -- by what is kept of the lines, and the area
  abbrev made : Core → State → List ℕ → Core
  made c n area = record { long = c.long; staged = on (row_stays t c.lines n c.staged c.staging) (c.staged + 1) c.staged; lines = n; staging = area }

  made-passed : (c : Core) → made c (moved c.lines c.lines.place) c.staging ≡ passed c.long c
  made-passed c = rw (le-ltb c.lines.rows c.lines.rows (omega arith)) refl

  -- behind a fault of form a line is only counted
  form-passed : (c : Core) (l : List ℕ) → (c.lines.form ≡ 0 → ⊥) → stepped t register sender l c ≡ passed c.long c
  form-passed c l h =
      let k = line-counted t register sender c.lines l c.staging h in
      ap (λ (n : State). made c n (line_staged t register sender c.lines l c.staging)) (sym k.0)
      ∙ ap (made c (moved c.lines c.lines.place)) (sym k.1)
      ∙ made-passed c

  lines_none : (c : Core) → lines_on t register sender c [] ≡ c
  unfolding lines_on
  lines_none c = refl

  lines-first : (c : Core) (l : List ℕ) (ls : List (List ℕ)) → lines_on t register sender c (l ∷ ls) ≡ lines_on t register sender (line_on t register sender c l) ls
  unfolding lines_on
  lines-first c l ls = refl

  module _ (all_lines : List (List ℕ)) (st₀ : List ℕ) where
    abbrev rows : List (List ℕ)
    rows = rows_up_to t register sender (items t outside 1 all_lines)

    -- what holds after each line
    record Good (c : Core) : Type 0 where
      staged : c.staged ≡ least c.lines.rows (length st₀ / row_width t)
      few : c.lines.rows ≤ length rows
      area : length c.staging ≡ length st₀
      from : 1 ≤ c.lines.line

    -- once all lines came, of which the first too long has the number `first`
    pub record Final (first : ℕ) (c : Core) : Type 0 where
      pub long : c.long ≡ first
      pub staging : c.staging ≡ laid t rows st₀
      pub answer : c.long ≡ 0 → answered_by c.lines.form c.lines.wrong c.lines.column c.lines.owner c.lines.rows ≡ answer_to t register sender (items t outside 1 all_lines)
      pub few : c.lines.rows ≤ length rows
      pub staged : c.staged ≡ least c.lines.rows (length st₀ / row_width t)

    passed-good : (long : ℕ) (c : Core) → Good c → Good (passed long c)
    passed-good long c g = record { staged = g.staged; few = g.few; area = g.area; from = omega arith }

    -- behind a line too long
    behind-long : (ls : List (List ℕ)) (c : Core) → (c.long ≡ 0 → ⊥) → Good c → c.staging ≡ laid t rows st₀ → Final c.long (lines_on t register sender c ls)
    behind-long [] c h g e =
        subst (Final c.long) (sym (lines_none c)) (record { long = refl; staging = e; answer = λ z. absurd (h z); few = g.few; staged = g.staged })
    behind-long (l ∷ ls) c h g e =
        subst (Final c.long) (sym (lines-first c l ls ∙ ap (λ (x : Core). lines_on t register sender x ls) (line-passed c l h)))
        (behind-long ls (passed c.long c) h (passed-good c.long c g) e)

    abbrev Answers : Core → Type 0
    Answers c = answered_by c.lines.form c.lines.wrong c.lines.column c.lines.owner c.lines.rows ≡ answer_to t register sender (items t outside 1 all_lines)

    -- the first line is too long
    first-long : (l : List ℕ) (ls : List (List ℕ)) (c : Core) → c.long ≡ 0 → is_long l ≡ true → Good c → c.staging ≡ laid t rows st₀
        → Final (first_long c.lines.line (l ∷ ls)) (lines_on t register sender c (l ∷ ls))
    first-long l ls c z e g a =
        let from = g.from in
        subst (λ (n : ℕ). Final n (lines_on t register sender c (l ∷ ls))) (sym (long-here c.lines.line l ls (ltb-true _ _ e)))
        (subst (Final c.lines.line) (sym (lines-first c l ls ∙ ap (λ (x : Core). lines_on t register sender x ls) (line-long c l z e)))
        (behind-long ls (passed c.lines.line c) (λ q. omega (arith, from, q)) (passed-good c.lines.line c g) a))

    -- the first line is not
    first_short : (l : List ℕ) (ls : List (List ℕ)) (c n : Core) → c.long ≡ 0 → is_long l ≡ false → stepped t register sender l c ≡ n → n.lines.line ≡ c.lines.line + 1
        → Final (first_long n.lines.line ls) (lines_on t register sender n ls) → Final (first_long c.lines.line (l ∷ ls)) (lines_on t register sender c (l ∷ ls))
    first_short l ls c n z e is next f =
        subst (λ (i : ℕ). Final i (lines_on t register sender c (l ∷ ls)))
        (ap (λ (i : ℕ). first_long i ls) (next ∙ add-one c.lines.line) ∙ sym (long-later c.lines.line l ls (ltb-false _ _ e)))
        (subst (Final (first_long n.lines.line ls)) (sym (lines-first c l ls ∙ ap (λ (x : Core). lines_on t register sender x ls) (line_read c l z e ∙ is))) f)

    -- behind a fault of form
    behind-form : (ls : List (List ℕ)) (c : Core) → c.long ≡ 0 → (c.lines.form ≡ 0 → ⊥) → Good c → c.staging ≡ laid t rows st₀ → Answers c
        → Final (first_long c.lines.line ls) (lines_on t register sender c ls)
    behind-form [] c z h g a w =
        subst (Final (first_long c.lines.line [])) (sym (lines_none c)) (record { long = z ∙ sym (long-none c.lines.line); staging = a; answer = λ q. w; few = g.few; staged = g.staged })
    behind-form (l ∷ ls) c z h g a w = go (is_long l) refl (behind-form ls (passed c.long c) z h (passed-good c.long c g) a w)
      where
        go : (b : Bool) → is_long l ≡ b → Final (first_long (c.lines.line + 1) ls) (lines_on t register sender (passed c.long c) ls)
            → Final (first_long c.lines.line (l ∷ ls)) (lines_on t register sender c (l ∷ ls))
        go true e f = first-long l ls c z e g a
        go false e f = first_short l ls c (passed c.long c) z e (form-passed c l h) refl f

    -- a line that is read
    module _ (l : List ℕ) (ls : List (List ℕ)) (c : Core) (z : c.long ≡ 0) (g : Good c) (r : Reading t register sender all_lines st₀ c.lines (l ∷ short_front ls) c.staging) where
      abbrev next : State
      next = line_step t register sender c.lines l

      abbrev area : List ℕ
      area = line_staged t register sender c.lines l c.staging

      more : More c.lines next
      more = line-more t register sender c.lines l

      stepped-good : next.rows ≤ length rows → length area ≡ length st₀ → Good (stepped t register sender l c)
      stepped-good few long =
          record {
            staged =
                staged-more c.lines.rows next.rows c.staged (row_width t) (length c.staging) (width_some t)
                (g.staged ∙ ap (λ (n : ℕ). least c.lines.rows (n / row_width t)) (sym g.area)) more.low more.high
                ∙ ap (λ (n : ℕ). least next.rows (n / row_width t)) g.area;
            few = few;
            area = long;
            from = omega (arith, more.line);
          }

      turned : next.form ≡ 0 → Reading t register sender all_lines st₀ next (short_front ls) area
      turned e = reading-turn t register sender all_lines st₀ c.lines l (short_front ls) c.staging r next refl area refl (line_reads t register sender l) (line-fronts t l) e

      -- no more rows than there are
      few-turned : (e : next.form ≡ 0) → next.rows ≤ length rows
      few-turned e = go (ltb c.lines.rows next.rows) refl
        where
          go : (b : Bool) → ltb c.lines.rows next.rows ≡ b → next.rows ≤ length rows
          go true h =
              let now = turned e in
              let k = now.count (more.right (ltb-true _ _ h)).1 in
              let m = ap length now.rows ∙ length-append now.done _ in
              omega (arith, k, m)
          go false h = let k : next.rows ≤ c.lines.rows = ltb-false _ _ h in omega (arith, k, g.few)

      few-ended : (next.form ≡ 0 → ⊥) → next.rows ≤ length rows
      few-ended h = go (ltb c.lines.rows next.rows) refl
        where
          go : (b : Bool) → ltb c.lines.rows next.rows ≡ b → next.rows ≤ length rows
          go true e = absurd (h (more.right (ltb-true _ _ e)).0)
          go false e = let k : next.rows ≤ c.lines.rows = ltb-false _ _ e in omega (arith, k, g.few)

      read-on : next.form ≡ 0 → Good (stepped t register sender l c) × Reading t register sender all_lines st₀ next (short_front ls) area
      read-on e = (stepped-good (few-turned e) (reading-length t register sender all_lines st₀ next (short_front ls) area (turned e)), turned e)

      read-ends : (next.form ≡ 0 → ⊥) → Good (stepped t register sender l c) × (area ≡ laid t rows st₀) × Answers (stepped t register sender l c)
      read-ends h =
          let k = reading-ends t register sender all_lines st₀ c.lines l (short_front ls) c.staging r next refl area refl (line_reads t register sender l) (line-fronts t l) h in
          (stepped-good (few-ended h) (ap length k.1 ∙ length_over 0 _ st₀), k.1, form-answers next h ∙ k.0)
        where
          form-answers : (s : State) → (s.form ≡ 0 → ⊥) → answered_by s.form s.wrong s.column s.owner s.rows ≡ Err (Form s.form)
          form-answers s f = rw (ne_eqb s.form 0 f) refl

    read-lines : (ls : List (List ℕ)) (c : Core) → c.long ≡ 0 → Good c → Reading t register sender all_lines st₀ c.lines (short_front ls) c.staging
        → Final (first_long c.lines.line ls) (lines_on t register sender c ls)
    read-lines [] c z g r =
        let k = reading-done t register sender all_lines st₀ c.lines c.staging (subst (λ (x : List (List ℕ)). Reading t register sender all_lines st₀ c.lines x c.staging) front-none r) in
        subst (Final (first_long c.lines.line [])) (sym (lines_none c))
        (record {
          long = z ∙ sym (long-none c.lines.line);
          staging = k.1;
          answer = λ q. ap (λ (n : ℕ). answered_by n c.lines.wrong c.lines.column c.lines.owner c.lines.rows) r.form ∙ k.0;
          few = g.few;
          staged = g.staged;
        })
    read-lines (l ∷ ls) c z g r = go (is_long l) refl (eqb (line_step t register sender c.lines l).form 0) refl (read-lines ls (stepped t register sender l c))
      where
        go : (b : Bool) → is_long l ≡ b → (f : Bool) → eqb (line_step t register sender c.lines l).form 0 ≡ f
            → (c.long ≡ 0 → Good (stepped t register sender l c)
            → Reading t register sender all_lines st₀ (line_step t register sender c.lines l) (short_front ls) (line_staged t register sender c.lines l c.staging)
            → Final (first_long (line_step t register sender c.lines l).line ls) (lines_on t register sender (stepped t register sender l c) ls))
            → Final (first_long c.lines.line (l ∷ ls)) (lines_on t register sender c (l ∷ ls))
        go true e f q ih =
            let k = reading-done t register sender all_lines st₀ c.lines c.staging
            (subst (λ (x : List (List ℕ)). Reading t register sender all_lines st₀ c.lines x c.staging) (front_ends l ls (ltb-true _ _ e)) r) in
            first-long l ls c z e g k.1
        go false e true q ih =
            let now = subst (λ (x : List (List ℕ)). Reading t register sender all_lines st₀ c.lines x c.staging) (front-more l ls (ltb-false _ _ e)) r in
            let k = read-on l ls c z g now (eqb-true _ _ q) in
            first_short l ls c (stepped t register sender l c) z e refl (line-more t register sender c.lines l).line (ih z k.0 k.1)
        go false e false q ih =
            let now = subst (λ (x : List (List ℕ)). Reading t register sender all_lines st₀ c.lines x c.staging) (front-more l ls (ltb-false _ _ e)) r in
            let k = read-ends l ls c z g now (eqb-false _ _ q) in
            first_short l ls c (stepped t register sender l c) z e refl (line-more t register sender c.lines l).line
            (behind-form ls (stepped t register sender l c) z (eqb-false _ _ q) k.0 k.1 k.2)

-- before any line
abbrev pub new_core : List ℕ → Core
new_core staging = record { long = 0; staged = 0; lines = no_lines; staging = staging }

pub lines-final : (t : Table) (register : List ℕ) (sender : ℕ) (st₀ : List ℕ) (ls : List (List ℕ)) → Final t register sender (short_front ls) st₀ (first_long 1 ls) (lines_on t register sender (new_core st₀) ls)
lines-final t register sender st₀ ls =
    read-lines t register sender (short_front ls) st₀ ls (new_core st₀) refl
    (record { staged = sym (least-low 0 (length st₀ / row_width t) (omega arith)); few = omega arith; area = refl; from = omega arith })
    (reading-start t register sender (short_front ls) st₀ no_lines (refl, refl, refl, refl, refl, refl, refl, refl))
