use Prim.Native.Nat.{ℕ, zero, suc, ◌+◌, ◌*◌, ◌/◌, ◌≤◌, ◌<◌}
use native.Mathlib.Omega.{arith}
use native.Mathlib.Nat.{le-div_iff_mul-le}
use mathlib.Core.Path.{◌≡◌, refl, sym, ap, ◌∙◌}
use mathlib.Core.Bool.{Bool, true, false, not, ◌&&◌}
use mathlib.Core.List.{List, [], ◌∷◌}
use borrow.Author.Tests.{not-false, le-leb}
use lib.Dec.{leb}
use lib.ListN.{length, get_or}
use Rattle.std.specs.Prelude.{Ok, Err}
use Rattle.lists.specs.Logic.{on}
use Rattle.lists.specs.Part.{part}
use Rattle.lists.proofs.LogicLaws.{and-false, and-pass, or-fail}
use Rattle.lists.proofs.RowLaws.{length-rows_of, row-at}
use Rattle.passage.specs.Layout.{body_wide, owner_of}
use Rattle.passage.specs.Ranges.{update_in_range}
use Rattle.columns.specs.Tables.{is_form}
use Rattle.register.specs.Register.{grants}
use Rattle.feeds.specs.Kept.{feed_of, is_begun}
use Rattle.calls.specs.declared.Refusal.TheVariants.{Unsound, Owner}
use Rattle.calls.specs.declared.Counts.{Counts}
use Rattle.calls.specs.Message.{message_sound, taken_by}
use Rattle.calls.specs.End.{least, staged_rows, all_in_range, any_denied, most_rows, end_sound, reading_kept, post_answer, end_answer, end_leaves, cleared}
use Rattle.feeds_whole.specs.Claims.{NeverBegun, AcceptedEndClears, Staged, RowsOutOfRange, Unregistered}
use Rattle.feeds_whole.proofs.PartLaws.{fed-never}

-- The end, of any bytes and numbers whatever. Assumes nothing.

-- ---- 1

unsound : (register staging book table kept : List ℕ) (c : Counts) → end_sound register staging book table c kept ≡ false → end_answer register staging book table c kept ≡ Err Unsound
unfolding end_answer
unsound register staging book table kept c e = rw e refl

never-sound : (register staging book table kept : List ℕ) (c : Counts) → is_begun kept ≡ false → end_sound register staging book table c kept ≡ false
unfolding end_sound
never-sound register staging book table kept c e =
    ap (λ (b : Bool). message_sound register book table c && (b && (leb (feed_of kept).lines.rows most_rows && all_in_range (staged_rows staging (feed_of kept))))) e
    ∙ and-false (message_sound register book table c)

range-sound : (register staging book table kept : List ℕ) (c : Counts) → all_in_range (staged_rows staging (feed_of kept)) ≡ false → end_sound register staging book table c kept ≡ false
unfolding end_sound
range-sound register staging book table kept c e =
    ap (λ (b : Bool). message_sound register book table c && (is_begun kept && (leb (feed_of kept).lines.rows most_rows && b))) e
    ∙ ap (λ (b : Bool). message_sound register book table c && (is_begun kept && b)) (and-false (leb (feed_of kept).lines.rows most_rows))
    ∙ ap (λ (b : Bool). message_sound register book table c && b) (and-false (is_begun kept))
    ∙ and-false (message_sound register book table c)

pub never-begun : NeverBegun
unfolding end_leaves taken_by
never-begun register staging book table line kept part c e =
    let a = unsound register staging book table kept c (never-sound register staging book table kept c e) in
    (rw a, rw a, rw a, rw a, fed-never part register staging line kept e)

cleared-begun : is_begun cleared ≡ false
unfolding is_begun
cleared-begun = refl

pub accepted-clears : AcceptedEndClears
unfolding end_leaves
accepted-clears = (λ register staging book table kept c e. rw e, cleared-begun)

-- ---- a staged row

least_above : (i a b : ℕ) → i < a → i < b → i < least a b
least_above i a b h k = go (leb a b)
  where
    go : (t : Bool) → i < on t a b
    go true = h
    go false = k

-- row i of the staging area is the row i of the staged ones
staged-at : (staging kept : List ℕ) (i : ℕ) → Staged staging kept i
    → (i < length (staged_rows staging (feed_of kept))) × (get_or (staged_rows staging (feed_of kept)) i [] ≡ part (i * body_wide) body_wide staging)
unfolding staged_rows
staged-at staging kept i s =
    let room : i + 1 ≤ length staging / body_wide = (le-div_iff_mul-le {k = body_wide} (omega arith)).1 s.lies in
    let k : i < least (feed_of kept).staged (length staging / body_wide) = least_above i (feed_of kept).staged (length staging / body_wide) s.counted (omega arith) in
    let n = length-rows_of body_wide (least (feed_of kept).staged (length staging / body_wide)) staging in
    (omega (arith, k, n), row-at body_wide (least (feed_of kept).staged (length staging / body_wide)) i staging k)

range_at : (rs : List (List ℕ)) (i : ℕ) → i < length rs → all_in_range rs ≡ true → update_in_range (get_or rs i []) ≡ true
unfolding all_in_range
range_at [] i h e = absurd (omega arith)
range_at (r ∷ rs) zero h e = (and-pass (update_in_range r) (all_in_range rs) e).0
range_at (r ∷ rs) (suc i) h e = range_at rs i (omega arith) (and-pass (update_in_range r) (all_in_range rs) e).1

granted-at : (register : List ℕ) (sender : ℕ) (rs : List (List ℕ)) (i : ℕ) → i < length rs → any_denied register sender rs ≡ false → grants register sender (owner_of (get_or rs i [])) ≡ true
unfolding any_denied
granted-at register sender [] i h e = absurd (omega arith)
granted-at register sender (r ∷ rs) zero h e = not-false _ (or-fail (not (grants register sender (owner_of r))) (any_denied register sender rs) e).0
granted-at register sender (r ∷ rs) (suc i) h e = granted-at register sender rs i (omega arith) (or-fail (not (grants register sender (owner_of r))) (any_denied register sender rs) e).1

pub rows-out-of-range : RowsOutOfRange
rows-out-of-range register staging book table kept c i s e = go (all_in_range (staged_rows staging (feed_of kept))) refl
  where
    go : (b : Bool) → all_in_range (staged_rows staging (feed_of kept)) ≡ b → end_answer register staging book table c kept ≡ Err Unsound
    go true h =
        let k = staged-at staging kept i s in
        let m : true ≡ false = sym (range_at (staged_rows staging (feed_of kept)) i k.0 h) ∙ ap update_in_range k.1 ∙ e in
        absurd (let z : ◌≡◌ {A = ℕ} 0 1 = cc in omega arith)
    go false h = unsound register staging book table kept c (range-sound register staging book table kept c h)

denied-post : (register staging book table kept : List ℕ) (c : Counts) (n : ℕ) → end_sound register staging book table c kept ≡ true → is_form (feed_of kept).form ≡ true → reading_kept (feed_of kept) ≡ Ok n
    → any_denied register (feed_of kept).sender (staged_rows staging (feed_of kept)) ≡ true → end_answer register staging book table c kept ≡ Err (Owner 0)
unfolding end_answer post_answer
denied-post register staging book table kept c n s o r d = rw (s, o, r, d) refl

pub unregistered : Unregistered
unregistered register staging book table kept c n i sound known reading s e = go (any_denied register (feed_of kept).sender (staged_rows staging (feed_of kept))) refl
  where
    go : (b : Bool) → any_denied register (feed_of kept).sender (staged_rows staging (feed_of kept)) ≡ b → end_answer register staging book table c kept ≡ Err (Owner 0)
    go true h = denied-post register staging book table kept c n sound (le-leb _ _ known) reading h
    go false h =
        let k = staged-at staging kept i s in
        let m : true ≡ false =
        sym (granted-at register (feed_of kept).sender (staged_rows staging (feed_of kept)) i k.0 h) ∙ ap (λ (r : List ℕ). grants register (feed_of kept).sender (owner_of r)) k.1 ∙ e in
        absurd (let z : ◌≡◌ {A = ℕ} 0 1 = cc in omega arith)
