-- The claims of `specs/Claims.antt` hold. Assumes nothing.
use mathlib.Core.Path.{◌≡◌, refl, sym, ap, ◌∙◌}
use mathlib.Core.Bool.{Bool, true, false, not, ◌&&◌, ◌||◌}
use mathlib.Core.List.{List, [], ◌∷◌}
use mathlib.Core.Logic.{◌⊎◌, inl, inr, ⊎_elim}
use Prim.Native.Nat.{ℕ, ◌+◌, ◌≤◌, ◌<◌}
use native.Mathlib.Omega.{arith}
use borrow.Author.Tests.{eqb-true, eqb-false, eq-eqb, ne_eqb, not-true}
use lib.Dec.{eqb}
use lib.ListN.{length, take, get_or}
use lib.Seq.{take_all, length-take-le, get_or-take}
use Rattle.lists.specs.Logic.{on, within}
use Rattle.lists.specs.Part.{over}
use Rattle.lists.specs.Text.{same}
use Rattle.lists.proofs.LogicLaws.{and-pass, all_pass, or-pass, pass-or, within-true, in-range}
use Rattle.lists.proofs.TextLaws.{same-equal, same_refl}
use Rattle.lists.proofs.OverLaws.{get_d_after}
use Rattle.lists.proofs.RowLaws.{row-at, length-rows_of}
use Rattle.texts.specs.Texts.{padded}
use Rattle.passage.specs.Layout.{owner_of, fortify_of, stop_of, status_of, stop_type_of, show_cancelled_of, flexible_of, monitored_of, heard_of, row_wide}
use Rattle.table.specs.Rules.{rows}
use Rattle.board_show.specs.Ask.{Question, now_of, end_of}
use Rattle.board_show.specs.Show.{departs, at_stop, cancel_shown, flexible_shown, relief_shown, may_show, shows}
use Rattle.board.specs.Rules.{moment_in, listed, board_of, Board, board_leaves}
use Rattle.board.specs.Claims.{All, ShowFacts, ShowsExactly, ListsExactly, InOrder, PlacesRiseAsKeys, CutOnlyWhereFull, RefusesExactly, times, row_at}
use Rattle.board.proofs.FirstLaws.{keys-rise}
use Rattle.board.proofs.PassLaws.{cut_most, front-part}
use Rattle.board.proofs.BoardLaws.{unsound, out_of_range, listed-all, numbers-due}
use Rattle.board.proofs.OrderLaws.{Before, listed-once, listed-never, listed-ordered, listed_below}

-- ---- which rows

module _ (q : Question) (r : List ℕ) where
  cancel-facts : cancel_shown r ≡ true → status_of r ≡ 1 → show_cancelled_of r ≡ 1
  cancel-facts e s =
      ⊎_elim
      (λ f. absurd (eqb-false (status_of r) 1 (not-true (eqb (status_of r) 1) f) s))
      (λ f. eqb-true (show_cancelled_of r) 1 f)
      (or-pass (not (eqb (status_of r) 1)) (eqb (show_cancelled_of r) 1) e)

  facts-cancel : (status_of r ≡ 1 → show_cancelled_of r ≡ 1) → cancel_shown r ≡ true
  facts-cancel f = go (eqb (status_of r) 1) refl
    where
      go : (b : Bool) → eqb (status_of r) 1 ≡ b → (not b || eqb (show_cancelled_of r) 1) ≡ true
      go true e = eq-eqb (show_cancelled_of r) 1 (f (eqb-true (status_of r) 1 e))
      go false e = refl

  flexible-facts : flexible_shown r ≡ true → (flexible_of r ≤ 1) ⊎ ((flexible_of r ≡ 3) × (monitored_of r ≡ 1))
  flexible-facts e =
      ⊎_elim
      (λ f. inl (within-true 0 1 (flexible_of r) f).1)
      (λ f. let h = and-pass (eqb (flexible_of r) 3) (eqb (monitored_of r) 1) f in inr (eqb-true _ _ h.0, eqb-true _ _ h.1))
      (or-pass (within 0 1 (flexible_of r)) (eqb (flexible_of r) 3 && eqb (monitored_of r) 1) e)

  facts-flexible : (flexible_of r ≤ 1) ⊎ ((flexible_of r ≡ 3) × (monitored_of r ≡ 1)) → flexible_shown r ≡ true
  facts-flexible f =
      pass-or (within 0 1 (flexible_of r)) (eqb (flexible_of r) 3 && eqb (monitored_of r) 1)
      (⊎_elim
      (λ h. inl (in-range 0 1 (flexible_of r) (omega arith) h))
      (λ h. inr (rw (eq-eqb (flexible_of r) 3 h.0, eq-eqb (monitored_of r) 1 h.1)))
      f)

  relief-facts : relief_shown r ≡ true → (fortify_of r ≡ 0) ⊎ (heard_of r ≡ 1)
  relief-facts e = ⊎_elim (λ f. inl (eqb-true _ _ f)) (λ f. inr (eqb-true _ _ f)) (or-pass (eqb (fortify_of r) 0) (eqb (heard_of r) 1) e)

  facts-relief : (fortify_of r ≡ 0) ⊎ (heard_of r ≡ 1) → relief_shown r ≡ true
  facts-relief f =
      pass-or (eqb (fortify_of r) 0) (eqb (heard_of r) 1)
      (⊎_elim (λ h. inl (eq-eqb (fortify_of r) 0 h)) (λ h. inr (eq-eqb (heard_of r) 1 h)) f)

  show-facts : shows q r ≡ true → ShowFacts q r
  unfolding shows at_stop may_show
  show-facts e =
      let p = and-pass (at_stop q r) (may_show (now_of q) (end_of q) r) e in
      let w = and-pass (same (owner_of r) (padded q.owner)) (same (stop_of r) (padded q.stop)) p.0 in
      let a =
      all_pass (not (eqb (stop_type_of r) 2))
      (not (eqb (status_of r) 5) ∷ within (now_of q).0 (end_of q).0 (departs r).0 ∷ cancel_shown r ∷ flexible_shown r ∷ relief_shown r ∷ [])
      p.1 in
      let t = within-true (now_of q).0 (end_of q).0 (departs r).0 (a 2) in
      record {
        owner-equal = same-equal _ _ w.0;
        stop-equal = same-equal _ _ w.1;
        not_last = eqb-false (stop_type_of r) 2 (not-true _ (a 0));
        not-passed = eqb-false (status_of r) 5 (not-true _ (a 1));
        from-now = t.0;
        to-horizon = t.1;
        cancel-shown = cancel-facts (a 3);
        flexible-shown = flexible-facts (a 4);
        relief-heard = relief-facts (a 5);
      }

  facts-show : ShowFacts q r → shows q r ≡ true
  unfolding shows at_stop may_show
  facts-show f =
      rw (
        f.owner-equal,
        same_refl (padded q.owner),
        f.stop-equal,
        same_refl (padded q.stop),
        ne_eqb (stop_type_of r) 2 f.not_last,
        ne_eqb (status_of r) 5 f.not-passed,
        in-range (now_of q).0 (end_of q).0 (departs r).0 f.from-now f.to-horizon,
        facts-cancel f.cancel-shown,
        facts-flexible f.flexible-shown,
      )
      (facts-relief f.relief-heard)

shows-exactly : ShowsExactly
shows-exactly q r = (show-facts q r, facts-show q r)

module _ (q : Question) (table : List ℕ) (n : ℕ) where
  wide : length (rows n table) ≡ n
  wide = length-rows_of row_wide n table

  once : (i : ℕ) → i < n → times i (board_of q table n) ≡ on (shows q (row_at table i)) 1 0
  unfolding board_of listed
  once i h =
      listed-once (shows q) (moment_in (rows n table)) i (rows n table) (rw wide h)
      ∙ ap (λ (r : List ℕ). on (shows q r) 1 0) (row-at row_wide n i table h)

  never : (i : ℕ) → n ≤ i → times i (board_of q table n) ≡ 0
  unfolding board_of listed
  never i h = listed-never (shows q) (moment_in (rows n table)) i (rows n table) (rw wide h)

  order : (k : ℕ)
      → let l = board_of q table n in
      k + 1 < length l → Before (moment_in (rows n table)) (get_or l k 0) (get_or l (k + 1) 0)
  unfolding board_of listed
  order k h = listed-ordered (moment_in (rows n table)) (shows q) (rows n table) k h

  below : (k : ℕ)
      → let l = board_of q table n in
      k < length l → get_or l k 0 < n
  unfolding board_of listed
  below k h = rw wide at (listed_below (moment_in (rows n table)) (shows q) (rows n table) k h)

lists-exactly : ListsExactly
lists-exactly q table n i = (
  λ h e. once q table n i h ∙ rw e,
  λ h e. once q table n i h ∙ rw e,
  never q table n i,
)

-- ---- what is answered and written

refuses-exactly : RefusesExactly
refuses-exactly q table n places =
    (λ e. sym (unsound q table n places e), λ e f. sym (out_of_range q table n places e f))

written_at : (l places : List ℕ) (k : ℕ) → k < length (take (length places) l) → get_or (over 0 (take (length places) l) places) k 0 ≡ get_or l k 0
written_at l places k h =
    let c = cut_most (length places) l in
    let b = c.0 in
    let vs = take (length places) l in
    sym (get_or-take (length vs) (over 0 vs places) k 0 h)
    ∙ ap (λ (x : List ℕ). get_or x k 0) (front-part (length vs) vs places (omega arith) c.0)
    ∙ get_or-take (length vs) vs k 0 h
    ∙ get_or-take (length places) l k 0 (omega arith)

cut-only-where-full : CutOnlyWhereFull
cut-only-where-full q table n places e f =
    let l = board_of q table n in
    let g = sym (listed-all q table n places e f) in
    let after : (board_leaves q table n places).places ≡ over 0 (take (length places) l) places = ap (λ (b : Board). b.places) g in (
      length (take (length places) l),
      ap (λ (b : Board). b.answer) g,
      λ h. ap length (take_all (length places) l h),
      λ h. length-take-le (length places) l h,
      λ k h. ap (λ (x : List ℕ). get_or x k 0) after ∙ written_at l places k h,
      λ k h. ap (λ (x : List ℕ). get_or x k 0) after ∙ get_d_after 0 k (take (length places) l) places (omega arith),
    )

-- ---- the order

places-rise-as-keys : PlacesRiseAsKeys
places-rise-as-keys table n i j s h k = keys-rise n table i j s h k

in_order : InOrder
in_order q table n k h =
    let l = board_of q table n in
    let a = below q table n k (omega arith) in
    let b = below q table n (k + 1) h in
    rw (← (row-at row_wide n (get_or l k 0) table a), ← (row-at row_wide n (get_or l (k + 1) 0) table b)) (order q table n k h)

pub claims : All
claims = (shows-exactly, lists-exactly, in_order, places-rise-as-keys, cut-only-where-full, refuses-exactly, numbers-due)
