-- Updates, one after another: whether they are in range and in order. Assumes nothing.
use mathlib.Core.Path.{◌≡◌, refl, sym, ◌∙◌}
use mathlib.Core.Bool.{Bool, true, false, ◌&&◌, ◌||◌}
use mathlib.Core.List.{List, [], ◌∷◌, map}
use Prim.Native.Nat.{ℕ, ◌+◌, ◌*◌, ◌≤◌, ◌<◌}
use lib.Dec.{eqb, leb}
use lib.ListN.{drop, get_or}
use Rattle.lists.specs.Logic.{within}
use Rattle.lists.specs.Part.{part}
use Rattle.lists.specs.Rows.{rows_of}
use Rattle.lists.specs.BigEndian.{number}
use Rattle.lists.proofs.LogicLaws.{and-pass, and_assoc, not-then}
use Rattle.passage.specs.Layout.{body_wide}
use Rattle.passage.specs.Ranges.{update_in_range}
use Rattle.passage.proofs.RangeLaws.{update-facts, facts-common}
use Rattle.book.specs.Entries.{number_offset, number_wide, sender_offset, body_at, entry_wide, kind_of, number_of, sender_of, entry_body}
use Rattle.book.specs.Rules.{entry_in_range, may_follow, chained, no_entry}
use Rattle.book.specs.inner.Steps.{follows_as, chained_as}
use Rattle.book.proofs.PlaceLaws.{kind_at, number-from, sender-from, body-from, rest, rest-start, rest-step, rest_end}
use Rattle.passage.specs.inner.Roles.{all_common}

-- ---- one update

-- the two tests by the bytes from p on
pub entry-from : (p : ℕ) (b : List ℕ) (n s k : ℕ) →
    (entry_in_range (part p entry_wide b) && follows_as n s k (part p entry_wide b))
    ≡ ((within 2 3 (get_or b p 0) && (leb 1 (get_or b (p + sender_offset) 0) && update_in_range (part (p + body_at) body_wide b)))
    && (eqb (number (part (p + number_offset) number_wide b)) (n + 1)
    || (eqb (number (part (p + number_offset) number_wide b)) n && (eqb (get_or b (p + sender_offset) 0) s && eqb (get_or b p 0) k))))
unfolding entry_in_range follows_as
entry-from p b n s k =
    rw (
      kind_at p b,
      number-from p b,
      sender-from p b,
      body-from p b,
      and_assoc (within 2 3 (get_or b p 0)) (leb 1 (get_or b (p + sender_offset) 0)),
      and_assoc (eqb (number (part (p + number_offset) number_wide b)) n),
    )

-- ---- all of them

chained-as : (before : List ℕ) (es : List (List ℕ)) → chained before es ≡ chained_as (number_of before) (sender_of before) (kind_of before) es
unfolding chained chained_as may_follow follows_as
chained-as before [] = refl
chained-as before (e ∷ es) = rw (chained-as e es)

-- what is in range has what is common in range
chain-common : (before : List ℕ) (es : List (List ℕ)) → chained before es ≡ true → all_common (map entry_body es) ≡ true
unfolding chained entry_in_range all_common
chain-common before [] e = refl
chain-common before (x ∷ es) e =
    let p = and-pass (entry_in_range x && may_follow before x) (chained x es) e in
    let q = and-pass (entry_in_range x) (may_follow before x) p.0 in
    let u = (and-pass (within 2 3 (kind_of x) && leb 1 (sender_of x)) (update_in_range (entry_body x)) q.0).1 in
    rw (facts-common (entry_body x) (update-facts (entry_body x) u).common) (chain-common x es p.1)

pub chain-none : (es : List (List ℕ)) → all_common (map entry_body es) ≡ false → chained no_entry es ≡ false
chain-none es e = not-then (chained no_entry es) (all_common (map entry_body es)) (chain-common no_entry es) e

module _ (b : List ℕ) (at m : ℕ) where
  pub chain-start : chained_as 0 0 0 (rest b at m 0) ≡ chained no_entry (rows_of entry_wide m (drop at b))
  unfolding no_entry number part
  chain-start = rw (rest-start b at m) (sym (chained-as no_entry (rows_of entry_wide m (drop at b))))

  abbrev here : ℕ → List ℕ
  here i = part (at + i * entry_wide) entry_wide b

  -- t is the test of the update at place i
  module _ (i : ℕ) (h : i < m) (n s k : ℕ) (t : Bool) (tested : t ≡ (entry_in_range (here i) && follows_as n s k (here i))) where
    pub chain-turn : t ≡ true →
        chained_as n s k (rest b at m i)
        ≡ chained_as
        (number (part (at + i * entry_wide + number_offset) number_wide b))
        (get_or b (at + i * entry_wide + sender_offset) 0)
        (get_or b (at + i * entry_wide) 0)
        (rest b at m (i + 1))
    unfolding chained_as
    chain-turn e =
        rw (
          rest-step b at m i h,
          sym tested ∙ e,
          kind_at (at + i * entry_wide) b,
          number-from (at + i * entry_wide) b,
          sender-from (at + i * entry_wide) b,
        )

    pub chain-broken : t ≡ false → chained_as n s k (rest b at m i) ≡ false
    unfolding chained_as
    chain-broken e = rw (rest-step b at m i h, sym tested ∙ e)

  pub chain-end : (i n s k : ℕ) → m ≤ i → chained_as n s k (rest b at m i) ≡ true
  unfolding chained_as
  chain-end i n s k h = rw (rest_end b at m i h)
