-- A book is sound exactly where its facts hold, and its entries stand at their places. Assumes nothing.
use mathlib.Core.Path.{◌≡◌, refl, sym, ap, ◌∙◌}
use mathlib.Core.Bool.{Bool, true, false, ◌&&◌}
use mathlib.Core.List.{List, [], ◌∷◌}
use mathlib.Core.Logic.{◌⊎◌, inl, inr, ⊎_elim}
use Prim.Native.Nat.{ℕ, zero, suc, ◌+◌, ◌*◌, ◌≤◌, ◌<◌}
use native.Mathlib.Nat.{suc-add}
use native.Mathlib.Omega.{arith}
use borrow.Author.Tests.{le-leb, leb-true, leb-false}
use lib.Dec.{leb}
use lib.ListN.{length, take, drop, get_or, get_or-map}
use lib.Seq.{drop-drop}
use Rattle.lists.specs.Each.{Each}
use Rattle.lists.specs.Logic.{on, within}
use Rattle.lists.specs.Part.{part}
use Rattle.lists.specs.Rows.{rows_of}
use Rattle.lists.proofs.EachLaws.{each_at, each_all}
use Rattle.lists.proofs.LogicLaws.{and-pass, within-true, in-range}
use Rattle.lists.proofs.RowLaws.{length-rows_of, row-at}
use Rattle.passage.specs.Layout.{key_of}
use Rattle.passage.specs.Ranges.{plan_in_range, update_in_range}
use Rattle.passage.proofs.RangeLaws.{plan-facts, facts-plan, update-facts, facts-update}
use Rattle.keys.specs.Sorted.{sorted_rows}
use Rattle.keys.proofs.SortedLaws.{sorted-pair, pairs-sorted}
use Rattle.book.specs.Entries.{kind_wide, plan_wide, entry_wide, kind_of, number_of, sender_of, entry_body, plan_body_of, plan_count, plans_in, updates_in}
use Rattle.book.specs.Rules.{most_bytes, book_room, all_plans, entry_in_range, may_follow, chained, no_entry, book_sound}
use Rattle.book.specs.Facts.{entry_kind_at, plan_key_at, UpdateEntryFacts, ComesBehind, update_at, BookFacts}
use Rattle.book.specs.inner.Steps.{plan_body_at}
use Rattle.book.proofs.PlaceLaws.{first-at, plan-body-at, kind_at, number-from, sender-from, body-from}
use Rattle.book.proofs.PlanLaws.{bodies, length-bodies, plan-key-at}
use Rattle.book.proofs.SoundLaws.{sound-facts, used-within}
use Rattle.book.proofs.NumberLaws.{Begins, GoesOn, follow-cases, link, no-number}
use Rattle.book.proofs.MessageLaws.{first-number}
use Rattle.book.proofs.ChangeLaws.{begins, goes_on}
use Rattle.book.proofs.SplitLaws.{Plans, Split, sound-split, split-sound, split-plans, split-updates, update_count}

-- ---- plan entries

plans-each : (bs : List (List ℕ)) → all_plans bs ≡ true → Each (λ (x : List ℕ). plan_in_range x ≡ true) bs
unfolding all_plans
plans-each [] e = tt
plans-each (x ∷ bs) e = let p = and-pass (plan_in_range x) (all_plans bs) e in (p.0, plans-each bs p.1)

each-plans : (bs : List (List ℕ)) → Each (λ (x : List ℕ). plan_in_range x ≡ true) bs → all_plans bs ≡ true
unfolding all_plans
each-plans [] h = refl
each-plans (x ∷ bs) h = rw h.0 (each-plans bs h.1)

module _ (b : List ℕ) (n i : ℕ) (h : i < n) where
  plan-kind-at : kind_of (get_or (rows_of plan_wide n b) i []) ≡ entry_kind_at b (i * plan_wide)
  plan-kind-at = rw (row-at plan_wide n i b h) (first-at (i * plan_wide) plan_wide b (omega arith))

  body_is : get_or (bodies n b) i [] ≡ plan_body_at i b
  unfolding part
  body_is = get_or-map plan_body_of (rows_of plan_wide n b) i [] ∙ ap plan_body_of (row-at plan_wide n i b h) ∙ plan-body-at i b

  key-is : key_of (get_or (bodies n b) i []) ≡ plan_key_at b (i * plan_wide)
  key-is = ap key_of body_is ∙ plan-key-at (i * plan_wide + kind_wide) b

-- ---- one update by its place

in-range-facts : (e : List ℕ) → entry_in_range e ≡ true → ((kind_of e ≡ 2) ⊎ (kind_of e ≡ 3)) × (1 ≤ sender_of e) × (update_in_range (entry_body e) ≡ true)
unfolding entry_in_range
in-range-facts e h =
    let x = and-pass (within 2 3 (kind_of e) && leb 1 (sender_of e)) _ h in
    let y = and-pass (within 2 3 (kind_of e)) _ x.0 in
    let w = within-true 2 3 (kind_of e) y.0 in
    (two-three (kind_of e) w.0 w.1, leb-true 1 (sender_of e) y.1, x.1)
  where
    two-three : (k : ℕ) → 2 ≤ k → k ≤ 3 → (k ≡ 2) ⊎ (k ≡ 3)
    two-three k l m = go (leb k 2) refl
      where
        go : (t : Bool) → leb k 2 ≡ t → (k ≡ 2) ⊎ (k ≡ 3)
        go true q = let r : k ≤ 2 = leb-true k 2 q in inl (omega arith)
        go false q = let r : 2 < k = leb-false k 2 q in inr (omega arith)

facts-in-range : (e : List ℕ) → (kind_of e ≡ 2) ⊎ (kind_of e ≡ 3) → 1 ≤ sender_of e → update_in_range (entry_body e) ≡ true → entry_in_range e ≡ true
unfolding entry_in_range
facts-in-range e k s u =
    let l : 2 ≤ kind_of e = ⊎_elim (λ q. omega (arith, q)) (λ q. omega (arith, q)) k in
    let m : kind_of e ≤ 3 = ⊎_elim (λ q. omega (arith, q)) (λ q. omega (arith, q)) k in
    rw (in-range 2 3 (kind_of e) l m, le-leb 1 (sender_of e) s, u)

cases-follow : (before e : List ℕ) → Begins before e ⊎ GoesOn before e → may_follow before e ≡ true
cases-follow before e c = ⊎_elim (begins before e) (goes_on before e) c

-- ---- a chain by its places

chain-each : (before : List ℕ) (es : List (List ℕ)) → chained before es ≡ true → Each (λ (e : List ℕ). entry_in_range e ≡ true) es
chain-each before [] h = tt
chain-each before (e ∷ es) h = let l = link before e es h in (l.range, chain-each e es l.chain)

chain-pair : (before : List ℕ) (es : List (List ℕ)) → chained before es ≡ true → (i : ℕ) → i + 1 < length es → may_follow (get_or es i []) (get_or es (i + 1) []) ≡ true
chain-pair before [] h i k = absurd (omega arith)
chain-pair before (e ∷ []) h i k = absurd (omega arith)
chain-pair before (e ∷ x ∷ es) h zero k = (link e x es (link before e (x ∷ es) h).chain).follows
chain-pair before (e ∷ x ∷ es) h (suc i) k = rw (suc-add i 1) (chain-pair e (x ∷ es) (link before e (x ∷ es) h).chain i (omega arith))

pairs-chain : (before : List ℕ) (es : List (List ℕ)) → Each (λ (e : List ℕ). entry_in_range e ≡ true) es
    → (0 < length es → may_follow before (get_or es 0 []) ≡ true)
    → ((i : ℕ) → i + 1 < length es → may_follow (get_or es i []) (get_or es (i + 1) []) ≡ true)
    → chained before es ≡ true
unfolding chained
pairs-chain before [] r f g = refl
pairs-chain before (e ∷ es) r f g =
    rw (r.0, f (omega arith)) (pairs-chain e es r.1 (λ h. g 0 (omega arith)) (λ i h. rw (suc-add i 1) at (g (suc i) (omega arith))))

-- the first of updates in order has number 1
pub begins-at-1 : (es : List (List ℕ)) → chained no_entry es ≡ true → 0 < length es → number_of (get_or es 0 []) ≡ 1
begins-at-1 [] h k = absurd (omega arith)
begins-at-1 (e ∷ es) h k = first-number e es h

-- ---- updates by their places

module _ (b : List ℕ) (n m i : ℕ) (h : i < m) where
  update-is : get_or (rows_of entry_wide m (drop (n * plan_wide) b)) i [] ≡ part (update_at n i) entry_wide b
  unfolding part
  update-is = row-at entry_wide m i (drop (n * plan_wide) b) h ∙ ap (take entry_wide) (drop-drop (i * entry_wide) (n * plan_wide) b)

module _ (b : List ℕ) (p : ℕ) where
  range-update : entry_in_range (part p entry_wide b) ≡ true → UpdateEntryFacts b p
  range-update e =
      let f = in-range-facts (part p entry_wide b) e in
      record { kind = rw (kind_at p b) at f.0; sender = rw (sender-from p b) at f.1; body = update-facts _ (rw (body-from p b) at f.2) }

  update-range : UpdateEntryFacts b p → entry_in_range (part p entry_wide b) ≡ true
  update-range f =
      facts-in-range (part p entry_wide b) (rw (kind_at p b) f.kind) (rw (sender-from p b) f.sender) (rw (body-from p b) (facts-update _ f.body))

  follow-behind : (q : ℕ) → may_follow (part p entry_wide b) (part q entry_wide b) ≡ true → ComesBehind b p q
  follow-behind q e =
      rw (kind_at p b, kind_at q b, number-from p b, number-from q b, sender-from p b, sender-from q b) at (follow-cases (part p entry_wide b) (part q entry_wide b) e)

  behind-follow : (q : ℕ) → ComesBehind b p q → may_follow (part p entry_wide b) (part q entry_wide b) ≡ true
  behind-follow q c =
      cases-follow (part p entry_wide b) (part q entry_wide b)
      (rw (kind_at p b, kind_at q b, number-from p b, number-from q b, sender-from p b, sender-from q b) c)

-- ---- the book

room-least : (n : ℕ) (b : List ℕ) → n ≤ length b → n ≤ most_bytes → n ≤ book_room b
unfolding book_room
room-least n b h k = go (leb (length b) most_bytes)
  where
    go : (t : Bool) → n ≤ on t (length b) most_bytes
    go true = h
    go false = k

module _ (used : ℕ) (b : List ℕ) where
  -- the facts of n plan entries and m updates, where the bytes split so
  split-means : (n m : ℕ) → Split used b n m → BookFacts used b
  split-means n m s =
      let us = rows_of entry_wide m (drop (n * plan_wide) b) in
      let u = used-within used b (sound-facts used b (split-sound used b n m s)) in
      record {
        plans = n;
        updates = m;
        lent = u.0;
        size = u.1;
        whole = s.whole;
        plan-entries = λ i h. record {
          kind = sym (plan-kind-at b n i h) ∙ each_at (λ (e : List ℕ). kind_of e ≡ 1) (rows_of plan_wide n b) i [] s.plans (rw (length-rows_of plan_wide n b) h);
          body = plan-facts _ (rw (body_is b n i h) at (each_at (λ (x : List ℕ). plan_in_range x ≡ true) (bodies n b) i [] (plans-each (bodies n b) s.ranges) (rw (length-bodies n b) h)));
        };
        keys-rise = λ i h.
            let k : i < n = omega arith in
            rw (key-is b n i k, key-is b n (i + 1) h) at (sorted-pair (bodies n b) i s.rises (rw (length-bodies n b) h));
        update-entries = λ i h.
            range-update b (update_at n i)
            (rw (update-is b n m i h) at (each_at (λ (e : List ℕ). entry_in_range e ≡ true) us i [] (chain-each no_entry us s.chain) (rw (length-rows_of entry_wide m (drop (n * plan_wide) b)) h)));
        first-number = λ h. sym (number-from (update_at n 0) b) ∙ rw (update-is b n m 0 h) at (begins-at-1 us s.chain (rw (length-rows_of entry_wide m (drop (n * plan_wide) b)) h));
        numbers-go-on = λ i h.
            let k : i < m = omega arith in
            follow-behind b (update_at n i) (update_at n (i + 1))
            (rw (update-is b n m i k, update-is b n m (i + 1) h) at (chain-pair no_entry us s.chain i (rw (length-rows_of entry_wide m (drop (n * plan_wide) b)) h)));
      }

  pub sound-means : book_sound used b ≡ true → BookFacts used b
  sound-means e = split-means (plan_count used b) (update_count used b) (sound-split used b e)

  module _ (f : BookFacts used b) where
    abbrev n : ℕ
    n = f.plans

    abbrev m : ℕ
    m = f.updates

    abbrev us : List (List ℕ)
    us = rows_of entry_wide m (drop (n * plan_wide) b)

    facts-plans : Plans (rows_of plan_wide n b)
    facts-plans =
        each_all (λ (e : List ℕ). kind_of e ≡ 1) (rows_of plan_wide n b) [] (λ i h.
        let k : i < n = rw (length-rows_of plan_wide n b) at h in
        plan-kind-at b n i k ∙ (f.plan-entries i k).kind)

    facts-ranges : all_plans (bodies n b) ≡ true
    facts-ranges =
        each-plans (bodies n b) (each_all (λ (x : List ℕ). plan_in_range x ≡ true) (bodies n b) [] (λ i h.
        let k : i < n = rw (length-bodies n b) at h in
        rw (body_is b n i k) (facts-plan _ (f.plan-entries i k).body)))

    facts-rise : sorted_rows (bodies n b) ≡ true
    facts-rise =
        pairs-sorted (bodies n b) (λ i h.
        let k : i + 1 < n = rw (length-bodies n b) at h in
        let l : i < n = omega arith in
        rw (key-is b n i l, key-is b n (i + 1) k) (f.keys-rise i k))

    in-updates : (i : ℕ) → i < length us → i < m
    in-updates i h = rw (length-rows_of entry_wide m (drop (n * plan_wide) b)) at h

    facts-chain : chained no_entry us ≡ true
    facts-chain =
        pairs-chain no_entry us
        (each_all (λ (e : List ℕ). entry_in_range e ≡ true) us [] (λ i h.
        let k = in-updates i h in
        rw (update-is b n m i k) (update-range b (update_at n i) (f.update-entries i k))))
        (λ h.
        let k = in-updates 0 h in
        rw (update-is b n m 0 k) (cases-follow no_entry _ (inl (number-from (update_at n 0) b ∙ f.first-number k ∙ ap (λ (z : ℕ). z + 1) (sym no-number)))))
        (λ i h.
        let k = in-updates (i + 1) h in
        let l : i < m = omega arith in
        rw (update-is b n m i l, update-is b n m (i + 1) k) (behind-follow b (update_at n i) (update_at n (i + 1)) (f.numbers-go-on i k)))

    facts-split : Split used b n m
    facts-split = record {
      whole = f.whole;
      room = room-least used b f.lent f.size;
      plans = facts-plans;
      ranges = facts-ranges;
      rises = facts-rise;
      chain = facts-chain;
    }

    pub means-sound : book_sound used b ≡ true
    means-sound = split-sound used b n m facts-split

    -- the entries are what stands at their places
    pub plans-length : length (plans_in used b) ≡ n
    plans-length = ap length (split-plans used b n m facts-split) ∙ length-rows_of plan_wide n b

    pub plan-place : (i : ℕ) → i < n → get_or (plans_in used b) i [] ≡ part (i * plan_wide) plan_wide b
    plan-place i h = rw (split-plans used b n m facts-split) (row-at plan_wide n i b h)

    pub updates-length : length (updates_in used b) ≡ m
    updates-length = ap length (split-updates used b n m facts-split) ∙ length-rows_of entry_wide m (drop (n * plan_wide) b)

    pub update-place : (i : ℕ) → i < m → get_or (updates_in used b) i [] ≡ part (update_at n i) entry_wide b
    update-place i h = rw (split-updates used b n m facts-split) (update-is b n m i h)
