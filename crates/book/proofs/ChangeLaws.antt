-- What a new message and a withdrawal make of updates in order: they stay in order. Assumes nothing.
use mathlib.Core.Path.{◌≡◌, refl, sym, ap, ◌∙◌}
use mathlib.Core.Bool.{Bool, true, false, ◌&&◌}
use mathlib.Core.List.{List, [], ◌∷◌, ◌++◌, map, append_assoc}
use mathlib.Core.Logic.{inl, inr, ⊎_elim}
use Prim.Native.Nat.{ℕ, suc, ◌+◌, ◌^◌, ◌≤◌, ◌<◌}
use native.Mathlib.Nat.{zero-add, suc-add}
use native.Mathlib.Omega.{arith}
use borrow.Author.Tests.{eq-eqb, ne_eqb, eqb-true, le-leb}
use lib.Dec.{eqb, leb}
use lib.ListN.{length, take, drop, length-append}
use lib.Seq.{take_at, drop_at, take_all, get_or_at}
use Rattle.lists.specs.Each.{Each}
use Rattle.lists.specs.Logic.{on, within}
use Rattle.lists.specs.Part.{part}
use Rattle.lists.specs.Rows.{Wide}
use Rattle.lists.specs.BigEndian.{number, spelled}
use Rattle.lists.proofs.LogicLaws.{and-pass, or-true}
use Rattle.lists.proofs.BigEndianLaws.{length-spelled, number_spelled}
use Rattle.passage.specs.Layout.{body_wide}
use Rattle.passage.specs.Ranges.{update_in_range}
use Rattle.book.specs.Entries.{number_wide, entry_wide, kind_of, number_of, sender_of, entry_body, entry_of, entries_of}
use Rattle.book.specs.Rules.{entry_in_range, may_follow, chained, no_entry, last_from, message_entries, marked_withdrawn, withdrawn}
use Rattle.book.specs.Claims.{UpdateBodies}
use Rattle.book.proofs.NumberLaws.{Begins, GoesOn, follow-cases, Link, link, no-number}
use Rattle.book.proofs.MessageLaws.{first-number, entries_none, Next, next}
use Rattle.book.specs.inner.Steps.{first_entry_of}

-- ---- links and chains, made

pub begins : (before e : List ℕ) → Begins before e → may_follow before e ≡ true
unfolding may_follow
begins before e h = rw (eq-eqb (number_of e) (number_of before + 1) h)

pub goes_on : (before e : List ℕ) → GoesOn before e → may_follow before e ≡ true
unfolding may_follow
goes_on before e h =
    rw (eq-eqb (number_of e) (number_of before) h.0, eq-eqb (sender_of e) (sender_of before) h.1, eq-eqb (kind_of e) (kind_of before) h.2)
    (or-true (eqb (number_of e) (number_of before + 1)))

linked : (before e : List ℕ) (es : List (List ℕ)) → entry_in_range e ≡ true → may_follow before e ≡ true → chained e es ≡ true → chained before (e ∷ es) ≡ true
unfolding chained
linked before e es r f c = rw (r, f, c)

pub chained_append : (before : List ℕ) (xs ys : List (List ℕ)) → chained before xs ≡ true → chained (last_from before xs) ys ≡ true → chained before (xs ++ ys) ≡ true
unfolding last_from
chained_append before [] ys h k = k
chained_append before (x ∷ xs) ys h k =
    let l = link before x xs h in
    linked before x (xs ++ ys) l.range l.follows (chained_append x xs ys l.chain k)

-- ---- the entries of a message

module _ (n s : ℕ) where
  pub entry-number : n < 256 ^ number_wide → (body : List ℕ) → number_of (entry_of n s body) ≡ n
  unfolding entry_of part
  entry-number small body =
      ap number (take_at (spelled number_wide n) (s ∷ body) number_wide (length-spelled number_wide n)) ∙ number_spelled number_wide n small

  pub entry-sender : (body : List ℕ) → sender_of (entry_of n s body) ≡ s
  unfolding entry_of
  entry-sender body = get_or_at (spelled number_wide n) s body 0 number_wide (length-spelled number_wide n)

  pub entry-body : (body : List ℕ) → length body ≡ body_wide → entry_body (entry_of n s body) ≡ body
  unfolding entry_of part
  entry-body body h =
      let front = spelled number_wide n ++ s ∷ [] in
      let l : length front ≡ 5 = simp (length-append, length-spelled) in
      ap (λ (r : List ℕ). take body_wide (drop 5 r)) (sym (append_assoc (spelled number_wide n) (s ∷ []) body))
      ∙ ap (take body_wide) (drop_at front body 5 l)
      ∙ take_all body_wide body (omega arith)

module _ (n s : ℕ) (small : n < 256 ^ number_wide) (least : 1 ≤ s) where
  entry-ranges : (body : List ℕ) → length body ≡ body_wide → update_in_range body ≡ true → entry_in_range (entry_of n s body) ≡ true
  unfolding entry_in_range entry_of
  entry-ranges body h k = rw (entry-sender n s body, entry-body n s body h, le-leb 1 s least, k)

  -- behind an entry of the same message
  chained_same : (before : List ℕ) (bodies : List (List ℕ)) → number_of before ≡ n → sender_of before ≡ s → kind_of before ≡ 2 → UpdateBodies bodies → chained before (entries_of n s bodies) ≡ true
  unfolding entries_of chained entry_of
  chained_same before [] p q r h = refl
  chained_same before (b ∷ bs) p q r h =
      linked before (entry_of n s b) (entries_of n s bs) (entry-ranges b h.0.0 h.0.1)
      (goes_on before (entry_of n s b) (entry-number n s small b ∙ sym p, entry-sender n s b ∙ sym q, sym r))
      (chained_same (entry_of n s b) bs (entry-number n s small b) (entry-sender n s b) refl h.1)

  -- behind an entry of the message before
  pub chained-new : (before : List ℕ) (bodies : List (List ℕ)) → n ≡ number_of before + 1 → UpdateBodies bodies → chained before (entries_of n s bodies) ≡ true
  unfolding entries_of chained entry_of
  chained-new before [] p h = refl
  chained-new before (b ∷ bs) p h =
      linked before (entry_of n s b) (entries_of n s bs) (entry-ranges b h.0.0 h.0.1) (begins before (entry_of n s b) (entry-number n s small b ∙ p))
      (chained_same (entry_of n s b) bs (entry-number n s small b) (entry-sender n s b) refl h.1)

-- ---- a mark changes the kind alone

pub marked-kind : (e : List ℕ) → length e ≡ entry_wide → kind_of (marked_withdrawn e) ≡ 3
unfolding marked_withdrawn
marked-kind [] h = absurd (omega arith)
marked-kind (x ∷ e) h = refl

pub marked-number : (e : List ℕ) → number_of (marked_withdrawn e) ≡ number_of e
unfolding marked_withdrawn part
marked-number [] = refl
marked-number (x ∷ e) = refl

pub marked-sender : (e : List ℕ) → sender_of (marked_withdrawn e) ≡ sender_of e
unfolding marked_withdrawn
marked-sender [] = refl
marked-sender (x ∷ e) = refl

pub marked-body : (e : List ℕ) → entry_body (marked_withdrawn e) ≡ entry_body e
unfolding marked_withdrawn part
marked-body [] = refl
marked-body (x ∷ e) = refl

marked-range : (e : List ℕ) → length e ≡ entry_wide → entry_in_range e ≡ true → entry_in_range (marked_withdrawn e) ≡ true
unfolding entry_in_range
marked-range e l h =
    let x = and-pass (within 2 3 (kind_of e) && leb 1 (sender_of e)) _ h in
    let y = and-pass (within 2 3 (kind_of e)) _ x.0 in
    rw (marked-kind e l, marked-sender e, marked-body e, y.1, x.1)

-- ---- a withdrawn message

module _ (n : ℕ) where
  abbrev changed : List ℕ → List ℕ
  changed e = on (eqb (number_of e) n) (marked_withdrawn e) e

  changed-number : (e : List ℕ) → number_of (changed e) ≡ number_of e
  changed-number e = go (eqb (number_of e) n)
    where
      go : (t : Bool) → number_of (on t (marked_withdrawn e) e) ≡ number_of e
      go true = marked-number e
      go false = refl

  changed-sender : (e : List ℕ) → sender_of (changed e) ≡ sender_of e
  changed-sender e = go (eqb (number_of e) n)
    where
      go : (t : Bool) → sender_of (on t (marked_withdrawn e) e) ≡ sender_of e
      go true = marked-sender e
      go false = refl

  changed-range : (e : List ℕ) → length e ≡ entry_wide → entry_in_range e ≡ true → entry_in_range (changed e) ≡ true
  changed-range e l h = go (eqb (number_of e) n)
    where
      go : (t : Bool) → entry_in_range (on t (marked_withdrawn e) e) ≡ true
      go true = marked-range e l h
      go false = h

  changed-kind : (a e : List ℕ) → length a ≡ entry_wide → length e ≡ entry_wide → number_of e ≡ number_of a → kind_of e ≡ kind_of a → kind_of (changed e) ≡ kind_of (changed a)
  changed-kind a e x y q k = rw q (go (eqb (number_of a) n))
    where
      go : (t : Bool) → kind_of (on t (marked_withdrawn e) e) ≡ kind_of (on t (marked_withdrawn a) a)
      go true = marked-kind e y ∙ sym (marked-kind a x)
      go false = k

  changed-follows : (a e : List ℕ) → length a ≡ entry_wide → length e ≡ entry_wide → may_follow a e ≡ true → may_follow (changed a) (changed e) ≡ true
  changed-follows a e x y h =
      ⊎_elim
      (λ (b : Begins a e). begins (changed a) (changed e) (changed-number e ∙ b ∙ ap (λ (m : ℕ). m + 1) (sym (changed-number a))))
      (λ (g : GoesOn a e).
      goes_on (changed a) (changed e)
      (changed-number e ∙ g.0 ∙ sym (changed-number a), changed-sender e ∙ g.1 ∙ sym (changed-sender a), changed-kind a e x y g.0 g.2))
      (follow-cases a e h)

  chained-changed : (before : List ℕ) (es : List (List ℕ)) → length before ≡ entry_wide → Wide entry_wide es → chained before es ≡ true → chained (changed before) (withdrawn n es) ≡ true
  unfolding withdrawn chained
  chained-changed before [] l w h = refl
  chained-changed before (e ∷ es) l w h =
      let k = link before e es h in
      linked (changed before) (changed e) (withdrawn n es) (changed-range e w.0 k.range) (changed-follows before e l w.0 k.follows)
      (chained-changed e es w.0 w.1 k.chain)

  -- withdrawal keeps updates in order
  pub chained-withdrawn : (es : List (List ℕ)) → Wide entry_wide es → chained no_entry es ≡ true → chained no_entry (withdrawn n es) ≡ true
  unfolding withdrawn chained
  chained-withdrawn [] w h = refl
  chained-withdrawn (e ∷ es) w h =
      let k = link no_entry e es h in
      let o = first-number e es h in
      linked no_entry (changed e) (withdrawn n es) (changed-range e w.0 k.range)
      (begins no_entry (changed e) (changed-number e ∙ o ∙ ap (λ (m : ℕ). m + 1) (sym no-number)))
      (chained-changed e es w.0 w.1 k.chain)

  -- ---- where it changes them

  untouched : (es : List (List ℕ)) → Each (λ (e : List ℕ). suc n ≤ number_of e) es → withdrawn n es ≡ es
  unfolding withdrawn
  untouched [] h = refl
  untouched (e ∷ es) h = let k = h.0 in rw (ne_eqb (number_of e) n (λ q. absurd (omega arith))) (ap (λ (r : List (List ℕ)). e ∷ r) (untouched es h.1))

  -- the message's entries, marked, and what stands behind them
  abbrev Marks : List (List ℕ) → Type 0
  Marks es = withdrawn n es ≡ map marked_withdrawn (message_entries n es) ++ drop (length (message_entries n es)) es

  marks-rest : (before : List ℕ) (es : List (List ℕ)) → number_of before ≡ n → chained before es ≡ true → Marks es
  unfolding withdrawn message_entries
  marks-rest before [] q h = refl
  marks-rest before (e ∷ es) q h =
      let l = link before e es h in
      go l (marks-rest e es) (next n before e es q l)
    where
      go : Link before e es → (number_of e ≡ n → chained e es ≡ true → Marks es) → Next n before e es → Marks (e ∷ es)
      go l ih (inl g) = rw (eq-eqb (number_of e) n g.1) (ap (λ (r : List (List ℕ)). marked_withdrawn e ∷ r) (ih g.1 l.chain))
      go l ih (inr g) = let m = entries_none n (e ∷ es) g in rw m (untouched (e ∷ es) g)

  pub withdrawn-is : (before : List ℕ) (es : List (List ℕ)) → chained before es ≡ true
      → withdrawn n es ≡ take (first_entry_of n es) es ++ (map marked_withdrawn (message_entries n es) ++ drop (first_entry_of n es + length (message_entries n es)) es)
  unfolding withdrawn message_entries first_entry_of
  withdrawn-is before [] h = refl
  withdrawn-is before (e ∷ es) h =
      let l = link before e es h in
      go (eqb (number_of e) n) refl l.chain (withdrawn-is e es l.chain)
    where
      go : (t : Bool) → eqb (number_of e) n ≡ t → chained e es ≡ true
          → withdrawn n es ≡ take (first_entry_of n es) es ++ (map marked_withdrawn (message_entries n es) ++ drop (first_entry_of n es + length (message_entries n es)) es)
          → on t (marked_withdrawn e) e ∷ withdrawn n es
          ≡ take (on t 0 (suc (first_entry_of n es))) (e ∷ es)
          ++ (map marked_withdrawn (on t (e ∷ message_entries n es) (message_entries n es)) ++ drop (on t 0 (suc (first_entry_of n es)) + length (on t (e ∷ message_entries n es) (message_entries n es))) (e ∷ es))
      go true q c ih = rw zero-add (ap (λ (r : List (List ℕ)). marked_withdrawn e ∷ r) (marks-rest e es (eqb-true _ _ q) c))
      go false q c ih = rw suc-add (ap (λ (r : List (List ℕ)). e ∷ r) ih)
