-- Messages among updates in order: numbers begin at 1 and rise by at most one, a message's entries stand together, and share sender and kind. Assumes nothing.
use mathlib.Core.Path.{◌≡◌, refl, sym, ap, ◌∙◌}
use mathlib.Core.Bool.{Bool, true, false, ◌&&◌}
use mathlib.Core.List.{List, [], ◌∷◌}
use mathlib.Core.Logic.{◌⊎◌, inl, inr, ⊎_elim}
use Prim.Native.Nat.{ℕ, zero, suc, ◌+◌, ◌≤◌, ◌<◌}
use native.Mathlib.Nat.{le_of_suc-le-suc, not-suc-le-zero}
use native.Mathlib.Omega.{arith}
use borrow.Author.Tests.{eq-eqb, ne_eqb, eqb-true, leb-true}
use lib.Dec.{eqb, leb}
use lib.ListN.{length, take, drop, get_or}
use Rattle.lists.specs.Each.{Each}
use Rattle.lists.specs.Logic.{on, within}
use Rattle.lists.proofs.LogicLaws.{and-pass}
use Rattle.book.specs.Entries.{kind_of, number_of, sender_of}
use Rattle.book.specs.Rules.{entry_in_range, chained, no_entry, last_from, next_number, message_entries}
use Rattle.book.proofs.NumberLaws.{Begins, GoesOn, follow-cases, Link, link, link-number, no-number, no_sender}
use Rattle.book.specs.inner.Steps.{first_entry_of, run_of}

-- ---- numbers

sender-least : (e : List ℕ) → entry_in_range e ≡ true → 1 ≤ sender_of e
unfolding entry_in_range
sender-least e h = leb-true 1 (sender_of e) (and-pass (within 2 3 (kind_of e)) _ (and-pass (within 2 3 (kind_of e) && leb 1 (sender_of e)) _ h).0).1

-- the first update has number 1
pub first-number : (e : List ℕ) (es : List (List ℕ)) → chained no_entry (e ∷ es) ≡ true → number_of e ≡ 1
first-number e es h =
    let l = link no_entry e es h in
    let s = sender-least e l.range in
    let n = no-number in
    let z = no_sender in
    ⊎_elim (λ (q : Begins no_entry e). omega arith) (λ (q : GoesOn no_entry e). absurd (omega (arith, q.1))) (follow-cases no_entry e l.follows)

-- no number behind an entry is below its own
pub numbers-least : (n : ℕ) (before : List ℕ) (es : List (List ℕ)) → n ≤ number_of before → chained before es ≡ true → Each (λ (e : List ℕ). n ≤ number_of e) es
numbers-least n before [] k h = tt
numbers-least n before (e ∷ es) k h =
    let l = link before e es h in
    let m = (link-number before e l.follows).0 in
    let r : n ≤ number_of e = omega arith in
    (r, numbers-least n e es r l.chain)

-- nor above the last
numbers-most : (before : List ℕ) (es : List (List ℕ)) → chained before es ≡ true → (number_of before ≤ number_of (last_from before es)) × Each (λ (e : List ℕ). number_of e ≤ number_of (last_from before es)) es
unfolding last_from
numbers-most before [] h = (omega arith, tt)
numbers-most before (e ∷ es) h =
    let l = link before e es h in
    let n = (link-number before e l.follows).0 in
    let r = numbers-most e es l.chain in
    (omega (arith, r.0), (r.0, r.1))

numbers-from-1 : (es : List (List ℕ)) → chained no_entry es ≡ true → Each (λ (e : List ℕ). 1 ≤ number_of e) es
numbers-from-1 [] h = tt
numbers-from-1 (e ∷ es) h =
    let f = first-number e es h in
    let r : 1 ≤ number_of e = omega arith in
    (r, numbers-least 1 e es r (link no_entry e es h).chain)

-- each update's number is at least 1 and below the next
pub numbers-within : (es : List (List ℕ)) → chained no_entry es ≡ true → Each (λ (e : List ℕ). (1 ≤ number_of e) × (number_of e < next_number es)) es
unfolding next_number
numbers-within es h = join es (numbers-from-1 es h) (numbers-most no_entry es h).1
  where
    join : (xs : List (List ℕ)) → Each (λ (x : List ℕ). 1 ≤ number_of x) xs → Each (λ (x : List ℕ). number_of x ≤ number_of (last_from no_entry es)) xs
        → Each (λ (x : List ℕ). (1 ≤ number_of x) × (number_of x < next_number es)) xs
    join [] p q = tt
    join (x ∷ xs) p q = ((p.0, omega (arith, q.0)), join xs p.1 q.1)

-- from one update to the next the number stays or rises by one
pub numbers-rise : (before : List ℕ) (es : List (List ℕ)) → chained before es ≡ true → (i : ℕ) → suc i < length es →
    (number_of (get_or es i []) ≤ number_of (get_or es (suc i) [])) × (number_of (get_or es (suc i) []) ≤ number_of (get_or es i []) + 1)
numbers-rise before [] h i k = absurd (not-suc-le-zero k)
numbers-rise before (e ∷ []) h i k = absurd (not-suc-le-zero (le_of_suc-le-suc k))
numbers-rise before (e ∷ x ∷ es) h zero k = link-number e x (link e x es (link before e (x ∷ es) h).chain).follows
numbers-rise before (e ∷ x ∷ es) h (suc i) k = numbers-rise e (x ∷ es) (link before e (x ∷ es) h).chain i (le_of_suc-le-suc k)

-- ---- a message's entries

module _ (n : ℕ) where
  pub entries-here : (e : List ℕ) (es : List (List ℕ)) → number_of e ≡ n → message_entries n (e ∷ es) ≡ e ∷ message_entries n es
  unfolding message_entries
  entries-here e es q = rw (eq-eqb (number_of e) n q)

  entries-past : (e : List ℕ) (es : List (List ℕ)) → (number_of e ≡ n → ⊥) → message_entries n (e ∷ es) ≡ message_entries n es
  unfolding message_entries
  entries-past e es q = rw (ne_eqb (number_of e) n q)

  -- none where all numbers are above
  pub entries_none : (es : List (List ℕ)) → Each (λ (e : List ℕ). suc n ≤ number_of e) es → message_entries n es ≡ []
  unfolding message_entries
  entries_none [] h = refl
  entries_none (e ∷ es) h = let k = h.0 in entries-past e es (λ q. absurd (omega arith)) ∙ entries_none es h.1

  -- e goes on with message n, or all behind it are above
  abbrev pub Next : List ℕ → List ℕ → List (List ℕ) → Type 0
  Next before e es = (GoesOn before e × (number_of e ≡ n)) ⊎ Each (λ (x : List ℕ). suc n ≤ number_of x) (e ∷ es)

  pub next : (before e : List ℕ) (es : List (List ℕ)) → number_of before ≡ n → Link before e es → Next before e es
  next before e es q l =
      ⊎_elim
      (λ (b : Begins before e).
      let o : suc n ≤ number_of e = omega arith in
      inr (o, numbers-least (suc n) e es o l.chain))
      (λ (g : GoesOn before e). inl (g, g.0 ∙ q))
      (follow-cases before e l.follows)

  -- behind an entry of the message: the rest of it stands first, with the same sender and kind
  abbrev Like : List ℕ → List (List ℕ) → Type 0
  Like before es = Each (λ (e : List ℕ). (sender_of e ≡ sender_of before) × (kind_of e ≡ kind_of before)) es

  run-rest : (before : List ℕ) (es : List (List ℕ)) → number_of before ≡ n → chained before es ≡ true → message_entries n es ≡ take (run_of n es) es
  unfolding message_entries run_of
  run-rest before [] q h = refl
  run-rest before (e ∷ es) q h =
      let l = link before e es h in
      go l (run-rest e es) (next before e es q l)
    where
      go : Link before e es → (number_of e ≡ n → chained e es ≡ true → message_entries n es ≡ take (run_of n es) es) → Next before e es
          → message_entries n (e ∷ es) ≡ take (run_of n (e ∷ es)) (e ∷ es)
      go l ih (inl g) = entries-here e es g.1 ∙ rw (eq-eqb (number_of e) n g.1) (ap (λ (r : List (List ℕ)). e ∷ r) (ih g.1 l.chain))
      go l ih (inr g) = let k = g.0 in entries_none (e ∷ es) g ∙ rw (ne_eqb (number_of e) n (λ q. absurd (omega arith)))

  like-as : (a b : List ℕ) (es : List (List ℕ)) → sender_of a ≡ sender_of b → kind_of a ≡ kind_of b → Like a es → Like b es
  like-as a b [] s k h = tt
  like-as a b (e ∷ es) s k h = ((h.0.0 ∙ s, h.0.1 ∙ k), like-as a b es s k h.1)

  like-rest : (before : List ℕ) (es : List (List ℕ)) → number_of before ≡ n → chained before es ≡ true → Like before (message_entries n es)
  unfolding message_entries
  like-rest before [] q h = tt
  like-rest before (e ∷ es) q h =
      let l = link before e es h in
      go l (like-rest e es) (next before e es q l)
    where
      go : Link before e es → (number_of e ≡ n → chained e es ≡ true → Like e (message_entries n es)) → Next before e es → Like before (message_entries n (e ∷ es))
      go l ih (inl g) = rw (entries-here e es g.1) ((g.0.1, g.0.2), like-as e before (message_entries n es) g.0.1 g.0.2 (ih g.1 l.chain))
      go l ih (inr g) = rw (entries_none (e ∷ es) g) tt

  -- the message's entries stand together, from its first on
  pub message-run : (before : List ℕ) (es : List (List ℕ)) → chained before es ≡ true → message_entries n es ≡ take (run_of n (drop (first_entry_of n es) es)) (drop (first_entry_of n es) es)
  unfolding message_entries run_of first_entry_of
  message-run before [] h = refl
  message-run before (e ∷ es) h =
      let l = link before e es h in
      go (eqb (number_of e) n) refl l.chain (message-run e es l.chain)
    where
      go : (t : Bool) → eqb (number_of e) n ≡ t → chained e es ≡ true → message_entries n es ≡ take (run_of n (drop (first_entry_of n es) es)) (drop (first_entry_of n es) es)
          → on t (e ∷ message_entries n es) (message_entries n es) ≡ take (run_of n (drop (on t 0 (suc (first_entry_of n es))) (e ∷ es))) (drop (on t 0 (suc (first_entry_of n es))) (e ∷ es))
      go true q c ih = rw q (ap (λ (r : List (List ℕ)). e ∷ r) (run-rest e es (eqb-true _ _ q) c))
      go false q c ih = ih

  -- and share the sender and the kind of the first
  pub message-like : (before : List ℕ) (es : List (List ℕ)) → chained before es ≡ true → Like (get_or es (first_entry_of n es) []) (message_entries n es)
  unfolding message_entries first_entry_of
  message-like before [] h = tt
  message-like before (e ∷ es) h =
      let l = link before e es h in
      go (eqb (number_of e) n) refl l.chain (message-like e es l.chain)
    where
      go : (t : Bool) → eqb (number_of e) n ≡ t → chained e es ≡ true → Like (get_or es (first_entry_of n es) []) (message_entries n es)
          → Like (get_or (e ∷ es) (on t 0 (suc (first_entry_of n es))) []) (on t (e ∷ message_entries n es) (message_entries n es))
      go true q c ih = ((refl, refl), like-rest e es (eqb-true _ _ q) c)
      go false q c ih = ih

-- what holds of the entries of message n holds wherever its number stands
entries_at : (P : List ℕ → Type 0) (n : ℕ) (es : List (List ℕ)) → Each P (message_entries n es) → (i : ℕ) → i < length es → number_of (get_or es i []) ≡ n → P (get_or es i [])
unfolding message_entries
entries_at P n [] h i k q = absurd (not-suc-le-zero k)
entries_at P n (e ∷ es) h zero k q = (rw (entries-here n e es q) at h).0
entries_at P n (e ∷ es) h (suc i) k q = entries_at P n es (go (eqb (number_of e) n) h) i (le_of_suc-le-suc k) q
  where
    go : (t : Bool) → Each P (on t (e ∷ message_entries n es) (message_entries n es)) → Each P (message_entries n es)
    go true h = h.1
    go false h = h

-- updates of one number share sender and kind
pub numbers-like : (before : List ℕ) (es : List (List ℕ)) → chained before es ≡ true → (i j : ℕ) → i < length es → j < length es → number_of (get_or es i []) ≡ number_of (get_or es j [])
    → (sender_of (get_or es i []) ≡ sender_of (get_or es j [])) × (kind_of (get_or es i []) ≡ kind_of (get_or es j []))
numbers-like before es h i j x y q =
    let n = number_of (get_or es j []) in
    let l = message-like n before es h in
    let f = get_or es (first_entry_of n es) [] in
    let a = entries_at (λ (e : List ℕ). (sender_of e ≡ sender_of f) × (kind_of e ≡ kind_of f)) n es l i x q in
    let c = entries_at (λ (e : List ℕ). (sender_of e ≡ sender_of f) × (kind_of e ≡ kind_of f)) n es l j y refl in
    (a.0 ∙ sym c.0, a.1 ∙ sym c.1)
