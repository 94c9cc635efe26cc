-- The updates of the book, one after another, taken into slots. Assumes nothing.
use mathlib.Core.Path.{◌≡◌, refl, sym, ap, ◌∙◌}
use mathlib.Core.Bool.{Bool, true, false}
use mathlib.Core.List.{List, [], ◌∷◌, ◌++◌, map, map-map}
use Prim.Native.Nat.{ℕ, ◌+◌, ◌*◌, ◌≤◌, ◌<◌}
use native.Mathlib.Omega.{arith}
use borrow.Author.Tests.{eq-eqb, ne_eqb}
use lib.Dec.{eqb}
use lib.ListN.{length, drop, get_or, length-map}
use lib.Seq.{get_or-set_same}
use Rattle.lists.specs.Logic.{on}
use Rattle.lists.specs.Part.{part, over}
use Rattle.lists.specs.Rows.{rows_of, Wide}
use Rattle.lists.specs.BigEndian.{number}
use Rattle.lists.proofs.PartLaws.{length_part}
use Rattle.lists.proofs.ReadLaws.{drop-behind}
use Rattle.lists.proofs.RowLaws.{row-at, length-rows_of}
use Rattle.passage.specs.Layout.{key_wide, body_wide, key_of}
use Rattle.std.specs.Prelude.{Result, Ok, Err}
use Rattle.keys.specs.Sorted.{sorted_rows, lookup}
use Rattle.keys.proofs.PutLaws.{lookup-within}
use Rattle.update.specs.Rule.{row_rule}
use Rattle.update.proofs.RuleLaws.{rule-wide}
use Rattle.book.specs.Entries.{entry_wide, number_offset, number_wide, body_at, kind_of, number_of, entry_body}
use Rattle.book.specs.Rules.{marked_withdrawn, withdrawn, standing}
use Rattle.book.proofs.PlaceLaws.{kind_at, number-from, body-from, rest, rest-start, rest-step, rest_end}
use Rattle.book.proofs.PlanLaws.{plan-key-at}
use Rattle.withdrawals_replay.specs.inner.Slots.{slot_wide, slots_of, slot_key, slot_row}
use Rattle.withdrawals_replay.specs.inner.Worked.{take_in, taken_in, heard_in}
use Rattle.withdrawals_replay.proofs.SlotLaws.{taken-append, heard-key}
use Rattle.withdrawals_replay.proofs.SlotWriteLaws.{slots_set}
use Rattle.withdrawals_replay.proofs.TakeLaws.{take_found}

-- ---- one update, by where its key is found among the slots

map-agree : (f g : List ℕ → List ℕ) (l : List (List ℕ)) → ((s : List ℕ) → f s ≡ g s) → map f l ≡ map g l
map-agree f g [] h = refl
map-agree f g (s ∷ l) h = rw (h s, map-agree f g l h)

map_same : (f : List ℕ → List ℕ) (l : List (List ℕ)) → ((s : List ℕ) → f s ≡ s) → map f l ≡ l
map_same f [] h = refl
map_same f (s ∷ l) h = rw (h s, map_same f l h)

module _ (c p : ℕ) (b d : List ℕ) (names : List (List ℕ)) (fits : c * slot_wide ≤ length d) (body : p + body_wide ≤ length b) (rises : sorted_rows names ≡ true) (keys : map slot_key (slots_of c d) ≡ names) where
  abbrev u : List ℕ
  u = part p body_wide b

  found_as : (f : Result ℕ ℕ) → f ≡ lookup (part p key_wide b) names → lookup (key_of u) (map slot_key (slots_of c d)) ≡ f
  found_as f e = rw (keys, plan-key-at p b) (sym e)

  pub update-below : (i : ℕ) → Ok i ≡ lookup (part p key_wide b) names → i < c
  update-below i e =
      let w = rw (sym e, ← keys) at (lookup-within (part p key_wide b) names) in
      let l : length (map slot_key (slots_of c d)) ≡ c = length-map (slots_of c d) slot_key ∙ length-rows_of slot_wide c d in
      omega arith

  pub update-taken : (i : ℕ) (s : List ℕ) → Ok i ≡ lookup (part p key_wide b) names → s ≡ over (i * slot_wide) (1 ∷ row_rule (slot_row (part (i * slot_wide) slot_wide d)) u) d
      → slots_of c s ≡ map (take_in u) (slots_of c d)
  update-taken i s e g =
      let h = update-below i e in
      let wide = rule-wide (slot_row (part (i * slot_wide) slot_wide d)) u (length_part p body_wide b body) in
      ap (slots_of c) g
      ∙ slots_set c i (1 ∷ row_rule (slot_row (part (i * slot_wide) slot_wide d)) u) d fits h (omega arith)
      ∙ rw (← row-at slot_wide c i d h) (sym (take_found u (slots_of c d) (Ok i) (rw keys rises) (found_as (Ok i) e)))

  -- what lies behind the slots stays
  pub update-rest : (i : ℕ) (s : List ℕ) → Ok i ≡ lookup (part p key_wide b) names → s ≡ over (i * slot_wide) (1 ∷ row_rule (slot_row (part (i * slot_wide) slot_wide d)) u) d
      → drop (c * slot_wide) s ≡ drop (c * slot_wide) d
  update-rest i s e g =
      let h = update-below i e in
      let wide = rule-wide (slot_row (part (i * slot_wide) slot_wide d)) u (length_part p body_wide b body) in
      ap (drop (c * slot_wide)) g ∙ drop-behind (c * slot_wide) (i * slot_wide) (1 ∷ row_rule (slot_row (part (i * slot_wide) slot_wide d)) u) d (omega arith)

  pub update-missing : (i : ℕ) → Err i ≡ lookup (part p key_wide b) names → slots_of c d ≡ map (take_in u) (slots_of c d)
  update-missing i e = sym (take_found u (slots_of c d) (Err i) (rw keys rises) (found_as (Err i) e))

-- ---- one entry: it is taken if it stands and is of another message

module _ (n : ℕ) (e : List ℕ) (filled : 0 < length e) where
  -- a withdrawn entry does not stand
  marked-kind : eqb (kind_of (marked_withdrawn e)) 2 ≡ false
  unfolding marked_withdrawn
  marked-kind = rw (get_or-set_same e 0 3 0 filled)

  pub heard-own : number_of e ≡ n → standing (withdrawn n (e ∷ [])) ≡ []
  unfolding withdrawn standing
  heard-own h = rw (eq-eqb (number_of e) n h, marked-kind)

  pub heard-fallen : (kind_of e ≡ 2 → ⊥) → standing (withdrawn n (e ∷ [])) ≡ []
  unfolding withdrawn standing
  heard-fallen h = go (eqb (number_of e) n)
    where
      go : (t : Bool) → on (eqb (kind_of (on t (marked_withdrawn e) e)) 2) (entry_body (on t (marked_withdrawn e) e) ∷ []) [] ≡ []
      go true = rw marked-kind
      go false = rw (ne_eqb (kind_of e) 2 h)

  pub heard-other : kind_of e ≡ 2 → (number_of e ≡ n → ⊥) → standing (withdrawn n (e ∷ [])) ≡ entry_body e ∷ []
  unfolding withdrawn standing
  heard-other k h = rw (ne_eqb (number_of e) n h, eq-eqb (kind_of e) 2 k)

module _ (n p : ℕ) (b : List ℕ) (ss : List (List ℕ)) (fits : p + entry_wide ≤ length b) where
  abbrev e : List ℕ
  e = part p entry_wide b

  filled : 0 < length e
  filled = rw (length_part p entry_wide b fits) (omega arith)

  skipped : standing (withdrawn n (e ∷ [])) ≡ [] → ss ≡ map (heard_in n (e ∷ [])) ss
  unfolding heard_in taken_in
  skipped h = sym (map_same (heard_in n (e ∷ [])) ss (λ s. ap (λ (us : List (List ℕ)). taken_in us s) h))

  pub entry-own : number (part (p + number_offset) number_wide b) ≡ n → ss ≡ map (heard_in n (e ∷ [])) ss
  entry-own h = skipped (heard-own n e filled (number-from p b ∙ h))

  pub entry-fallen : (get_or b p 0 ≡ 2 → ⊥) → ss ≡ map (heard_in n (e ∷ [])) ss
  entry-fallen h = skipped (heard-fallen n e filled (λ k. h (sym (kind_at p b) ∙ k)))

  pub entry_other : get_or b p 0 ≡ 2 → (number (part (p + number_offset) number_wide b) ≡ n → ⊥) → map (take_in (part (p + body_at) body_wide b)) ss ≡ map (heard_in n (e ∷ [])) ss
  unfolding heard_in taken_in
  entry_other k h =
      rw (← body-from p b)
      (map-agree (take_in (entry_body e)) (heard_in n (e ∷ [])) ss
      (λ s. sym (ap (λ (us : List (List ℕ)). taken_in us s) (heard-other n e filled (kind_at p b ∙ k) (λ g. h (sym (number-from p b) ∙ g))))))

-- ---- all of them, one after another

standing-cons : (e : List ℕ) (es : List (List ℕ)) → standing (e ∷ es) ≡ standing (e ∷ []) ++ standing es
unfolding standing
standing-cons e es = go (eqb (kind_of e) 2)
  where
    go : (t : Bool) → on t (entry_body e ∷ standing es) (standing es) ≡ on t (entry_body e ∷ []) [] ++ standing es
    go true = refl
    go false = refl

heard-cons : (n : ℕ) (e : List ℕ) (es : List (List ℕ)) (s : List ℕ) → heard_in n (e ∷ es) s ≡ heard_in n es (heard_in n (e ∷ []) s)
unfolding heard_in withdrawn
heard-cons n e es s =
    ap (λ (us : List (List ℕ)). taken_in us s) (standing-cons (on (eqb (number_of e) n) (marked_withdrawn e) e) (withdrawn n es))
    ∙ taken-append (standing (on (eqb (number_of e) n) (marked_withdrawn e) e ∷ [])) (standing (withdrawn n es)) s

heard-none : (n : ℕ) (s : List ℕ) → heard_in n [] s ≡ s
unfolding heard_in taken_in withdrawn standing
heard-none n s = refl

-- after i of k updates from `at` on
pub record Heard (n : ℕ) (b : List ℕ) (at k : ℕ) (names ss₀ : List (List ℕ)) (i : ℕ) (ss : List (List ℕ)) : Type 0 where
  pub keys : map slot_key ss ≡ names
  pub left : map (heard_in n (rest b at k i)) ss ≡ map (heard_in n (rows_of entry_wide k (drop at b))) ss₀

module _ (n : ℕ) (b : List ℕ) (at k : ℕ) (names ss₀ : List (List ℕ)) where
  pub heard-start : map slot_key ss₀ ≡ names → Heard n b at k names ss₀ 0 ss₀
  heard-start h = record { keys = h; left = rw (rest-start b at k) }

  pub heard-turn : (i : ℕ) (ss qs : List (List ℕ)) → at + k * entry_wide ≤ length b → i < k → Heard n b at k names ss₀ i ss
      → qs ≡ map (heard_in n (part (at + i * entry_wide) entry_wide b ∷ [])) ss → Heard n b at k names ss₀ (i + 1) qs
  heard-turn i ss qs fits h inv e =
      let x = part (at + i * entry_wide) entry_wide b in
      let w : Wide entry_wide (x ∷ []) = (length_part (at + i * entry_wide) entry_wide b (omega arith), tt) in
      record {
        keys = ap (map slot_key) e ∙ map-map slot_key (heard_in n (x ∷ [])) ss ∙ map-agree (λ (s : List ℕ). slot_key (heard_in n (x ∷ []) s)) slot_key ss (λ s. heard-key n (x ∷ []) w s) ∙ inv.keys;
        left =
            ap (map (heard_in n (rest b at k (i + 1)))) e
            ∙ map-map (heard_in n (rest b at k (i + 1))) (heard_in n (x ∷ [])) ss
            ∙ map-agree (λ (s : List ℕ). heard_in n (rest b at k (i + 1)) (heard_in n (x ∷ []) s)) (heard_in n (rest b at k i)) ss
            (λ s. sym (rw (rest-step b at k i h) (heard-cons n x (rest b at k (i + 1)) s)))
            ∙ inv.left;
      }

  pub heard-end : (i : ℕ) (ss : List (List ℕ)) → k ≤ i → Heard n b at k names ss₀ i ss → ss ≡ map (heard_in n (rows_of entry_wide k (drop at b))) ss₀
  heard-end i ss h inv = sym (map_same (heard_in n (rest b at k i)) ss (λ s. rw (rest_end b at k i h) (heard-none n s))) ∙ inv.left
