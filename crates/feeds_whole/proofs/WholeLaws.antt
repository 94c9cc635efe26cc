use Prim.Native.Nat.{ℕ, ◌-◌, ◌≤◌, ◌<◌}
use native.Mathlib.Omega.{arith}
use mathlib.Core.Path.{◌≡◌, refl, sym, ap, subst, ◌∙◌}
use mathlib.Core.Bool.{Bool, true, false, ◌&&◌}
use mathlib.Core.List.{List, []}
use borrow.Author.Tests.{le-ltb, ltb-true, ltb-false}
use lib.Dec.{eqb, ltb}
use lib.ListN.{length, take, drop, length-drop, take-append-drop}
use lib.Seq.{length-take-le, take_all}
use Rattle.std.specs.Prelude.{Result, Ok, Err, ⊤}
use Rattle.lists.specs.Logic.{on}
use Rattle.lists.proofs.OverLaws.{over-nil}
use Rattle.syntax.specs.declared.Kind.TheVariants as Kinds
use Rattle.syntax.specs.declared.State.TheVariants as States
use Rattle.syntax.specs.Machine.{run, fault}
use Rattle.reader.specs.Rules.{largest, faults, fault_place}
use Rattle.feeds.specs.Feed.{Fed, no_bytes, is_open, fed}
use Rattle.feeds.specs.Kept.{new_feed}
use Rattle.turbo_lines.specs.Ended.{ended_lines}
use Rattle.calls.specs.Message.{message_table}
use Rattle.feeds_whole.specs.Parts.{valid_front}
use Rattle.feeds_whole.proofs.ByteLaws.{core_of, lines_on, Held, closed-bytes, valid, verdict_of, fed-bytes, fed-append}
use Rattle.feeds_whole.proofs.FoldLaws.{new_core}
use Rattle.feeds_whole.proofs.WeighLaws.{valid-front}

-- A feed from its beginning, once all bytes of a dossier came. Assumes nothing.

abbrev pub start : ℕ → ℕ → List ℕ → Fed
start sender form staging = record { feed = new_feed sender form; line = no_bytes; staging = staging }

pub start-held : (sender form : ℕ) (staging : List ℕ) → Held (start sender form staging) []
start-held sender form staging = record { line = sym (over-nil 0 no_bytes); size = refl }

-- the bytes d came
pub record Whole (register : List ℕ) (sender form : ℕ) (staging d : List ℕ) (y : Fed) : Type 0 where
  pub sent : y.feed.sender ≡ sender
  pub stated : y.feed.form ≡ form
  pub core : core_of y ≡ lines_on (message_table form) register sender (new_core staging) (ended_lines [] (valid_front d))
  pub at : length d ≤ largest → y.feed.at ≡ length d
  pub verdict : length d ≤ largest → verdict_of y.feed ≡ fault d
  pub over : largest < length d → largest < y.feed.at

pub valid-is : (w : List ℕ) → valid (States.Open Kinds.Nothing) w ≡ on (faults (fault w)) (take (fault_place (fault w)) w) w
unfolding fault
valid-is w = valid-front w (States.Open Kinds.Nothing) 0 ∙ go (run (States.Open Kinds.Nothing) w 0)
  where
    go : (v : Result ⊤ ℕ) → on (faults v) (take (fault_place v - 0) w) w ≡ on (faults v) (take (fault_place v) w) w
    go (Ok u) = refl
    go (Err j) = let e : j - 0 ≡ j = omega arith in ap (λ (n : ℕ). take n w) e

front-is : (d : List ℕ) → valid_front d ≡ valid (States.Open Kinds.Nothing) (take largest d)
unfolding valid_front
front-is d = sym (valid-is (take largest d))

front-short : (d : List ℕ) → length d ≤ largest → valid_front d ≡ valid (States.Open Kinds.Nothing) d
front-short d h = front-is d ∙ ap (valid (States.Open Kinds.Nothing)) (take_all largest d h)

-- the whole of a dossier without a fault
pub front-fine : (d : List ℕ) → length d ≤ largest → fault d ≡ Ok tt → valid_front d ≡ d
front-fine d h e = front-short d h ∙ valid-is d ∙ ap (λ (v : Result ⊤ ℕ). on (faults v) (take (fault_place v) d) d) e

-- whatever the dossier, they are at most 65,536
pub front-few : (d : List ℕ) → (w : List ℕ) × (length w ≤ largest) × (valid_front d ≡ valid (States.Open Kinds.Nothing) w)
front-few d = go (ltb largest (length d)) refl
  where
    go : (b : Bool) → ltb largest (length d) ≡ b → (w : List ℕ) × (length w ≤ largest) × (valid_front d ≡ valid (States.Open Kinds.Nothing) w)
    go true e = let k : largest < length d = ltb-true largest (length d) e in (take largest d, omega (arith, length-take-le largest d (omega arith)), front-is d)
    go false e = (d, ltb-false largest (length d) e, front-short d (ltb-false largest (length d) e))

module _ (register : List ℕ) (sender form : ℕ) (staging d : List ℕ) where
  whole-short : length d ≤ largest → Whole register sender form staging d (fed register (start sender form staging) d)
  unfolding fault
  whole-short h =
      let a = fed-bytes register d (start sender form staging) [] refl (omega arith) (start-held sender form staging) in
      record {
        sent = a.sender;
        stated = a.form;
        core = a.core ∙ ap (λ (v : List ℕ). lines_on (message_table form) register sender (new_core staging) (ended_lines [] v)) (sym (front-short d h));
        at = λ f. omega (arith, a.at);
        verdict = λ f. a.verdict;
        over = λ f. absurd (omega arith);
      }

  whole_long : largest < length d → Whole register sender form staging d (fed register (start sender form staging) d)
  whole_long h =
      let w = take largest d in
      let n : length w ≡ largest = length-take-le largest d (omega arith) in
      let a = fed-bytes register w (start sender form staging) [] refl (omega (arith, n)) (start-held sender form staging) in
      let m : (fed register (start sender form staging) w).feed.at ≡ largest = omega (arith, a.at, n) in
      let closed : is_open (fed register (start sender form staging) w).feed ≡ false = ap (λ (t : Bool). t && eqb (fed register (start sender form staging) w).feed.fault 0) (le-ltb (fed register (start sender form staging) w).feed.at largest (omega (arith, m))) in
      let c = closed-bytes register (drop largest d) (fed register (start sender form staging) w) closed in
      let e : fed register (start sender form staging) d ≡ fed register (fed register (start sender form staging) w) (drop largest d) =
      ap (fed register (start sender form staging)) (sym (take-append-drop largest d)) ∙ fed-append register w (drop largest d) (start sender form staging) in
      subst (Whole register sender form staging d) (sym e)
      (record {
        sent = c.sender ∙ a.sender;
        stated = c.form ∙ a.form;
        core = c.core ∙ a.core ∙ ap (λ (v : List ℕ). lines_on (message_table form) register sender (new_core staging) (ended_lines [] v)) (sym (front-is d));
        at = λ f. absurd (omega arith);
        verdict = λ f. absurd (omega arith);
        over = λ f. c.many (omega (arith, m, length-drop largest d, h));
      })

  pub whole-fed : Whole register sender form staging d (fed register (start sender form staging) d)
  whole-fed = go (ltb largest (length d)) refl
    where
      go : (b : Bool) → ltb largest (length d) ≡ b → Whole register sender form staging d (fed register (start sender form staging) d)
      go true e = whole_long (ltb-true largest (length d) e)
      go false e = whole-short (ltb-false largest (length d) e)
