-- A padded text compared by three numbers. Assumes nothing.
use mathlib.Core.Path.{◌≡◌, sym, ap, ◌∙◌}
use mathlib.Core.Bool.{Bool, true, ◌&&◌}
use mathlib.Core.List.{List, [], ◌∷◌, ◌++◌}
use Prim.Native.Nat.{ℕ, ◌+◌, ◌≤◌}
use native.Mathlib.Nat.{add-zero}
use native.Mathlib.Omega.{arith}
use borrow.Author.Tests.{eq-eqb, eqb-true}
use lib.Dec.{eqb}
use lib.ListN.{length}
use Rattle.lists.specs.Each.{Bytes}
use Rattle.lists.specs.Part.{part}
use Rattle.lists.specs.Text.{same}
use Rattle.lists.specs.BigEndian.{number}
use Rattle.lists.proofs.EachLaws.{bytes-part}
use Rattle.lists.proofs.PartLaws.{part-add, part-all, part-part, length_part}
use Rattle.lists.proofs.TextLaws.{same_refl, same-equal}
use Rattle.lists.proofs.BigEndianLaws.{number_same}
use Rattle.passage.specs.Layout.{text_wide}
use Rattle.lists.proofs.LogicLaws.{all_pass, tests-equal}

-- ten bytes are four, four and two
ten : (l : List ℕ) (p : ℕ) → part p text_wide l ≡ part p 4 l ++ (part (p + 4) 4 l ++ part (p + 8) 2 l)
ten l p =
    let e : p + 4 + 4 ≡ p + 8 = omega arith in
    let a : part p text_wide l ≡ part p 4 l ++ part (p + 4) 6 l = part-add p 4 6 l in
    let b : part (p + 4) 6 l ≡ part (p + 4) 4 l ++ part (p + 4 + 4) 2 l = part-add (p + 4) 4 2 l in
    a ∙ ap (λ (m : List ℕ). part p 4 l ++ m) (b ∙ ap (λ (k : ℕ). part (p + 4) 4 l ++ part k 2 l) e)

module _ (t text : List ℕ) (at : ℕ) (fits : at + text_wide ≤ length t) (wide : length text ≡ text_wide) where
  whole : part 0 text_wide text ≡ text
  whole = rw wide at (part-all text)

  -- equal texts have equal parts
  module _ (e : part at text_wide t ≡ text) where
    part-equal : (off len : ℕ) → off + len ≤ text_wide → number (part (at + off) len t) ≡ number (part off len text)
    part-equal off len h = ap number (sym (part-part off len at text_wide t h) ∙ ap (part off len) e)

    first-equal : number (part at 4 t) ≡ number (part 0 4 text)
    first-equal = rw (add-zero at) at (part-equal 0 4 (omega arith))

  -- equal numbers are those of equal bytes
  module _ (bt : Bytes t) (bx : Bytes text) where
    bytes-equal : (p q len : ℕ) → p + len ≤ length t → q + len ≤ length text → number (part p len t) ≡ number (part q len text) → part p len t ≡ part q len text
    bytes-equal p q len h k e =
        number_same (part p len t) (part q len text) (length_part p len t h ∙ sym (length_part q len text k)) (bytes-part p len t bt) (bytes-part q len text bx) e

    abbrev by_numbers : Bool
    by_numbers =
        eqb (number (part at 4 t)) (number (part 0 4 text))
        && eqb (number (part (at + 4) 4 t)) (number (part 4 4 text))
        && eqb (number (part (at + 8) 2 t)) (number (part 8 2 text))

    there : same (part at text_wide t) text ≡ true → by_numbers ≡ true
    there e =
        let q : part at text_wide t ≡ text = same-equal (part at text_wide t) text e in
        rw (eq-eqb _ _ (first-equal q), eq-eqb _ _ (part-equal q 4 4 (omega arith)), eq-eqb _ _ (part-equal q 8 2 (omega arith)))

    back : by_numbers ≡ true → same (part at text_wide t) text ≡ true
    back e =
        let p =
        all_pass (eqb (number (part at 4 t)) (number (part 0 4 text)))
        (eqb (number (part (at + 4) 4 t)) (number (part 4 4 text)) ∷ eqb (number (part (at + 8) 2 t)) (number (part 8 2 text)) ∷ [])
        e in
        let a = bytes-equal at 0 4 (omega arith) (omega arith) (eqb-true _ _ (p 0)) in
        let b = bytes-equal (at + 4) 4 4 (omega arith) (omega arith) (eqb-true _ _ (p 1)) in
        let c = bytes-equal (at + 8) 8 2 (omega arith) (omega arith) (eqb-true _ _ (p 2)) in
        let f : part at text_wide t ≡ part 0 4 text ++ (part 4 4 text ++ part 8 2 text) = rw (ten t at, a, b, c) in
        rw (f ∙ sym (ten text 0) ∙ whole) (same_refl text)

    pub same_numbers : same (part at text_wide t) text ≡ by_numbers
    same_numbers = tests-equal (same (part at text_wide t) text) by_numbers there back
