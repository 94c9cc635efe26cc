-- The book in which message n is withdrawn: all updates written again with its entries marked, which is the marks alone written. Assumes nothing.
use mathlib.Core.Path.{◌≡◌, sym, ap, ◌∙◌}
use mathlib.Core.Bool.{true}
use mathlib.Core.List.{List, ◌++◌, map}
use Prim.Native.Nat.{ℕ, ◌+◌, ◌*◌, ◌-◌, ◌≤◌}
use native.Mathlib.Omega.{arith}
use lib.ListN.{length, take, drop, length-map}
use lib.Seq.{drop-drop, length-take-le}
use Rattle.lists.specs.Part.{part, over}
use Rattle.lists.specs.Rows.{rows_of, flat, Wide}
use Rattle.lists.proofs.EachLaws.{each_take, each-drop}
use Rattle.lists.proofs.OverLaws.{over-over, over-then, over-self}
use Rattle.lists.proofs.RowLaws.{flat_append, flat-before, flat-from}
use Rattle.lists.proofs.WideLaws.{length-flat}
use Rattle.book.specs.Entries.{plan_wide, entry_wide, plan_count, plan_bodies, updates_in}
use Rattle.book.specs.Rules.{no_entry, book_sound, message_entries, marked_withdrawn, withdrawn}
use Rattle.book.proofs.SoundLaws.{sound-facts}
use Rattle.book.proofs.WriteLaws.{wide-marked}
use Rattle.book.proofs.NumberLaws.{first-within}
use Rattle.book.proofs.SplitLaws.{split-updates, update_count, sound-split, wide-updates}
use Rattle.book.proofs.MessageLaws.{message-run}
use Rattle.book.proofs.ChangeLaws.{withdrawn-is}
use Rattle.book.proofs.AfterLaws.{message_run, run-within, message-length, after-withdrawal}
use Rattle.book.specs.inner.Steps.{first_entry_of}

-- bytes that stand there already, before and behind others, need not be written
over-between : (at k p j : ℕ) (xs ys zs d : List ℕ) → xs ≡ part at k d → zs ≡ part p j d → p ≡ at + length xs + length ys → over at (xs ++ (ys ++ zs)) d ≡ over (at + length xs) ys d
over-between at k p j xs ys zs d e f g =
    sym (over-then at xs (ys ++ zs) d)
    ∙ ap (over (at + length xs) (ys ++ zs)) (ap (λ (v : List ℕ). over at v d) e ∙ over-self at k d)
    ∙ sym (over-over (at + length xs) ys zs d)
    ∙ ap (over (at + length xs) ys) (ap (λ (m : ℕ). over m zs d) (sym g) ∙ ap (λ (v : List ℕ). over p v d) f ∙ over-self p j d)

module _ (used : ℕ) (b : List ℕ) (n : ℕ) (sound : book_sound used b ≡ true) where
  abbrev at : ℕ
  at = plan_count used b * plan_wide

  abbrev us : List (List ℕ)
  us = updates_in used b

  abbrev first : ℕ
  first = first_entry_of n us

  abbrev marks : List (List ℕ)
  marks = map marked_withdrawn (message_entries n us)

  abbrev IsWide : List ℕ → Type 0
  IsWide e = length e ≡ entry_wide

  abbrev count : ℕ
  count = update_count used b

  us-are : us ≡ rows_of entry_wide count (drop at b)
  us-are = split-updates used b (plan_count used b) count (sound-split used b sound)

  within : first + length (message_entries n us) ≤ count
  within = rw (message-length used b sound n) (run-within used b sound n)

  marks-wide : Wide entry_wide marks
  marks-wide = wide-marked entry_wide (message_entries n us) (rw (message-run n no_entry us (sound-facts used b sound).chain) (each_take IsWide (message_run used b sound n) (drop first us) (each-drop IsWide first us (wide-updates used b sound))))

  -- the updates before the message, and those behind it, as the book has them
  before-is : flat (take first us) ≡ part at (first * entry_wide) b
  unfolding part
  before-is = ap (λ (l : List (List ℕ)). flat (take first l)) us-are ∙ flat-before entry_wide count first (drop at b) (let h = within in omega arith)

  abbrev behind : ℕ
  behind = first + length (message_entries n us)

  behind-is : flat (drop behind us) ≡ part (at + behind * entry_wide) ((count - behind) * entry_wide) b
  unfolding part
  behind-is = ap (λ (l : List (List ℕ)). flat (drop behind l)) us-are ∙ flat-from entry_wide count behind (drop at b) within ∙ ap (take ((count - behind) * entry_wide)) (drop-drop (behind * entry_wide) at b)

  length_before : length (flat (take first us)) ≡ first * entry_wide
  length_before = length-flat entry_wide (take first us) (each_take IsWide first us (wide-updates used b sound)) ∙ ap (λ (m : ℕ). m * entry_wide) (length-take-le first us (first-within n us))

  length-marks : length (flat marks) ≡ length (message_entries n us) * entry_wide
  length-marks = length-flat entry_wide marks marks-wide ∙ ap (λ (m : ℕ). m * entry_wide) (length-map (message_entries n us) marked_withdrawn)

  pub marks-alone : over at (flat (withdrawn n us)) b ≡ over (at + first * entry_wide) (flat marks) b
  marks-alone =
      ap (λ (es : List (List ℕ)). over at (flat es) b) (withdrawn-is n no_entry us (sound-facts used b sound).chain)
      ∙ ap (λ (v : List ℕ). over at v b) (flat_append (take first us) _ ∙ ap (λ (v : List ℕ). flat (take first us) ++ v) (flat_append marks (drop behind us)))
      ∙ over-between at (first * entry_wide) (at + behind * entry_wide) ((count - behind) * entry_wide) (flat (take first us)) (flat marks) (flat (drop behind us)) b before-is behind-is
      (let p = length_before in let q = length-marks in omega arith)
      ∙ ap (λ (m : ℕ). over (at + m) (flat marks) b) length_before

  -- the plan, and the updates with the message withdrawn
  pub book-less : (book_sound used (over at (flat (withdrawn n us)) b) ≡ true)
      × (plan_bodies used (over at (flat (withdrawn n us)) b) ≡ plan_bodies used b)
      × (updates_in used (over at (flat (withdrawn n us)) b) ≡ withdrawn n us)
  book-less = let a = after-withdrawal used b sound n in rw marks-alone (a.0, a.2, a.3)
