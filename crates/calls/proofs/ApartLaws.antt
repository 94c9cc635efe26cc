-- Rows put one after another are as many as there were exactly where no two have one key; so exactly when an open is accepted. Assumes nothing.
use Prim.Native.Nat.{ℕ, suc, ◌+◌, ◌<◌}
use native.Mathlib.Nat.{add-zero}
use native.Mathlib.Omega.{arith}
use mathlib.Core.Path.{◌≡◌, sym, ap, ◌∙◌}
use mathlib.Core.Bool.{true}
use mathlib.Core.List.{List, [], ◌∷◌}
use mathlib.Core.Logic.{◌⊎◌, inl, inr}
use borrow.Author.Tests.{le-leb, eq-eqb}
use lib.ListN.{length}
use Rattle.lists.specs.Each.{Each}
use Rattle.passage.specs.Layout.{key_of}
use Rattle.plan.specs.Claims.{Passage}
use Rattle.keys.specs.Sorted.{get, put, put_all}
use Rattle.keys.proofs.KeyLaws.{cmp-same}
use Rattle.keys.proofs.PutLaws.{get_none, get-put, get-put-other}
use Rattle.keys.proofs.CountLaws.{length-put-new, length-put-held, put-most, each-put}
use Rattle.keys.proofs.EqualLaws.{Filled, filled-not}
use Rattle.keys.proofs.ReplayLaws.{empty-or}
use Rattle.table.specs.Rules.{table_room}
use Rattle.book.specs.Rules.{book_room}
use Rattle.calls.specs.Answers.{is_accepted}
use Rattle.calls.specs.Open.{passages_of, room_to_open, open_answer}
use Rattle.calls.specs.Claims.{Apart, OpenAcceptedExactly}
use Rattle.calls.proofs.OpenedLaws.{Opened, open-taken, put_all-most, joined-in-range}

-- no row has the key of any of these
abbrev NoneHeld : List (List ℕ) → List (List ℕ) → Type 0
NoneHeld qs rs = Each (λ (q : List ℕ). get (key_of q) rs ≡ []) qs

filled_put : (q : List ℕ) (rs : List (List ℕ)) → 0 < length q → Filled rs → Filled (put q rs)
filled_put q rs h f = each-put (λ (r : List ℕ). 0 < length r) q rs h f

-- none held among the rows and one more, where its key is none of theirs
held_more : (q : List ℕ) (qs rs : List (List ℕ)) → Each (λ (c : List ℕ). key_of q ≡ key_of c → ⊥) qs → NoneHeld qs rs → NoneHeld qs (put q rs)
held_more q [] rs a h = tt
held_more q (c ∷ qs) rs a h =
    (get-put-other (key_of c) q rs (λ e. a.0 (cmp-same (key_of q) (key_of c) e)) ∙ h.0, held_more q qs rs a.1 h.1)

-- and back
held-less : (q : List ℕ) (qs rs : List (List ℕ)) → 0 < length q → NoneHeld qs (put q rs) → Each (λ (c : List ℕ). key_of q ≡ key_of c → ⊥) qs × NoneHeld qs rs
held-less q [] rs f h = (tt, tt)
held-less q (c ∷ qs) rs f h =
    let other : key_of q ≡ key_of c → ⊥ = λ e. filled-not q f (sym (get-put q rs) ∙ ap (λ (k : List ℕ). get k (put q rs)) e ∙ h.0) in
    let rest = held-less q qs rs f h.1 in
    ((other, rest.0), (sym (get-put-other (key_of c) q rs (λ e. other (cmp-same (key_of q) (key_of c) e))) ∙ h.0, rest.1))

apart-all : (qs rs : List (List ℕ)) → Filled qs → Filled rs → Apart qs → NoneHeld qs rs → length (put_all qs rs) ≡ length qs + length rs
unfolding put_all
apart-all [] rs f g a h = omega arith
apart-all (q ∷ qs) rs f g a h =
    let one = length-put-new q rs g h.0 in
    let all = apart-all qs (put q rs) f.1 (filled_put q rs f.0 g) a.1 (held_more q qs rs a.0 h.1) in
    omega arith

all_apart : (qs rs : List (List ℕ)) → Filled qs → Filled rs → length (put_all qs rs) ≡ length qs + length rs → Apart qs × NoneHeld qs rs
unfolding put_all
all_apart [] rs f g e = (tt, tt)
all_apart (q ∷ qs) rs f g e =
    let most = put_all-most qs (put q rs) in
    let one = put-most q rs in
    let more : length (put q rs) ≡ suc (length rs) = omega arith in
    let rest = all_apart qs (put q rs) f.1 (filled_put q rs f.0 g) (omega arith) in
    let less = held-less q qs rs f.0 rest.1 in
    ((less.0, rest.0), (new more, less.1))
  where
    new : length (put q rs) ≡ suc (length rs) → get (key_of q) rs ≡ []
    new m = go (empty-or (get (key_of q) rs))
      where
        go : (get (key_of q) rs ≡ []) ⊎ (get (key_of q) rs ≡ [] → ⊥) → get (key_of q) rs ≡ []
        go (inl h) = h
        go (inr h) = absurd (let l = length-put-held q rs h in omega arith)

filled-passages : (bs : List (List ℕ)) → Each Passage bs → Filled bs
filled-passages [] h = tt
filled-passages (b ∷ bs) h = ((let l = h.0.1 in omega arith), filled-passages bs h.1)

none-held : (qs : List (List ℕ)) → NoneHeld qs []
none-held [] = tt
none-held (q ∷ qs) = (get_none (key_of q), none-held qs)

-- all that open asks for suffices
open-accepts : (planning calendar book table : List ℕ) → Opened planning calendar book table → is_accepted (open_answer planning calendar book table) ≡ true
unfolding open_answer room_to_open
open-accepts planning calendar book table o =
    rw (o.planned.1, o.dated.1, le-leb _ (book_room book) o.book-room, eq-eqb _ (length (passages_of planning calendar)) o.once, le-leb _ (table_room table) o.table-room)

pub open-exactly : OpenAcceptedExactly
unfolding passages_of
open-exactly planning calendar book table = (
  λ e.
      let o = open-taken planning calendar book table e in
      let f = filled-passages (passages_of planning calendar) (joined-in-range planning calendar o.planned o.dated) in
      (o.planned, o.dated, o.book-room, (all_apart (passages_of planning calendar) [] f tt (o.once ∙ sym (add-zero (length (passages_of planning calendar))))).0, o.table-room),
  λ (planned, dated, book-room, apart, table-room).
      let f = filled-passages (passages_of planning calendar) (joined-in-range planning calendar planned dated) in
      let once = apart-all (passages_of planning calendar) [] f tt apart (none-held (passages_of planning calendar)) ∙ add-zero (length (passages_of planning calendar)) in
      open-accepts planning calendar book table record { planned = planned; dated = dated; book-room = book-room; once = once; table-room = table-room },
)
