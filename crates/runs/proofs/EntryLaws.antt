-- The entries of one message, of one kind: what each field of them is, and what the book's rules make of them. Assumes nothing.
use mathlib.Core.Path.{◌≡◌, refl, sym, ap, ◌∙◌}
use mathlib.Core.Bool.{Bool, true, false}
use mathlib.Core.List.{List, [], ◌∷◌, ◌++◌, map}
use Prim.Native.Nat.{ℕ, ◌+◌, ◌^◌, ◌<◌}
use native.Mathlib.Nat.{not-suc-le-zero}
use native.Mathlib.Omega.{arith}
use lib.Dec.{eqb}
use lib.ListN.{length, take, drop, length-append}
use lib.Seq.{take_at, take_all, drop-append-add}
use Rattle.lists.specs.Logic.{on}
use Rattle.lists.specs.Part.{part}
use Rattle.lists.specs.BigEndian.{number, spelled}
use Rattle.lists.specs.Rows.{Wide}
use Rattle.lists.proofs.BigEndianLaws.{length-spelled, number_spelled}
use Rattle.passage.specs.Layout.{body_wide}
use Rattle.book.specs.Entries.{number_wide, entry_wide, number_of, entry_body, entry_of, entries_of}
use Rattle.book.specs.Rules.{marked_withdrawn, withdrawn, message_entries, standing, last_from}

-- an entry of any kind
abbrev pub entry_as : ℕ → ℕ → ℕ → List ℕ → List ℕ
entry_as kind n sender body = kind ∷ spelled number_wide n ++ sender ∷ body

abbrev pub entries_as : ℕ → ℕ → ℕ → List (List ℕ) → List (List ℕ)
entries_as kind n sender bodies = map (entry_as kind n sender) bodies

module _ (n sender : ℕ) where
  pub entries-standing : (bodies : List (List ℕ)) → entries_of n sender bodies ≡ entries_as 2 n sender bodies
  unfolding entries_of entry_of
  entries-standing bodies = refl

  pub entries-marked : (bodies : List (List ℕ)) → map marked_withdrawn (entries_of n sender bodies) ≡ entries_as 3 n sender bodies
  unfolding entries_of entry_of marked_withdrawn
  entries-marked [] = refl
  entries-marked (b ∷ bodies) = ap (λ (l : List (List ℕ)). entry_as 3 n sender b ∷ l) (entries-marked bodies)

-- ---- fields

module _ (kind n sender : ℕ) (body : List ℕ) where
  pub entry-number : n < 256 ^ 4 → number_of (entry_as kind n sender body) ≡ n
  unfolding part
  entry-number h = ap number (take_at (spelled number_wide n) (sender ∷ body) number_wide (length-spelled number_wide n)) ∙ number_spelled number_wide n h

  pub entry-body : length body ≡ body_wide → entry_body (entry_as kind n sender body) ≡ body
  unfolding part
  entry-body h =
      let e : length (spelled number_wide n) + 1 ≡ 5 = simp length-spelled (omega arith) in
      let d : drop 5 (spelled number_wide n ++ sender ∷ body) ≡ body = ap (λ (m : ℕ). drop m (spelled number_wide n ++ sender ∷ body)) (sym e) ∙ drop-append-add (spelled number_wide n) (sender ∷ body) 1 in
      ap (take body_wide) d ∙ take_all body_wide body (omega arith)

  pub entry-wide-is : length body ≡ body_wide → length (entry_as kind n sender body) ≡ entry_wide
  entry-wide-is h = simp (length-append, length-spelled) (omega arith)

-- ---- what the book's rules make of the entries of one message

module _ (kind m sender : ℕ) where
  pub entries-wide : (bodies : List (List ℕ)) → Wide body_wide bodies → Wide entry_wide (entries_as kind m sender bodies)
  entries-wide [] h = tt
  entries-wide (b ∷ bodies) h = (entry-wide-is kind m sender b h.0, entries-wide bodies h.1)

  -- where they stand, their bodies do
  pub standing-as : (bodies : List (List ℕ)) → Wide body_wide bodies → standing (entries_as kind m sender bodies) ≡ on (eqb kind 2) bodies []
  unfolding standing
  standing-as [] h = go (eqb kind 2)
    where
      go : (t : Bool) → ◌≡◌ {A = List (List ℕ)} [] (on t [] [])
      go true = refl
      go false = refl
  standing-as (b ∷ bodies) h = go (eqb kind 2) (standing-as bodies h.1)
    where
      go : (t : Bool) → standing (entries_as kind m sender bodies) ≡ on t bodies []
          → on t (entry_body (entry_as kind m sender b) ∷ standing (entries_as kind m sender bodies)) (standing (entries_as kind m sender bodies)) ≡ on t (b ∷ bodies) []
      go true ih = rw (entry-body kind m sender b h.0, ih)
      go false ih = ih

  module _ (fits : m < 256 ^ 4) where
    -- they are marked if the message is the one that is withdrawn
    pub withdrawn-as : (n : ℕ) (bodies : List (List ℕ)) → withdrawn n (entries_as kind m sender bodies) ≡ entries_as (on (eqb m n) 3 kind) m sender bodies
    unfolding withdrawn marked_withdrawn
    withdrawn-as n [] = refl
    withdrawn-as n (b ∷ bodies) = rw (entry-number kind m sender b fits) (go (eqb m n) (withdrawn-as n bodies))
      where
        go : (t : Bool) → withdrawn n (entries_as kind m sender bodies) ≡ entries_as (on t 3 kind) m sender bodies
            → on t (entry_as 3 m sender b) (entry_as kind m sender b) ∷ withdrawn n (entries_as kind m sender bodies) ≡ entries_as (on t 3 kind) m sender (b ∷ bodies)
        go true ih = rw ih
        go false ih = rw ih

    -- they are the message's if it is the one that is sought
    pub entries-of : (n : ℕ) (bodies : List (List ℕ)) → message_entries n (entries_as kind m sender bodies) ≡ on (eqb m n) (entries_as kind m sender bodies) []
    unfolding message_entries
    entries-of n [] = go (eqb m n)
      where
        go : (t : Bool) → ◌≡◌ {A = List (List ℕ)} [] (on t [] [])
        go true = refl
        go false = refl
    entries-of n (b ∷ bodies) = rw (entry-number kind m sender b fits) (go (eqb m n) (entries-of n bodies))
      where
        go : (t : Bool) → message_entries n (entries_as kind m sender bodies) ≡ on t (entries_as kind m sender bodies) []
            → on t (entry_as kind m sender b ∷ message_entries n (entries_as kind m sender bodies)) (message_entries n (entries_as kind m sender bodies))
            ≡ on t (entries_as kind m sender (b ∷ bodies)) []
        go true ih = rw ih
        go false ih = ih

    -- the last of them, or an entry before them with the same number, has the number
    last-after : (bodies : List (List ℕ)) (e : List ℕ) → number_of e ≡ m → number_of (last_from e (entries_as kind m sender bodies)) ≡ m
    unfolding last_from
    last-after [] e h = h
    last-after (b ∷ bodies) e h = last-after bodies (entry_as kind m sender b) (entry-number kind m sender b fits)

    pub last_as : (bodies : List (List ℕ)) (e : List ℕ) → 0 < length bodies → number_of (last_from e (entries_as kind m sender bodies)) ≡ m
    unfolding last_from
    last_as [] e h = absurd (not-suc-le-zero h)
    last_as (b ∷ bodies) e h = last-after bodies (entry_as kind m sender b) (entry-number kind m sender b fits)

-- ---- entries behind others

pub withdrawn-append : (n : ℕ) (xs ys : List (List ℕ)) → withdrawn n (xs ++ ys) ≡ withdrawn n xs ++ withdrawn n ys
unfolding withdrawn
withdrawn-append n [] ys = refl
withdrawn-append n (x ∷ xs) ys = rw (withdrawn-append n xs ys)

pub entries-append : (n : ℕ) (xs ys : List (List ℕ)) → message_entries n (xs ++ ys) ≡ message_entries n xs ++ message_entries n ys
unfolding message_entries
entries-append n [] ys = refl
entries-append n (x ∷ xs) ys = go (eqb (number_of x) n) (entries-append n xs ys)
  where
    go : (t : Bool) → message_entries n (xs ++ ys) ≡ message_entries n xs ++ message_entries n ys
        → on t (x ∷ message_entries n (xs ++ ys)) (message_entries n (xs ++ ys)) ≡ on t (x ∷ message_entries n xs) (message_entries n xs) ++ message_entries n ys
    go true ih = rw ih
    go false ih = ih

pub last-append : (e : List ℕ) (xs ys : List (List ℕ)) → last_from e (xs ++ ys) ≡ last_from (last_from e xs) ys
unfolding last_from
last-append e [] ys = refl
last-append e (x ∷ xs) ys = last-append x xs ys
