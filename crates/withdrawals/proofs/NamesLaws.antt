-- The keys that entries name: sorted, each once, they are the same keys. Assumes nothing.
use mathlib.Core.Path.{◌≡◌, refl, sym, ap, ◌∙◌}
use mathlib.Core.Bool.{Bool, true, false, ◌||◌}
use mathlib.Core.Logic.{inl, inr}
use mathlib.Core.List.{List, [], ◌∷◌, ◌++◌, map, append-nil}
use Prim.Native.Nat.{ℕ, zero, suc, ◌+◌, ◌*◌, ◌≤◌}
use native.Mathlib.Numerals.{add-one}
use native.Mathlib.Omega.{arith}
use lib.ListN.{length, take}
use Rattle.book.specs.Rules.{keys_named}
use Rattle.lists.specs.Text.{same}
use Rattle.lists.specs.Part.{part}
use Rattle.lists.specs.Rows.{rows_of}
use Rattle.lists.proofs.PartLaws.{part-part}
use Rattle.lists.proofs.RowLaws.{rows_of-append, flat-rows_of, length-rows_of}
use Rattle.lists.proofs.WideLaws.{wide-rows_of, rows_of-flat}
use Rattle.passage.specs.Layout.{key_wide, body_wide, key_of}
use Rattle.keys.specs.Keys.{cmp, by_order}
use Rattle.keys.proofs.KeyLaws.{cmp-same, Cases, cases}
use Rattle.keys.proofs.ReplayLaws.{among}
use Rattle.sorting.specs.Rules.{key_at, keys_of, placed, sorted_places}
use Rattle.book.specs.Entries.{entry_wide, body_at, entry_body}
use Rattle.withdrawals_replay.specs.inner.Worked.{names_at}
use Rattle.withdrawals.proofs.RowsLaws.{or_swap}

or-twice : (a b : Bool) → (a || b) ≡ (a || (a || b))
or-twice true b = refl
or-twice false b = refl

module _ (x : List ℕ) where
  -- a place put in by key adds its key
  among-placed : (key : ℕ → List ℕ) (i : ℕ) (js : List ℕ) → among x (keys_of key (placed key i js)) ≡ (same (key i) x || among x (keys_of key js))
  unfolding among keys_of placed
  among-placed key i [] = refl
  among-placed key i (j ∷ js) = go (among-placed key i js) (cases (cmp (key j) (key i)))
    where
      go : among x (map key (placed key i js)) ≡ (same (key i) x || among x (map key js)) → Cases (cmp (key j) (key i))
          → among x (map key (by_order (cmp (key j) (key i)) (j ∷ placed key i js) (j ∷ js) (i ∷ j ∷ js))) ≡ (same (key i) x || (same (key j) x || among x (map key js)))
      go ih (inl e) = rw e (ap (◌||◌ (same (key j) x)) ih ∙ or_swap (same (key j) x) (same (key i) x) (among x (map key js)))
      go ih (inr (inl e)) = rw (e, cmp-same (key j) (key i) e) (or-twice (same (key i) x) (among x (map key js)))
      go ih (inr (inr e)) = rw e

  among-last : (ks : List (List ℕ)) (k : List ℕ) → among x (ks ++ k ∷ []) ≡ (same k x || among x ks)
  unfolding among
  among-last [] k = refl
  among-last (j ∷ ks) k = ap (◌||◌ (same j x)) (among-last ks k) ∙ or_swap (same j x) (same k x) (among x ks)

-- the key of an entry where it stands
entry_key : (e : List ℕ) (i : ℕ) → key_of (entry_body (part (i * entry_wide) entry_wide e)) ≡ key_at e body_at entry_wide i
unfolding key_at
entry_key e i =
    let a : i * entry_wide + body_at + 0 ≡ i * entry_wide + body_at = omega arith in
    ap (part 0 key_wide) (part-part body_at body_wide (i * entry_wide) entry_wide e (omega arith))
    ∙ part-part 0 key_wide (i * entry_wide + body_at) body_wide e (omega arith) ∙ rw a

named-last : (es : List (List ℕ)) (e : List ℕ) → keys_named (es ++ e ∷ []) ≡ keys_named es ++ key_of (entry_body e) ∷ []
unfolding keys_named
named-last [] e = refl
named-last (d ∷ es) e = ap (λ (l : List (List ℕ)). key_of (entry_body d) ∷ l) (named-last es e)

last_row : (m : ℕ) (e : List ℕ) → rows_of entry_wide (m + 1) e ≡ rows_of entry_wide m e ++ part (m * entry_wide) entry_wide e ∷ []
unfolding part rows_of
last_row m e = rows_of-append entry_wide m 1 e

-- sorted names are the names
pub names-among : (x e : List ℕ) (m : ℕ) → among x (names_at e (sorted_places (key_at e body_at entry_wide) m)) ≡ among x (keys_named (rows_of entry_wide m e))
unfolding sorted_places keys_of keys_named rows_of among
names-among x e zero = refl
names-among x e (suc m) =
    let key = key_at e body_at entry_wide in
    let last : rows_of entry_wide (m + 1) e ≡ rows_of entry_wide m e ++ part (m * entry_wide) entry_wide e ∷ [] = last_row m e in
    among-placed x key m (sorted_places key m)
    ∙ ap (◌||◌ (same (key m) x)) (names-among x e m)
    ∙ sym (ap (λ (l : List (List ℕ)). among x (keys_named l)) (ap (λ (j : ℕ). rows_of entry_wide j e) (sym (add-one m)) ∙ last)
    ∙ ap (among x) (named-last (rows_of entry_wide m e) (part (m * entry_wide) entry_wide e))
    ∙ among-last x (keys_named (rows_of entry_wide m e)) (key_of (entry_body (part (m * entry_wide) entry_wide e))) ∙ rw (entry_key e m))

-- the entries of a lent part are those of the book
pub lent_rows : (w m : ℕ) (t : List ℕ) → m * w ≤ length t → rows_of w m (take (m * w) t) ≡ rows_of w m t
lent_rows w m t h =
    let rs = rows_of w m t in
    ap (rows_of w m) (sym (flat-rows_of w m t) ∙ sym (append-nil _)) ∙ rw (length-rows_of w m t) at (rows_of-flat w rs [] (wide-rows_of w m t h))
