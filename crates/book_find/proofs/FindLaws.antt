-- The plan's row of a key, and how it is written. Assumes nothing.
use mathlib.Core.Path.{◌≡◌, refl, sym, ap, ◌∙◌}
use mathlib.Core.Bool.{true}
use mathlib.Core.List.{List, [], ◌∷◌, ◌++◌}
use Prim.Native.Nat.{ℕ, suc, ◌+◌, ◌*◌, ◌≤◌, ◌<◌}
use native.Mathlib.Omega.{arith}
use lib.ListN.{length, get_or, set}
use Rattle.lists.specs.Part.{part, over, some}
use Rattle.lists.specs.Rows.{rows_of, Wide}
use Rattle.lists.proofs.PartLaws.{length_part, part-part}
use Rattle.lists.proofs.OverLaws.{over-snoc}
use Rattle.lists.proofs.RowLaws.{length-rows_of, row-at}
use Rattle.passage.specs.Layout.{key_wide, body_wide, heard_at, key_of}
use Rattle.std.specs.Prelude.{Result, Ok, Err}
use Rattle.keys.specs.Keys.{cmp, by_order}
use Rattle.keys.specs.Sorted.{lookup_from, lookup, get}
use Rattle.keys.proofs.PutLaws.{get_at, lookup-within}
use Rattle.keys.proofs.StrideLaws.{get_d_map}
use Rattle.passage.proofs.PlanLaws.{body-made}
use Rattle.book.specs.Entries.{plan_wide, plan_body_of}
use Rattle.book.specs.Rules.{plan_row, plan_rows}
use Rattle.book.specs.inner.Steps.{plan_body_at}
use Rattle.book.proofs.PlaceLaws.{plan-body-at}
use Rattle.book.proofs.PlanLaws.{bodies, length-bodies, wide-bodies}

-- ---- the body of a plan entry

pub body_of : (n i : ℕ) (b : List ℕ) → i < n → get_or (bodies n b) i [] ≡ plan_body_at i b
body_of n i b h =
    let k : i < length (rows_of plan_wide n b) = rw length-rows_of h in
    get_d_map plan_body_of (rows_of plan_wide n b) i k ∙ ap plan_body_of (row-at plan_wide n i b h) ∙ plan-body-at i b

-- ---- a row has the key of its body

row-key : (body : List ℕ) → length body ≡ body_wide → key_of (plan_row body) ≡ key_of body
unfolding plan_row
row-key body h = sym (part-part 0 key_wide 0 body_wide (body ++ 0 ∷ []) (omega arith)) ∙ ap key_of (body-made body 0 h)

rows-lookup : (j : ℕ) (k : List ℕ) (bs : List (List ℕ)) → Wide body_wide bs → lookup_from j k (plan_rows bs) ≡ lookup_from j k bs
unfolding lookup_from plan_rows
rows-lookup j k [] w = refl
rows-lookup j k (b ∷ bs) w = rw (row-key b w.0) (ap (λ (f : Result ℕ ℕ). by_order (cmp (key_of b) k) f (Ok j) (Err j)) (rows-lookup (suc j) k bs w.1))

module _ (n : ℕ) (b k : List ℕ) (fits : n * plan_wide ≤ length b) where
  looked : lookup k (plan_rows (bodies n b)) ≡ lookup k (bodies n b)
  unfolding lookup
  looked = rows-lookup 0 k (bodies n b) (wide-bodies n b fits)

  pub found_below : (i : ℕ) → Ok i ≡ lookup k (bodies n b) → i < n
  found_below i e = rw (sym e, length-bodies n b) at (lookup-within k (bodies n b))

  pub row-found : (i : ℕ) → Ok i ≡ lookup k (bodies n b) → get k (plan_rows (bodies n b)) ≡ plan_body_at i b ++ 0 ∷ []
  unfolding plan_rows plan_row
  row-found i e =
      let h = found_below i e in
      let l : i < length (bodies n b) = rw (length-bodies n b) h in
      get_at k (plan_rows (bodies n b)) (Ok i) (looked ∙ sym e) ∙ get_d_map plan_row (bodies n b) i l ∙ ap plan_row (body_of n i b h)

  pub row-missing : (i : ℕ) → Err i ≡ lookup k (bodies n b) → get k (plan_rows (bodies n b)) ≡ []
  row-missing i e = get_at k (plan_rows (bodies n b)) (Err i) (looked ∙ sym e)

-- ---- the row as it is written: body, then heard 0

pub some-row : (body : List ℕ) → true ≡ some (body ++ 0 ∷ [])
some-row [] = refl
some-row (x ∷ body) = refl

pub row_written : (at p : ℕ) (b o u : List ℕ) → p + body_wide ≤ length b → u ≡ over at (part p body_wide b) o → set u (at + heard_at) 0 ≡ over at (part p body_wide b ++ 0 ∷ []) o
row_written at p b o u h e =
    let q : at + heard_at ≡ at + length (part p body_wide b) = rw (length_part p body_wide b h) in
    rw (e, q) (over-snoc at 0 (part p body_wide b) o)
