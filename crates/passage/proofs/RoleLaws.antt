-- The four texts of a body, tested byte by byte by the roles of their bytes. Assumes nothing.
use mathlib.Core.Path.{◌≡◌, ◌∙◌, refl, sym}
use mathlib.Core.Bool.{Bool, true, false, not, ◌&&◌, ◌||◌}
use mathlib.Core.List.{List, [], ◌∷◌, ◌++◌}
use Prim.Native.Nat.{ℕ, zero, suc, ◌+◌, ◌-◌, ◌≤◌, ◌<◌}
use native.Mathlib.Nat.{add-zero}
use native.Mathlib.Numerals.{add-one}
use native.Mathlib.Omega.{arith}
use borrow.Author.Tests.{eqb-true, ne_eqb}
use lib.Dec.{eqb, eqb→eq, leb, ltb}
use lib.ListN.{length, get_or, take, drop, replicate, length-drop, length-replicate}
use lib.Seq.{drop-cons, drop-drop, get_or-drop, get_or-take, length-take-le}
use mir.Val.{bool_byte}
use Rattle.lists.specs.Logic.{on, within}
use Rattle.lists.specs.Part.{part}
use Rattle.lists.proofs.LogicLaws.{and-false, and-true, and_assoc, bool-most}
use Rattle.lists.proofs.PartLaws.{part-part}
use Rattle.clock.proofs.BelowLaws.{below_at}
use Rattle.passage.specs.Layout.{text_wide, date_wide, journey_wide, order_wide, owner_at, line_at, stop_at, destination_at, body_wide}
use Rattle.passage.specs.Ranges.{all_zero, text_then_zeros, padded_text}
use Rattle.passage.specs.inner.Roles.{role_in, text_roles, roles_wide, roles, breaks_text, texts_padded}

-- no byte breaks its text: the roles, and the bytes from the first role's byte on
unfoldable pub clean : List ℕ → List ℕ → Bool
clean [] l = true
clean (k ∷ ks) l = not (breaks_text k (get_or l 0 0) (get_or l 1 0)) && clean ks (drop 1 l)

clean-append : (ks ms l : List ℕ) → clean (ks ++ ms) l ≡ clean ks l && clean ms (drop (length ks) l)
unfolding clean
clean-append [] ms l = refl
clean-append (k ∷ ks) ms l =
    let e : 1 + length ks ≡ suc (length ks) = omega arith in
    rw (clean-append ks ms (drop 1 l), drop-drop (length ks) 1 l, e) (sym (and_assoc (not (breaks_text k (get_or l 0 0) (get_or l 1 0))) _ _))

-- bytes in no text
clean-none : (n : ℕ) (l : List ℕ) → clean (replicate n 0) l ≡ true
unfolding clean breaks_text
clean-none zero l = refl
clean-none (suc n) l = rw (and-false (not (within 32 126 (get_or l 0 0)))) (clean-none n (drop 1 l))

-- ---- one text

-- what stands behind its first byte
clean-rest : (n : ℕ) (l : List ℕ) → n < length l → clean (replicate n 2 ++ 3 ∷ []) l ≡ text_then_zeros (take (suc n) l)
unfolding clean breaks_text
clean-rest n [] h = absurd (omega arith)
clean-rest zero (x ∷ l) h = go (within 32 126 x) (eqb x 0)
  where
    go : (t z : Bool) → not (not t && (not z || false)) && true ≡ on t true (z && true)
    go true z = refl
    go false true = refl
    go false false = refl
clean-rest (suc n) (x ∷ []) h = absurd (omega arith)
clean-rest (suc n) (x ∷ y ∷ l) h = go (within 32 126 x) (eqb x 0) (eqb y 0) refl (clean-rest n (y ∷ l) (omega arith))
  where
    rest : Bool
    rest = clean (replicate n 2 ++ 3 ∷ []) (y ∷ l)

    go :
        (t z u : Bool) → eqb y 0 ≡ u → rest ≡ text_then_zeros (y ∷ take n l)
        → not (not t && (not z || not u)) && rest ≡ on t (text_then_zeros (y ∷ take n l)) (z && (u && all_zero (take n l)))
    go true z u e r = r
    go false false u e r = refl
    go false true false e r = refl
    go false true true e r = r ∙ rw (eqb-true y 0 e)

clean-text : (n : ℕ) (l : List ℕ) → suc n < length l → clean (text_roles n) l ≡ within 32 126 (get_or l 0 0) && text_then_zeros (take (suc (suc n)) l)
unfolding clean breaks_text
clean-text n [] h = absurd (omega arith)
clean-text n (x ∷ l) h = go (within 32 126 x) (clean-rest n l (omega arith))
  where
    rest : Bool
    rest = clean (replicate n 2 ++ 3 ∷ []) l

    go :
        (t : Bool) → rest ≡ text_then_zeros (take (suc n) l)
        → not (not t && true) && rest ≡ t && on t (text_then_zeros (take (suc n) l)) (all_zero (take (suc (suc n)) (x ∷ l)))
    go true r = r
    go false r = refl

clean-padded : (l : List ℕ) → text_wide ≤ length l → clean (text_roles 8) l ≡ padded_text (take text_wide l)
unfolding padded_text
clean-padded l h = rw (length-take-le text_wide l h, get_or-take text_wide l 0 0 (omega arith)) (clean-text 8 l h)

-- ---- the four texts of a body

pub role-most : (from i : ℕ) → role_in from i ≤ 3
unfolding role_in
role-most from i =
    let inside : Bool = leb from i && ltb i (from + text_wide) in
    omega (arith, bool-most inside, bool-most (inside && not (eqb i from)), bool-most (eqb (i + 1) (from + text_wide)))

-- as the code reckons it, and as it is listed
abbrev reckoned : ℕ → ℕ
reckoned i = role_in owner_at i + role_in line_at i + role_in stop_at i + role_in destination_at i

pub role-listed : (i : ℕ) → i < roles_wide → reckoned i ≡ get_or roles i 0
unfolding role_in
role-listed i h = eqb→eq (reckoned i) (get_or roles i 0) (below_at (λ k. eqb (reckoned k) (get_or roles k 0)) roles_wide tt i h)

-- a text, and what stands behind g bytes of no text
text-then :
    (s : List ℕ) (at g next : ℕ) (ms : List ℕ) → at + text_wide ≤ length s → next ≡ at + text_wide + g
    → clean (text_roles 8 ++ (replicate g 0 ++ ms)) (drop at s) ≡ padded_text (part at text_wide s) && clean ms (drop next s)
unfolding part
text-then s at g next ms h e =
    rw (
      clean-append (text_roles 8) (replicate g 0 ++ ms) (drop at s),
      clean-padded (drop at s) (rw length-drop (omega arith)),
      drop-drop text_wide at s,
      clean-append (replicate g 0) ms (drop (at + text_wide) s),
      clean-none g (drop (at + text_wide) s),
      length-replicate {A = ℕ} g 0,
      drop-drop g (at + text_wide) s,
      e,
    )

-- a text, and g bytes of no text behind it
text-last : (s : List ℕ) (at g : ℕ) → at + text_wide ≤ length s → clean (text_roles 8 ++ replicate g 0) (drop at s) ≡ padded_text (part at text_wide s)
unfolding part
text-last s at g h =
    rw (
      clean-append (text_roles 8) (replicate g 0) (drop at s),
      clean-padded (drop at s) (rw length-drop (omega arith)),
      drop-drop text_wide at s,
      clean-none g (drop (at + text_wide) s),
    )
    (and-true (padded_text (take text_wide (drop at s))))

module _ (s : List ℕ) (at : ℕ) (fits : at + body_wide ≤ length s) where
  pub texts-start : clean roles (drop (at + owner_at) s) ≡ texts_padded (part at body_wide s)
  unfolding texts_padded
  texts-start =
      let text : ℕ → Bool = λ from. padded_text (part (at + from) text_wide s) in
      rw (
        part-part owner_at text_wide at body_wide s (omega arith),
        part-part line_at text_wide at body_wide s (omega arith),
        part-part stop_at text_wide at body_wide s (omega arith),
        part-part destination_at text_wide at body_wide s (omega arith),
        text-then s (at + owner_at) date_wide (at + line_at) _ (omega arith) (omega arith),
        text-then s (at + line_at) (journey_wide + 1) (at + stop_at) _ (omega arith) (omega arith),
        text-then s (at + stop_at) order_wide (at + destination_at) (text_roles 8 ++ replicate (roles_wide - (destination_at + text_wide)) 0) (omega arith) (omega arith),
        text-last s (at + destination_at) (roles_wide - (destination_at + text_wide)) (omega arith),
        and_assoc (text owner_at && text line_at),
        and_assoc (text owner_at),
      )

-- ---- a reader of the roles: how many bytes break their texts so far, and what is left

still-none : (bad : ℕ) (t : Bool) → eqb (bad + bool_byte t) 0 ≡ eqb bad 0 && not t
still-none bad true = rw (ne_eqb (bad + 1) 0 (λ e. omega arith)) (sym (and-false (eqb bad 0)))
still-none bad false = rw add-zero (sym (and-true (eqb bad 0)))

pub texts-turn :
    (ks s : List ℕ) (at bad i : ℕ) → i < length ks
    → eqb (bad + bool_byte (breaks_text (get_or ks i 0) (get_or s (at + i) 0) (get_or s (at + i + 1) 0))) 0 && clean (drop (i + 1) ks) (drop (at + (i + 1)) s)
    ≡ eqb bad 0 && clean (drop i ks) (drop (at + i) s)
unfolding clean
texts-turn ks s at bad i h =
    let e : at + (i + 1) ≡ at + i + 1 = omega arith in
    rw (drop-cons ks i 0 h, get_or-drop (at + i) s 0 0, get_or-drop (at + i) s 1 0, drop-drop 1 (at + i) s, add-zero (at + i), e, add-one i, still-none)
    (and_assoc (eqb bad 0) _ _)

pub texts-end : (l : List ℕ) (bad : ℕ) → eqb bad 0 && clean [] l ≡ eqb bad 0
unfolding clean
texts-end l bad = and-true (eqb bad 0)
