use Prim.Native.Nat.{ℕ, zero, suc, ◌+◌, ◌-◌, ◌<◌}
use native.Mathlib.Omega.{arith}
use mathlib.Core.Path.{◌≡◌, refl, sym, ap, ◌∙◌}
use mathlib.Core.Bool.{Bool, true, false}
use mathlib.Core.List.{List, [], ◌∷◌, ◌++◌}
use lib.Dec.{eqb}
use lib.ListN.{length, take, replicate, length-append, length-replicate, length-take}
use Rattle.std.specs.Prelude.{Option, Some, None}
use Rattle.lists.specs.Logic.{on}
use Rattle.lists.specs.Part.{over, onto}
use Rattle.lists.specs.Rows.{flat}
use Rattle.lists.proofs.OverLaws.{over-nil, length_over}
use Rattle.syntax.specs.Machine.{step}
use Rattle.turbo_lines.specs.Lines.{longest_line}
use Rattle.feeds.specs.declared.Feed.{Feed}
use Rattle.syntax.specs.declared.State as Machine
use Rattle.feeds.specs.Feed.{Fed, no_bytes, counted, ended, held_on, taken, is_open, fed_byte, fed}
use Rattle.feeds.specs.Kept.{kept_of, feed_of, is_begun, new_feed, begun_by}
use Rattle.feeds.specs.Feeding.{Feeding, feeding, fed_in, fed_out, feed_leaves}
use Rattle.feeds.specs.Claims.{FeedFits}
use Rattle.feeds.proofs.FitLaws.{kept_read, begun-fits, new-fits, fed-fits}
use Rattle.feeds_whole.specs.Parts.{Lent, lent, lent_after, fed_parts, fed_from}
use Rattle.feeds_whole.specs.Claims.{CuttingIsFree}
use Rattle.feeds_whole.proofs.ByteLaws.{Held, ended-turned, held-turned, room-length, fed-append}
use Rattle.feeds_whole.proofs.WholeLaws.{start, start-held}

-- A feed from part to part: what is lent between two parts tells all of it. Assumes nothing.

-- ---- the unfinished line

-- x has some bytes of an unfinished line
abbrev HasLine : Fed → Type 0
HasLine x = (h : List ℕ) × Held x h

on-held : (b : Bool) (x y : Fed) → HasLine x → HasLine y → HasLine (on b x y)
on-held true x y p q = p
on-held false x y p q = q

held-byte : (register : List ℕ) (x : Fed) (b : ℕ) → HasLine x → HasLine (fed_byte register x b)
unfolding fed_byte
held-byte register x b (h, now) = go (is_open x.feed) (step x.feed.machine b)
  where
    go : (o : Bool) (n : Option Machine.State) → HasLine (on o (taken register b n x) (record { feed = counted x.feed; line = x.line; staging = x.staging }))
    go true (Some m) = on-held (eqb b 10) (ended register m x) (held_on m b x) ([], (ended-turned register m x).held) (h ++ b ∷ [], (held-turned m b x h now).held)
    go true None = (h, record { line = now.line; size = now.size })
    go false n = (h, record { line = now.line; size = now.size })

held-fed : (register w : List ℕ) (x : Fed) → HasLine x → HasLine (fed register x w)
unfolding fed
held-fed register [] x now = now
held-fed register (b ∷ w) x now = held-fed register w (fed_byte register x b) (held-byte register x b now)

-- zeros behind what is written into zeros change nothing
zeros-behind : (xs : List ℕ) (k m : ℕ) → onto (xs ++ replicate k 0) (replicate m 0) ≡ onto xs (replicate m 0)
unfolding onto
zeros-behind [] zero m = refl
zeros-behind [] (suc k) zero = refl
zeros-behind [] (suc k) (suc m) = ap (λ (l : List ℕ). 0 ∷ l) (zeros-behind [] k m)
zeros-behind (x ∷ xs) k zero = refl
zeros-behind (x ∷ xs) k (suc m) = ap (λ (l : List ℕ). x ∷ l) (zeros-behind xs k m)

zeros-over : (xs : List ℕ) (k m : ℕ) → over 0 xs (replicate m 0) ≡ over 0 (xs ++ replicate k 0) (replicate m 0)
unfolding over
zeros-over xs k m = sym (zeros-behind xs k m)

-- what was lent has some
held_in : (kept line staging : List ℕ) → HasLine (fed_in kept line staging)
unfolding fed_in
held_in kept line staging =
    let n = (feed_of kept).size in
    let t = take n line in
    let k : length t + (n - length t) ≡ n = omega (arith, length-take n line) in (
      t ++ replicate (n - length t) 0,
      record {
        line = zeros-over t (n - length t) longest_line;
        size = sym (length-append t (replicate (n - length t) 0) ∙ ap (λ (i : ℕ). length t + i) (length-replicate {A = ℕ} (n - length t) 0) ∙ k);
      },
    )

-- and what is lent back is read back
onto-back : (h d : List ℕ) → onto (take (length h) (onto h d)) d ≡ onto h d
unfolding onto
onto-back [] d = refl
onto-back (v ∷ h) [] = refl
onto-back (v ∷ h) (x ∷ d) = ap (λ (l : List ℕ). v ∷ l) (onto-back h d)

over-back : (h d : List ℕ) → over 0 (take (length h) (over 0 h d)) d ≡ over 0 h d
unfolding over
over-back h d = onto-back h d

abbrev fed_with : Feed → List ℕ → List ℕ → Fed
fed_with f l staging = record { feed = f; line = l; staging = staging }

out-in : (x : Fed) → HasLine x → feed_of (kept_of x.feed) ≡ x.feed → fed_in (kept_of x.feed) x.line x.staging ≡ x
unfolding fed_in
out-in x (h, now) e =
    ap (λ (f : Feed). fed_with f (over 0 (take f.size x.line) no_bytes) x.staging) e
    ∙ ap (λ (n : ℕ). fed_with x.feed (over 0 (take n x.line) no_bytes) x.staging) now.size
    ∙ ap (λ (l : List ℕ). fed_with x.feed (over 0 (take (length h) l) no_bytes) x.staging) now.line
    ∙ ap (λ (l : List ℕ). fed_with x.feed l x.staging) (over-back h no_bytes ∙ sym now.line)

-- ---- a part

fed-begun : (part register staging line kept : List ℕ) → is_begun kept ≡ true → feed_leaves part register staging line kept ≡ fed_out (fed register (fed_in kept line staging) part)
unfolding feed_leaves
fed-begun part register staging line kept e = rw e refl

pub fed-never : (part register staging line kept : List ℕ) → is_begun kept ≡ false → feed_leaves part register staging line kept ≡ feeding 1 kept line staging
unfolding feed_leaves
fed-never part register staging line kept e = rw e refl

-- what a feed must be for its numbers and its line to tell it
record Tells (x : Fed) : Type 0 where
  fits : FeedFits x.feed
  long : length x.line ≡ longest_line
  held : HasLine x

tells-fed : (register w : List ℕ) (x : Fed) → Tells x → Tells (fed register x w)
tells-fed register w x t = let k = fed-fits register x w t.fits t.long in record { fits = k.0; long = k.1; held = held-fed register w x t.held }

tells-in : (kept line staging : List ℕ) → length kept ≡ 48 → is_begun kept ≡ true → Tells (fed_in kept line staging)
unfolding fed_in
tells-in kept line staging n e = record { fits = begun-fits kept n e; long = length_over 0 (take (feed_of kept).size line) no_bytes ∙ room-length; held = held_in kept line staging }

-- one part more
fed-again : (part register : List ℕ) (x : Fed) → Tells x → feed_leaves part register x.staging x.line (kept_of x.feed) ≡ fed_out (fed register x part)
fed-again part register x t =
    let k = kept_read x.feed t.fits in
    fed-begun part register x.staging x.line (kept_of x.feed) k.0 ∙ ap (λ (y : Fed). fed_out (fed register y part)) (out-in x t.held k.1)

pub cutting : CuttingIsFree
cutting register staging line kept a b n = go (is_begun kept) refl
  where
    go : (t : Bool) → is_begun kept ≡ t
        → feed_leaves b register (feed_leaves a register staging line kept).staging (feed_leaves a register staging line kept).line (feed_leaves a register staging line kept).kept
        ≡ feed_leaves (a ++ b) register staging line kept
    go true e =
        let x = fed_in kept line staging in
        ap (λ (f : Feeding). feed_leaves b register f.staging f.line f.kept) (fed-begun a register staging line kept e)
        ∙ fed-again b register (fed register x a) (tells-fed register a x (tells-in kept line staging n e))
        ∙ ap fed_out (sym (fed-append register a b x))
        ∙ sym (fed-begun (a ++ b) register staging line kept e)
    go false e =
        ap (λ (f : Feeding). feed_leaves b register f.staging f.line f.kept) (fed-never a register staging line kept e)
        ∙ fed-never b register staging line kept e
        ∙ sym (fed-never (a ++ b) register staging line kept e)

-- ---- all parts

abbrev lent_of : Fed → Lent
lent_of x = lent (kept_of x.feed) x.line x.staging

parts-fed : (register : List ℕ) (parts : List (List ℕ)) (x : Fed) → Tells x → fed_parts register (lent_of x) parts ≡ lent_of (fed register x (flat parts))
unfolding fed_parts flat fed
parts-fed register [] x t = refl
parts-fed register (p ∷ ps) x t =
    ap (λ (f : Feeding). fed_parts register (lent_after f) ps) (fed-again p register x t)
    ∙ parts-fed register ps (fed register x p) (tells-fed register p x t)
    ∙ ap lent_of (sym (fed-append register p (flat ps) x))

module _ (register : List ℕ) (sender form : ℕ) (line staging : List ℕ) (low : sender < 256) (small : form < 4294967296) where
  start-tells : Tells (start sender form staging)
  start-tells = record { fits = new-fits sender form low small; long = room-length; held = ([], start-held sender form staging) }

  start-in : fed_in (begun_by sender form) line staging ≡ start sender form staging
  unfolding fed_in begun_by
  start-in =
      let k = kept_read (new_feed sender form) (new-fits sender form low small) in
      ap (λ (f : Feed). fed_with f (over 0 (take f.size line) no_bytes) staging) k.1 ∙ ap (λ (l : List ℕ). fed_with (new_feed sender form) l staging) (over-nil 0 no_bytes)

  start-begun : is_begun (begun_by sender form) ≡ true
  unfolding begun_by
  start-begun = (kept_read (new_feed sender form) (new-fits sender form low small)).0

  -- the numbers and the staging area, once all parts came
  pub parts_from : (parts : List (List ℕ))
      → let y = fed register (start sender form staging) (flat parts) in
      ((fed_from register sender form line staging parts).kept ≡ kept_of y.feed) × ((fed_from register sender form line staging parts).staging ≡ y.staging)
  unfolding fed_parts flat fed begun_by
  parts_from [] = (refl, refl)
  parts_from (p ∷ ps) =
      let z = fed register (start sender form staging) p in
      let e = ap (λ (f : Feeding). fed_parts register (lent_after f) ps) (fed-begun p register staging line (begun_by sender form) start-begun ∙ ap (λ (x : Fed). fed_out (fed register x p)) start-in)
      ∙ parts-fed register ps z (tells-fed register p (start sender form staging) start-tells)
      ∙ ap lent_of (sym (fed-append register p (flat ps) (start sender form staging))) in
      (ap (λ (m : Lent). m.kept) e, ap (λ (m : Lent). m.staging) e)

  -- and they are those of a begun feed
  pub parts-begun : (parts : List (List ℕ)) → let y = fed register (start sender form staging) (flat parts) in (is_begun (kept_of y.feed) ≡ true) × (feed_of (kept_of y.feed) ≡ y.feed)
  parts-begun parts = kept_read _ (tells-fed register (flat parts) (start sender form staging) start-tells).fits
