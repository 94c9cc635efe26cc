use mathlib.Core.Path.{◌≡◌, ◌∙◌, sym, ap}
use mathlib.Core.List.{List, ◌∷◌}
use mathlib.Core.Bool.{true, false}
use Prim.Native.Nat.{ℕ, ◌+◌, ◌*◌, ◌-◌, ◌≤◌, ◌/◌, ◌<◌}
use native.Mathlib.Omega.{arith}
use borrow.Author.Rules.{rules}
use lib.ListN.{length, take, drop}
use Rattle.std.specs.Iterator.Runs.{IsChunksExactRun}
use Rattle.lists.specs.Part.{part}
use Rattle.lists.specs.Text.{same}
use Rattle.lists.proofs.TextLaws.{same-equal}
use Rattle.passage.specs.Layout.{text_wide}
use Rattle.register.specs.Register.{pair_wide}
use Rattle.register.proofs.ChunkLaws.{match-map, chunk-found, chunk-each}
use Rattle.register.proofs.RegisterLaws.{grants-desk, granted, lent-part}
use Rattle.register.proofs.registered.Goals as goal

pub returns-then-sender-eq0 : goal.returns-then-sender-eq0
returns-then-sender-eq0 c = sym (grants-desk _ _ _ c.if-sender-eq0.true)

pub returns : goal.returns
returns c =
    let a = c.args in
    let lent : List ℕ = take (a.at + text_wide - a.at) (drop a.at a.row.now) in
    let owner : lent ≡ part a.at text_wide a.row.now = lent-part a.at (a.at + text_wide) text_wide a.row.now (omega arith) in
    let r = c.any.ensures.runs in
    let run : IsChunksExactRun r.0 pair_wide a.register.now = rw (r.1, c.chunks_exact.ensures.size, c.chunks_exact.ensures.rest) at (c.chunks_exact.ensures.runs r.0 r.0.seen (rw (r.1, c.chunks_exact.ensures.size) (omega arith))) in
    granted a.register.now a.sender _ c.any.result c.if-sender-eq0.false
    (match-map c.any.result
    (λ h.
    let f = chunk-found r.0 pair_wide a.register.now run _ (h (λ x q k l. search rules)) in
    let m = f.2.1 in
    let e : true ≡ same f.2.0.now (a.sender ∷ lent) = search rules in
    (f.0, omega (arith, f.1), sym f.2.2 ∙ same-equal _ _ (sym e) ∙ ap (λ (t : List ℕ). a.sender ∷ t) owner))
    (λ h. λ i l.
    let f = chunk-each r.0 pair_wide a.register.now run _ h.0 (h.1 (λ x q k m. search rules)) a.register i l in
    let m = f.1 in
    let e : false ≡ same f.0.now (a.sender ∷ lent) = search rules in
    ap (λ (t : List ℕ). same t (a.sender ∷ part a.at text_wide a.row.now)) (sym f.2) ∙ ap (λ (t : List ℕ). same f.0.now (a.sender ∷ t)) (sym owner) ∙ sym e)
    r.2)
