use Prim.Native.Nat.{ℕ, ◌-◌, ◌+◌, ◌<◌}
use native.Mathlib.Omega.{arith}
use native.Mathlib.Numerals.{add-one}
use mathlib.Core.Path.{◌≡◌, refl, sym, ap, ◌∙◌}
use mathlib.Core.List.{List}
use lib.ListN.{length}
use Rattle.std.specs.Prelude.{Ok}
use Rattle.lists.specs.Text.{same}
use Rattle.turbo.specs.Split.{until, past, fields, tail_at}
use Rattle.turbo.proofs.SplitLaws.{tail-zero, tail-past, upto_is, past_is}
use Rattle.turbo_labels.specs.inner.Search.{seen_after}
use Rattle.turbo_labels.proofs.ColumnLaws.{refused, turn-on, turn-twice, turn-end}
use Rattle.turbo_labels.proofs.place_of.Goals as goal

pub loop-column-init : goal.loop-column-init
loop-column-init c = (sym (tail-zero _), refl)

pub size_at-requires : goal.size_at-requires
size_at-requires c = λ h. c.requires.1 c.loop-column.column h ∙ ap (λ (x : List ℕ). length (until 124 x)) (sym c.loop-column.invariant.0)

pub returns-in_err-found : goal.returns-in_err-found
returns-in_err-found c =
    let l = c.loop-column in
    let a = c.args in
    let e = c.cut.ensures.before ∙ upto_is 124 _ _ c.size_at.ensures.is ∙ ap (until 124) l.invariant.0 in
    let s = c.noted.ensures ∙ ap (λ b. seen_after l.found l.column b) (c.same_bytes.ensures ∙ ap (λ f. same f a.name.now) e) in
    refused _ c.from_residual.ensures.0
    ∙ turn-twice a.name.now a.labels.now l.found l.column l.invariant.1 (omega (arith, c.requires.0)) _ s a.columns c.requires.0 _ c.in_err-found.was

pub loop-column-preserved : goal.loop-column-preserved
loop-column-preserved c =
    let l = c.loop-column in
    let a = c.args in
    let e = c.cut.ensures.before ∙ upto_is 124 _ _ c.size_at.ensures.is ∙ ap (until 124) l.invariant.0 in
    let s = c.noted.ensures ∙ ap (λ b. seen_after l.found l.column b) (c.same_bytes.ensures ∙ ap (λ f. same f a.name.now) e) in (
      c.cut.ensures.behind ∙ past_is 124 _ _ c.size_at.ensures.is ∙ ap (past 124) l.invariant.0 ∙ tail-past l.column a.labels.now ∙ ap (λ n. tail_at n a.labels.now) (sym (add-one l.column)),
      turn-on a.name.now a.labels.now l.found l.column l.invariant.1 (omega (arith, c.requires.0)) _ s c.in_ok-found.found c.in_ok-found.was,
    )

pub returns : goal.returns
returns c =
    let l = c.loop-column in
    let a = c.args in
    ap Ok c.unwrap_or.ensures ∙ turn-end a.name.now a.labels.now l.found l.column l.invariant.1 a.columns c.requires.0 (omega (arith, c.requires.0))
