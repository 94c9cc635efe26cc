use mathlib.Core.Path.{◌≡◌, sym, ap, ◌∙◌}
use native.Mathlib.Omega.{arith}
use Prim.Native.Nat.{ℕ, ◌+◌, ◌-◌}
use mathlib.Core.List.{List}
use lib.ListN.{length, take}
use lib.Seq.{length-take-le}
use Rattle.lists.specs.Logic.{on}
use Rattle.columns.specs.declared.Table.{Table}
use Rattle.reader_step.specs.Step.{line_step, line_staged}
use Rattle.feeds.specs.Feed.{message_of}
use Rattle.feeds_part.specs.inner.Lines.{rows_stay, line_on}
use Rattle.feeds_part.proofs.LineLaws.{fits-line-as, after-rows, line-on}
use Rattle.feeds_part.proofs.read_line.Goals as goal

pub slice_bounds-line_step-end : goal.slice_bounds-line_step-end
slice_bounds-line_step-end c = sym (length-take-le _ c.args.bytes.now (omega (arith, c.saturating_sub-end.ensures)))

pub line_step-after-requires : goal.line_step-after-requires
line_step-after-requires c =
    let m = c.message_of-table in
    fits-line-as c.args.feed c.requires.1 m.result m.ensures

pub staged_after-more-requires : goal.staged_after-more-requires
staged_after-more-requires c =
    let n = c.line_step-after in
    let m = c.message_of-table in
    let e = c.saturating_sub-end in
    after-rows c.args.register.now (take e.result c.args.bytes.now) c.args.feed n.result c.requires.1
    (n.ensures.state ∙ ap (λ (t : Table). line_step t c.args.register.now c.args.feed.sender c.args.feed.lines (take e.result c.args.bytes.now)) m.ensures)

pub end_line-requires : goal.end_line-requires
end_line-requires c = c.requires.0

pub returns : goal.returns
returns c =
    let a = c.args in
    let n = c.line_step-after in
    let m = c.message_of-table in
    let e = c.saturating_sub-end in
    let l = take e.result a.bytes.now in
    let area = n.new.staging in
    let q : take e.result a.bytes.now ≡ take (length a.bytes.now - 1) a.bytes.now = ap (λ (k : ℕ). take k a.bytes.now) e.ensures in
    let step : n.result ≡ line_step (message_of a.feed) a.register.now a.feed.sender a.feed.lines l =
    n.ensures.state ∙ ap (λ (t : Table). line_step t a.register.now a.feed.sender a.feed.lines l) m.ensures in
    let staged : area ≡ line_staged (message_of a.feed) a.register.now a.feed.sender a.feed.lines l a.staging.now =
    n.ensures.area ∙ ap (λ (t : Table). line_staged t a.register.now a.feed.sender a.feed.lines l a.staging.now) m.ensures in
    let more : c.staged_after-more.result ≡ on (rows_stay (message_of a.feed) a.feed.lines.rows n.result.rows a.feed.staged (length area)) (a.feed.staged + 1) a.feed.staged =
    c.staged_after-more.ensures ∙ ap (λ (t : Table). on (rows_stay t a.feed.lines.rows n.result.rows a.feed.staged (length area)) (a.feed.staged + 1) a.feed.staged) m.ensures in
    record {
      feed =
          line-on a.register.now l a.feed a.staging.now area n.result step staged c.staged_after-more.result more c.end_line.result c.end_line.ensures
          ∙ ap (λ (k : List ℕ). line_on a.register.now k a.feed a.staging.now) q;
      area = staged ∙ ap (λ (k : List ℕ). line_staged (message_of a.feed) a.register.now a.feed.sender a.feed.lines k a.staging.now) q;
    }
