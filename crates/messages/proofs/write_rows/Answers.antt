-- `write_rows` meets its contract. Assumes nothing.
use Prim.Native.Nat.{ℕ, ◌+◌, ◌*◌, ◌-◌}
use mathlib.Core.Path.{◌≡◌, ap, ◌∙◌}
use native.Mathlib.Omega.{arith}
use lib.ListN.{length, take, drop, length-drop}
use lib.Seq.{length-take-le}
use Rattle.std.specs.Prelude.{Ok}
use Rattle.book.specs.Entries.{entry_wide}
use Rattle.book.proofs.SoundLaws.{room_within}
use Rattle.calls.specs.Leaves.{counts_of, outcome_of}
use Rattle.messages.proofs.SoundLaws.{used-fits}
use Rattle.messages.proofs.WriteLaws.{tail-back}
use Rattle.messages.proofs.write_rows.Goals as goal

pub slice_bounds-write_entries-count : goal.slice_bounds-write_entries-count
slice_bounds-write_entries-count c =
    (used-fits c.args.used c.args.book.now c.requires.book_value).0

pub slice_bounds-write_entries-start : goal.slice_bounds-write_entries-start
slice_bounds-write_entries-start c =
    (used-fits c.args.used c.args.book.now c.requires.book_value).0

pub write_entries-requires : goal.write_entries-requires
write_entries-requires c =
    let b = c.args.book.now in
    let used = c.args.used in
    let w = room_within b in
    let l : length (take (length b - used) (drop used b)) ≡ length b - used = length-take-le (length b - used) (drop used b) (omega (arith, length-drop used b)) in
    let r = c.requires.entry_wide_bound in
    (omega arith, c.requires.count_le_most_updates.1)

pub overflow_add-used : goal.overflow_add-used
overflow_add-used c =
    let u = used-fits c.args.used c.args.book.now c.requires.book_value in
    omega arith

pub returns : goal.returns
returns c =
    let a = c.args in
    record {
      outcome =
          c.accepted.ensures ∙ ap (λ (n : ℕ). outcome_of (Ok n) (counts_of (a.used + a.count * entry_wide) a.rows)) c.next_number-number.ensures;
      entries =
          tail-back a.staging.now a.count c.requires.count_le_most_updates.1 a.book.now a.used _ a.sender _ c.requires.entry_wide_bound c.next_number-number.ensures c.write_entries.ensures;
    }
