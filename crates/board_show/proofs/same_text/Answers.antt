use mathlib.Core.Path.{sym}
use Prim.Native.Nat.{ℕ}
use native.Mathlib.Omega.{arith}
use Rattle.lists.proofs.EachLaws.{bytes-known}
use Rattle.board_show.proofs.TextLaws.{same_numbers}
use Rattle.board_show.proofs.same_text.Goals as goal

pub returns : goal.returns
returns c =
    rw (
      c.get_number-3.ensures,
      c.get_number-2.ensures,
      c.get_number.ensures,
      c.get_number-last.ensures,
      c.get_number-second.ensures,
      c.get_number-first.ensures,
    )
    (sym
    (same_numbers c.args.table.now c.args.text.now c.args.at c.requires.0 c.requires.1
    (bytes-known c.args.table.now (λ (i : ℕ). omega (arith, c.shared_slice_known-1.given i)))
    (bytes-known c.args.text.now (λ (i : ℕ). omega (arith, c.shared_slice_known-2-1.given i)))))
