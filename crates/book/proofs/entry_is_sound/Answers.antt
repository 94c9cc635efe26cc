use mathlib.Core.Path.{sym}
use Rattle.book.proofs.ChainLaws.{entry-from}
use borrow.Author.Rules.{rules}
use Rattle.book.proofs.entry_is_sound.Goals as goal

pub update_in_range-requires : goal.update_in_range-requires
update_in_range-requires c = record { body_wide_in_bounds = search rules; bytes_value = c.requires.book_value }

pub returns : goal.returns
returns c =
    let a = c.args in
    let h = c.head_at-head.ensures in
    rw (c.update_in_range.ensures, h.number, h.sender, h.kind) (sym (entry-from a.at a.book.now a.last.number a.last.sender a.last.kind))
