-- `read_day` meets its contract. Assumes nothing.
use mathlib.Core.Path.{sym, ◌∙◌}
use Rattle.lists.proofs.PartLaws.{part-is}
use Rattle.boards_saved.specs.Saved.{pairs_in, used_in, rows_in}
use Rattle.boards_saved.proofs.SavedLaws.{day-short, day-whole, day-broken, day-other}
use Rattle.boards_saved.proofs.read_day.Goals as goal

pub returns-then-file-lt-HEADING_WIDE : goal.returns-then-file-lt-HEADING_WIDE
returns-then-file-lt-HEADING_WIDE c = day-short c.args.file.now c.if-file-lt-HEADING_WIDE.true

pub returns-then-is_whole : goal.returns-then-is_whole
unfolding pairs_in used_in rows_in
returns-then-is_whole c = let f = c.args.file.now in day-whole f _ c.get_number-pairs.result c.get_number-used.result c.get_number-rows.result (sym (part-is 0 16 f)) c.get_number-pairs.ensures c.get_number-used.ensures c.get_number-rows.ensures c.if-file-lt-HEADING_WIDE.false (sym c.same_bytes.ensures ∙ c.if-same_bytes.true) (sym c.is_whole.ensures ∙ c.if-is_whole.true)

pub returns-then-same_bytes : goal.returns-then-same_bytes
unfolding pairs_in used_in rows_in
returns-then-same_bytes c = let f = c.args.file.now in day-broken f _ c.get_number-pairs.result c.get_number-used.result c.get_number-rows.result (sym (part-is 0 16 f)) c.get_number-pairs.ensures c.get_number-used.ensures c.get_number-rows.ensures c.if-file-lt-HEADING_WIDE.false (sym c.same_bytes.ensures ∙ c.if-same_bytes.true) (sym c.is_whole.ensures ∙ c.if-is_whole.false)

pub returns : goal.returns
returns c = let f = c.args.file.now in day-other f _ (sym (part-is 0 16 f)) c.if-file-lt-HEADING_WIDE.false (sym c.same_bytes.ensures ∙ c.if-same_bytes.false)
