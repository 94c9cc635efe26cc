-- Small feeds by computation. Assumes nothing.
use Rattle.std.specs.Prelude.{ℕ, ◌≡◌, refl, true, false, List, [], ◌∷◌, ◌++◌, take, drop, replicate}
use Rattle.lists.specs.Text.{bytes, same}
use Rattle.lists.specs.Part.{part, onto, over}
use Rattle.syntax.specs.Machine.{field_step, escape_step, first_escape_step, null_step, return_step, start_step, mark_step, step}
use Rattle.turbo.specs.Split.{until}
use Rattle.turbo_lines.specs.Lines.{mark_of, after_mark}
use Rattle.columns.specs.Tables.{message_columns, columns_in, table_name}
use Rattle.rows.specs.Shape.{next_from, visits, lacking, is_one_of, meeting, shape_at}
use Rattle.reader_step.specs.Step.{step_by, line_step, stage_by, line_staged}
use Rattle.feeds.specs.Feed.{no_bytes, ended, fed_byte, fed}
use Rattle.feeds.specs.Kept.{machine_at, kept_of, lines_of, feed_of, lines_may, feed_may, zeros, is_begun, begun_by}
use Rattle.feeds.specs.Feeding.{Feeding, fed_in, feed_leaves}

-- a group line, a line of a table, and the mark of a third
abbrev dossier : List ℕ
dossier = bytes "\\GA" ++ 13 ∷ 10 ∷ bytes "\\TB" ++ 13 ∷ 10 ∷ bytes "\\L"

abbrev whole : ℕ → Feeding
whole form = feed_leaves dossier [] [] no_bytes (begun_by 7 form)

-- the same in two parts, the first of n bytes
abbrev cut : ℕ → ℕ → Feeding
cut form n = let w = feed_leaves (take n dossier) [] [] no_bytes (begun_by 7 form) in feed_leaves (drop n dossier) [] w.staging w.line w.kept

abbrev Small : ℕ → Type 0
Small form =
    (is_begun (begun_by 7 form) ≡ true)
    × (is_begun (replicate 48 0) ≡ false)
    -- 12 bytes, the machine behind `\L`, two bytes of the third line
    × (take 11 (whole form).kept ≡ 1 ∷ 7 ∷ form ∷ 12 ∷ 11 ∷ 0 ∷ 2 ∷ 0 ∷ 0 ∷ 0 ∷ 3 ∷ [])
    × (take 3 (whole form).line ≡ bytes "\\L" ++ 0 ∷ [])
    -- cut behind a backslash, between CR and LF, and behind LF
    × ((cut form 1).kept ≡ (whole form).kept)
    × ((cut form 4).kept ≡ (whole form).kept)
    × ((cut form 5).kept ≡ (whole form).kept)
    × (take 3 (cut form 11).line ≡ take 3 (whole form).line)

-- in the old form, in that of 8.5, and in one that is not known
pub small : Small 0 × Small 1 × Small 2
unfolding same part onto over table_name field_step escape_step first_escape_step null_step return_step start_step mark_step step until mark_of after_mark message_columns columns_in next_from visits lacking is_one_of meeting shape_at step_by line_step stage_by line_staged ended fed_byte fed machine_at kept_of lines_of feed_of lines_may feed_may zeros is_begun begun_by fed_in feed_leaves
small = (
  (refl, refl, refl, refl, refl, refl, refl, refl),
  (refl, refl, refl, refl, refl, refl, refl, refl),
  (refl, refl, refl, refl, refl, refl, refl, refl),
)
