-- A dossier as the reader of one table sees it: the label lines and data lines of that table, with their line numbers. Assumes nothing.
use Rattle.std.specs.Prelude.{ℕ, suc, Bool, true, false, List, [], ◌∷◌}
use Rattle.lists.specs.Logic.{on}
use Rattle.lists.specs.Text.{same}
use Rattle.turbo_lines.specs.declared.Mark.{Mark}
use Rattle.turbo_lines.specs.declared.Mark.TheVariants as Marks
use Rattle.turbo.specs.Split.{until, fields}
use Rattle.turbo_lines.specs.Lines.{mark_of, after_mark}
use Rattle.columns.specs.declared.Table.{Table}
use Rattle.columns.specs.Tables.{table_name}

-- a label line of the table, or a data line under its labels; each with its line number
pub data Item : Type 0 where
  head : ℕ → List (List ℕ) → Item
  row : ℕ → List (List ℕ) → List ℕ → Item

-- where in the line order: outside the table, between its `\T` and `\L` lines, or under its labels
pub data Place : Type 0 where
  outside : Place
  awaiting : Place
  under : List (List ℕ) → Place

-- the table's name runs to the first bar or the line's end
abbrev pub after_name : Table → List ℕ → Place
after_name t l = on (same (until 124 (after_mark l)) (table_name t)) awaiting outside

-- the place after a line, and what the line is to the reader
abbrev pub place_after : Table → Mark → List ℕ → Place → Place
place_after t Marks.Group l p = outside
place_after t Marks.Table l p = after_name t l
place_after t Marks.Labels l awaiting = under (fields (after_mark l))
place_after t Marks.Labels l outside = outside
place_after t Marks.Labels l (under ls) = outside
place_after t Marks.Data l p = p

abbrev pub seen : Mark → ℕ → List ℕ → Place → List Item
seen Marks.Group n l p = []
seen Marks.Table n l p = []
seen Marks.Labels n l awaiting = head n (fields (after_mark l)) ∷ []
seen Marks.Labels n l outside = []
seen Marks.Labels n l (under ls) = []
seen Marks.Data n l outside = []
seen Marks.Data n l awaiting = []
seen Marks.Data n l (under ls) = row n ls l ∷ []

-- one before the rest, if there is one
abbrev pub in_front : List Item → List Item → List Item
in_front [] xs = xs
in_front (x ∷ ys) xs = x ∷ xs

-- the lines ls from number n on
unfoldable pub items : Table → Place → ℕ → List (List ℕ) → List Item
items t p n [] = []
items t p n (l ∷ ls) = in_front (seen (mark_of l) n l p) (items t (place_after t (mark_of l) l p) (suc n) ls)
