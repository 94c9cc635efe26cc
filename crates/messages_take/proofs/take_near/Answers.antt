use Rattle.messages_take.proofs.take_near.Goals as goal

pub take_found-requires : goal.take_found-requires
take_found-requires c =
    record { row_wide_in_bounds = c.requires.row_wide_in_bounds; found_value = c.find_from-found.ensures; row_wide_in_bounds_2 = c.requires.row_wide_in_bounds_2 }

pub returns : goal.returns
returns c = record { value = c.take_found.ensures.value; table_after = c.take_found.ensures.table_after }
