-- U: a timestamp, kept as seconds since 1970-01-01 UTC. Assumes nothing.
use Rattle.std.specs.Prelude.{ℕ, ◌+◌, ◌-◌, ◌*◌, List, Bool, ◌&&◌, ◌||◌, length, get_or, take, drop, eqb, leb, Option, Some}
use Rattle.lists.specs.Logic.{on, within}
use Rattle.clock.specs.Moment.{day_count}
use Rattle.field_types.specs.Digits.{only_if, and_then, numeral}
use Rattle.field_types.specs.Times.{clock}
use Rattle.field_types.specs.Dates.{date}

-- five bytes with a colon in the middle
abbrev pub offset_shape : List ℕ → Bool
offset_shape f = eqb (length f) 5 && eqb (get_or f 2 0) 58

-- h hours and m minutes, minutes to 59 and all to 14:00, as seconds
abbrev pub offset_of : ℕ → ℕ → Option ℕ
offset_of h m = only_if (leb m 59 && leb (h * 60 + m) 840) (Some ((h * 60 + m) * 60))

-- HH:MM up to 14:00, as seconds
unfoldable pub utc_offset : List ℕ → Option ℕ
utc_offset f =
    only_if (offset_shape f)
    (and_then (numeral 2 (take 2 f)) (λ h. and_then (numeral 2 (take 2 (drop 3 f))) (λ m. offset_of h m)))

-- seconds since 1970 of second s of a date, written at o seconds west or east of UTC; 2000-01-01 is day 10,957
unfoldable pub stamp_seconds : Bool → ℕ → ℕ → ℕ → ℕ
stamp_seconds west d s o = on west ((10957 + day_count d) * 86400 + s + o) ((10957 + day_count d) * 86400 + s - o)

-- 25 bytes, with T at 10 and + or - at 19
abbrev pub stamp_shape : List ℕ → Bool
stamp_shape f = eqb (length f) 25 && eqb (get_or f 10 0) 84 && (eqb (get_or f 19 0) 43 || eqb (get_or f 19 0) 45)

-- U: YYYY-MM-DDTHH:MM:SS, hours to 23, then + or - and HH:MM up to 14:00
unfoldable pub stamp : List ℕ → Option ℕ
stamp f =
    only_if (stamp_shape f)
    (and_then (date (take 10 f))
    (λ d. and_then (clock 23 (take 8 (drop 11 f)))
    (λ s. and_then (utc_offset (take 5 (drop 20 f))) (λ o. Some (stamp_seconds (eqb (get_or f 19 0) 45) d s o)))))

-- the seconds that a U field can give
abbrev pub in_stamp_range : ℕ → Bool
in_stamp_range n = within 946634400 4102495199 n
