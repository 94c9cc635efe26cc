-- Times, dates and stamps as they are written are read as themselves. Assumes nothing.
use mathlib.Core.Path.{◌≡◌}
use mathlib.Core.Bool.{Bool, true, false}
use Prim.Native.Nat.{ℕ, ◌+◌, ◌*◌, ◌/◌, ◌%◌, ◌<◌, ◌≤◌}
use native.Mathlib.Omega.{arith}
use borrow.Author.Tests.{le-leb}
use Rattle.std.specs.Prelude.{Some}
use Rattle.clock.specs.Date.{year, month, day, is_date}
use Rattle.clock.proofs.DateLaws.{parts, remade}
use Rattle.field_types.specs.Digits.{numeral, triple}
use Rattle.field_types.specs.Times.{clock}
use Rattle.field_types.specs.Dates.{date}
use Rattle.field_types.specs.Stamps.{utc_offset, stamp_seconds, stamp}
use Rattle.field_types.specs.Written.{written, written_time, written_date, written_offset, written_stamp}
use Rattle.field_types.proofs.DigitLaws.{written_read}

-- two digits, and four
two : (x : ℕ) → x < 100 → numeral 2 (written 2 x) ≡ Some x
two x h = written_read 2 2 x (omega arith) (omega arith) (omega arith)

four : (x : ℕ) → x < 10000 → numeral 4 (written 4 x) ≡ Some x
four x h = written_read 4 4 x (omega arith) (omega arith) (omega arith)

pub clock-written : (most s : ℕ) → most ≤ 99 → s < (most + 1) * 3600 → clock most (written_time s) ≡ Some s
unfolding clock triple
clock-written most s h l =
    let q : s / 3600 * 3600 + s / 60 % 60 * 60 + s % 60 ≡ s = omega arith in
    rw (
      two (s / 3600) (omega arith),
      two (s / 60 % 60) (omega arith),
      two (s % 60) (omega arith),
      le-leb (s / 3600) most (omega arith),
      le-leb (s / 60 % 60) 59 (omega arith),
      le-leb (s % 60) 59 (omega arith),
      q,
    )

pub date-written : (n : ℕ) → is_date n ≡ true → date (written_date n) ≡ Some n
unfolding date triple
date-written n e =
    let p = parts n e in
    rw (four (year n) (omega arith), two (month n) (omega arith), two (day n) (omega arith), remade n, e)

offset-written : (m : ℕ) → m ≤ 840 → utc_offset (written_offset m) ≡ Some (m * 60)
unfolding utc_offset
offset-written m h =
    let q : m / 60 * 60 + m % 60 ≡ m = omega arith in
    rw (two (m / 60) (omega arith), two (m % 60) (omega arith), le-leb (m % 60) 59 (omega arith), q, le-leb m 840 h)

pub stamp-written :
    (west : Bool) (d s m : ℕ) → is_date d ≡ true → s < 86400 → m ≤ 840
    → stamp (written_stamp west d s m) ≡ Some (stamp_seconds west d s (m * 60))
unfolding stamp
stamp-written true d s m e h l = rw (date-written d e, clock-written 23 s (omega arith) h, offset-written m l)
stamp-written false d s m e h l = rw (date-written d e, clock-written 23 s (omega arith) h, offset-written m l)
