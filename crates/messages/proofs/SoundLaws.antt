-- Soundness of what a message is lent, by its three tests, and what it gives. Assumes nothing.
use mathlib.Core.Path.{◌≡◌}
use mathlib.Core.Bool.{true, false}
use Prim.Native.Nat.{ℕ, ◌≤◌}
use mathlib.Core.List.{List}
use lib.ListN.{length}
use Rattle.register.specs.Register.{register_sound}
use Rattle.table.specs.Rules.{table_sound}
use Rattle.book.specs.Rules.{book_sound, most_bytes}
use Rattle.book.proofs.SoundLaws.{sound-facts, used-within}
use Rattle.calls.specs.declared.Counts.{Counts}
use Rattle.calls.specs.Message.{message_sound}

module _ (register book table : List ℕ) (c : Counts) where
  pub rest-sound : register_sound register ≡ true → book_sound c.used book ≡ true → message_sound register book table c ≡ table_sound c.rows table
  unfolding message_sound
  rest-sound a b = rw (a, b)

  pub book-unsound : register_sound register ≡ true → book_sound c.used book ≡ false → message_sound register book table c ≡ false
  unfolding message_sound
  book-unsound a b = rw (a, b)

  pub register-unsound : register_sound register ≡ false → message_sound register book table c ≡ false
  unfolding message_sound
  register-unsound a = rw a

-- the used bytes lie within the book
pub used-fits : (used : ℕ) (book : List ℕ) → book_sound used book ≡ true → (used ≤ length book) × (used ≤ most_bytes)
used-fits used book e = used-within used book (sound-facts used book e)
