-- What a line asks, at each way through the code. Assumes nothing.
use mathlib.Core.Path.{◌≡◌, refl, ap, ◌∙◌}
use mathlib.Core.Bool.{Bool, true, false}
use mathlib.Core.List.{List, [], ◌∷◌}
use Prim.Native.Nat.{ℕ, ◌≤◌, ◌<◌}
use native.Mathlib.Omega.{arith}
use borrow.Author.Tests.{eq-eqb, ne_eqb, lt-ltb, le-ltb}
use lib.Dec.{eqb}
use lib.ListN.{length, get_or}
use Rattle.std.specs.Prelude.{Option}
use Rattle.field_types.specs.Digits.{numeral}
use Rattle.field_types.specs.Times.{clock}
use Rattle.field_types.specs.Dates.{date}
use Rattle.script_text.specs.Rules.{word_at}
use Rattle.boards_orders.specs.declared.Order.{Order}
use Rattle.boards_orders.specs.declared.Order.TheVariants.{Nothing, Register, Message, Withdraw, Board, Parts, Bad}
use Rattle.boards_orders.specs.Orders.{command_of, or_none, no_number, no-day, no_sender, not_to_register, no-number, no_owner, no_date, no_time, no_horizon, no_places, no_size, no_form, wants, number_word, date_word, time_word, register_order, message_order, parts_order, withdraw_order, places_at, form_at, board_order, has_words, is_whole, is_of_day, order_by, commanded, is_silent, order_in}

-- ---- numbers

pub number-said : (k : ℕ) (line w : List ℕ) (r : Option ℕ) (n : ℕ) → w ≡ word_at k line → r ≡ numeral 9 w → n ≡ or_none r → n ≡ number_word k line
unfolding number_word
number-said k line w r n e f g = g ∙ ap or_none (f ∙ ap (numeral 9) e)

pub date-said : (line w : List ℕ) (r : Option ℕ) (n : ℕ) → w ≡ word_at 3 line → r ≡ date w → n ≡ or_none r → n ≡ date_word line
unfolding date_word
date-said line w r n e f g = g ∙ ap or_none (f ∙ ap date e)

pub time-said : (line w : List ℕ) (r : Option ℕ) (n : ℕ) → w ≡ word_at 4 line → r ≡ clock 31 w → n ≡ or_none r → n ≡ time_word line
unfolding time_word
time-said line w r n e f g = g ∙ ap or_none (f ∙ ap (clock 31) e)

-- ---- commands

module _ (line : List ℕ) (n : ℕ) (e : n ≡ number_word 1 line) where
  pub register-zero : n ≡ 0 → Bad 1 not_to_register ≡ register_order line
  unfolding register_order
  register-zero h = rw (← e) (rw (eq-eqb n 0 h))

  pub register-large : (n ≡ 0 → ⊥) → 255 < n → Bad 1 not_to_register ≡ register_order line
  unfolding register_order
  register-large h k = rw (← e) (rw (ne_eqb n 0 h, lt-ltb 255 n k))

  pub register-long : (w : List ℕ) → w ≡ word_at 2 line → (n ≡ 0 → ⊥) → n ≤ 255 → 10 < length w → Bad 2 no_owner ≡ register_order line
  unfolding register_order
  register-long w f h k l = rw (← e, ← f) (rw (ne_eqb n 0 h, le-ltb 255 n k, lt-ltb 10 (length w) l))

  pub register-good : (w : List ℕ) → w ≡ word_at 2 line → (n ≡ 0 → ⊥) → n ≤ 255 → length w ≤ 10 → Register n ≡ register_order line
  unfolding register_order
  register-good w f h k l = rw (← e, ← f) (rw (ne_eqb n 0 h, le-ltb 255 n k, le-ltb 10 (length w) l))

  pub message-large : 255 < n → Bad 1 no_sender ≡ message_order line
  unfolding message_order
  message-large h = rw (← e) (rw (lt-ltb 255 n h))

  pub message-formless : (k : ℕ) → k ≡ form_at 3 line → n ≤ 255 → k ≡ no_number → Bad 3 no_form ≡ message_order line
  unfolding message_order
  message-formless k f h l = rw (← e, ← f) (rw (le-ltb 255 n h, eq-eqb k no_number l))

  pub message-good : (k : ℕ) → k ≡ form_at 3 line → n ≤ 255 → (k ≡ no_number → ⊥) → Message n k ≡ message_order line
  unfolding message_order
  message-good k f h l = rw (← e, ← f) (rw (le-ltb 255 n h, ne_eqb k no_number l))

  pub parts-sender : 255 < n → Bad 1 no_sender ≡ parts_order line
  unfolding parts_order
  parts-sender h = rw (← e) (rw (lt-ltb 255 n h))

  pub parts-zero : (m : ℕ) → m ≡ number_word 3 line → n ≤ 255 → m ≡ 0 → Bad 3 no_size ≡ parts_order line
  unfolding parts_order
  parts-zero m f h k = rw (← e, ← f) (rw (le-ltb 255 n h, eq-eqb m 0 k))

  pub parts-large : (m : ℕ) → m ≡ number_word 3 line → n ≤ 255 → (m ≡ 0 → ⊥) → 65536 < m → Bad 3 no_size ≡ parts_order line
  unfolding parts_order
  parts-large m f h k l = rw (← e, ← f) (rw (le-ltb 255 n h, ne_eqb m 0 k, lt-ltb 65536 m l))

  pub parts-formless : (m j : ℕ) → m ≡ number_word 3 line → j ≡ form_at 4 line → n ≤ 255 → (m ≡ 0 → ⊥) → m ≤ 65536 → j ≡ no_number → Bad 4 no_form ≡ parts_order line
  unfolding parts_order
  parts-formless m j f g h k l r = rw (← e, ← f, ← g) (rw (le-ltb 255 n h, ne_eqb m 0 k, le-ltb 65536 m l, eq-eqb j no_number r))

  pub parts-good : (m j : ℕ) → m ≡ number_word 3 line → j ≡ form_at 4 line → n ≤ 255 → (m ≡ 0 → ⊥) → m ≤ 65536 → (j ≡ no_number → ⊥) → Parts n m j ≡ parts_order line
  unfolding parts_order
  parts-good m j f g h k l r = rw (← e, ← f, ← g) (rw (le-ltb 255 n h, ne_eqb m 0 k, le-ltb 65536 m l, ne_eqb j no_number r))

  pub withdraw-none : n ≡ no_number → Bad 1 no-number ≡ withdraw_order line
  unfolding withdraw_order
  withdraw-none h = rw (← e) (rw (eq-eqb n no_number h))

  pub withdraw-large : (m : ℕ) → m ≡ number_word 2 line → (n ≡ no_number → ⊥) → 255 < m → Bad 2 no_sender ≡ withdraw_order line
  unfolding withdraw_order
  withdraw-large m f h k = rw (← e, ← f) (rw (ne_eqb n no_number h, lt-ltb 255 m k))

  pub withdraw-good : (m : ℕ) → m ≡ number_word 2 line → (n ≡ no_number → ⊥) → m ≤ 255 → Withdraw n m ≡ withdraw_order line
  unfolding withdraw_order
  withdraw-good m f h k = rw (← e, ← f) (rw (ne_eqb n no_number h, le-ltb 255 m k))

module _ (line w : List ℕ) (e : w ≡ word_at 6 line) where
  pub places-all : length w ≡ 0 → 2048 ≡ places_at line
  unfolding places_at
  places-all h = rw (← e) (rw (eq-eqb (length w) 0 h))

  pub places-said : (n : ℕ) → n ≡ number_word 6 line → (length w ≡ 0 → ⊥) → n ≡ places_at line
  unfolding places_at
  places-said n f h = rw (← e, ← f) (rw (ne_eqb (length w) 0 h))

module _ (k : ℕ) (line w : List ℕ) (e : w ≡ word_at k line) where
  pub form-old : length w ≡ 0 → 0 ≡ form_at k line
  unfolding form_at
  form-old h = rw (← e) (rw (eq-eqb (length w) 0 h))

  pub form-said : (n : ℕ) → n ≡ number_word k line → (length w ≡ 0 → ⊥) → n ≡ form_at k line
  unfolding form_at
  form-said n f h = rw (← e, ← f) (rw (ne_eqb (length w) 0 h))

module _ (line : List ℕ) (d : ℕ) (e : d ≡ date_word line) where
  pub board-dateless : d ≡ no_number → Bad 3 no_date ≡ board_order line
  unfolding board_order
  board-dateless h = rw (← e) (rw (eq-eqb d no_number h))

  pub board-timeless : (t : ℕ) → t ≡ time_word line → (d ≡ no_number → ⊥) → t ≡ no_number → Bad 4 no_time ≡ board_order line
  unfolding board_order
  board-timeless t f h k = rw (← e, ← f) (rw (ne_eqb d no_number h, eq-eqb t no_number k))

  pub board-none : (t n : ℕ) → t ≡ time_word line → n ≡ number_word 5 line → (d ≡ no_number → ⊥) → (t ≡ no_number → ⊥) → n ≡ no_number → Bad 5 no_horizon ≡ board_order line
  unfolding board_order
  board-none t n f g h k l = rw (← e, ← f, ← g) (rw (ne_eqb d no_number h, ne_eqb t no_number k, eq-eqb n no_number l))

  pub board-large : (t n m : ℕ) → t ≡ time_word line → n ≡ number_word 5 line → m ≡ places_at line → (d ≡ no_number → ⊥) → (t ≡ no_number → ⊥) → (n ≡ no_number → ⊥) → 2048 < m → Bad 6 no_places ≡ board_order line
  unfolding board_order
  board-large t n m f g q h k l r = rw (← e, ← f, ← g, ← q) (rw (ne_eqb d no_number h, ne_eqb t no_number k, ne_eqb n no_number l, lt-ltb 2048 m r))

  pub board-good : (t n m : ℕ) → t ≡ time_word line → n ≡ number_word 5 line → m ≡ places_at line → (d ≡ no_number → ⊥) → (t ≡ no_number → ⊥) → (n ≡ no_number → ⊥) → m ≤ 2048 → Board d t n m ≡ board_order line
  unfolding board_order
  board-good t n m f g q h k l r = rw (← e, ← f, ← g, ← q) (rw (ne_eqb d no_number h, ne_eqb t no_number k, ne_eqb n no_number l, le-ltb 2048 m r))

-- ---- how many words

module _ (k n : ℕ) (line w : List ℕ) (e : w ≡ word_at k line) where
  pub words-few : length w ≡ 0 → false ≡ has_words k n line
  unfolding has_words
  words-few h = rw (← e) (rw (eq-eqb (length w) 0 h))

  pub words-by : (v : List ℕ) → v ≡ word_at n line → (length w ≡ 0 → ⊥) → eqb (length v) 0 ≡ has_words k n line
  unfolding has_words
  words-by v f h = rw (← e, ← f) (rw (ne_eqb (length w) 0 h))

-- ---- lines

pub silent-none : (w : List ℕ) → length w ≡ 0 → true ≡ is_silent w
silent-none [] h = refl
silent-none (b ∷ w) h = absurd (omega arith)

pub silent-by : (w : List ℕ) → (length w ≡ 0 → ⊥) → eqb (get_or w 0 0) 35 ≡ is_silent w
silent-by [] h = absurd (h refl)
silent-by (b ∷ w) h = refl

module _ (line w : List ℕ) (e : w ≡ word_at 0 line) where
  pub order-silent : (day : Bool) → is_silent w ≡ true → Nothing ≡ order_in day line
  unfolding order_in
  order-silent day h = rw (← e) (rw h)

  pub order-by : (c : ℕ) (day : Bool) (o : Order) → c ≡ command_of w → is_silent w ≡ false → o ≡ commanded day c line → o ≡ order_in day line
  unfolding order_in
  order-by c day o f h g = rw (← e, h, ← f) g

-- ---- commands, where a day is open or not

module _ (c : ℕ) (line : List ℕ) where
  pub command-words : (day : Bool) (o : Order) → is_whole c line ≡ false → o ≡ wants c → o ≡ commanded day c line
  unfolding commanded
  command-words day o h g = rw h g

  pub command-open : (day : Bool) (o : Order) → is_whole c line ≡ true → day ≡ true → o ≡ order_by c line → o ≡ commanded day c line
  unfolding commanded
  command-open day o h k g = rw (h, k) g

  pub command-closed : (day : Bool) → is_whole c line ≡ true → day ≡ false → is_of_day c ≡ true → Bad 0 no-day ≡ commanded day c line
  unfolding commanded
  command-closed day h k l = rw (h, k, l)

  pub command-other : (day : Bool) (o : Order) → is_whole c line ≡ true → day ≡ false → is_of_day c ≡ false → o ≡ order_by c line → o ≡ commanded day c line
  unfolding commanded
  command-other day o h k l g = rw (h, k, l) g
