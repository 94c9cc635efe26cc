-- The proofs of this crate's claims. Assumes nothing.
use mathlib.Core.Path.{◌≡◌, refl, sym, ap, ◌∙◌}
use mathlib.Core.Bool.{Bool, true, false}
use mathlib.Core.List.{List}
use Prim.Native.Nat.{ℕ, ◌≤◌, ◌<◌}
use native.Mathlib.Omega.{arith}
use borrow.Author.Tests.{eq-eqb, ne_eqb, ltb-false, eqb-false}
use lib.Dec.{eqb, ltb}
use lib.ListN.{length}
use Rattle.lists.specs.Logic.{on}
use Rattle.script_text.specs.Rules.{word_at}
use Rattle.boards_orders.specs.declared.Order.{Order}
use Rattle.boards_orders.specs.declared.Order.TheVariants.{Nothing, Open, Register, Message, Withdraw, Board, Messages, Registered, Save, Load, Parts, Bad}
use Rattle.boards_orders.specs.Orders.{no_sender, not_to_register, no_size, no_owner, no_date, no_time, no_horizon, no_places, no-day, no_form, no_number, number_word, date_word, time_word, places_at, form_at, wants, register_order, message_order, parts_order, withdraw_order, board_order, command_of, is_whole, is_of_day, is_silent, order_by, commanded, order_in}
use Rattle.boards_orders.specs.Claims.{RegisterInRange, PartsInRange, FormLeftOutIsOld, FormAsStated, BoardInRange, asks_day, NoDayNoneAsked, All}

-- whether something is asked, and the last number of what is asked
asks : Order → ℕ
asks Nothing = 0
asks Open = 1
asks (Register n) = 1
asks (Message n form) = 1
asks (Withdraw m n) = 1
asks (Board d t h n) = 1
asks Messages = 1
asks Registered = 1
asks Save = 1
asks Load = 1
asks (Parts n size form) = 1
asks (Bad k why) = 0

last : Order → ℕ
last Nothing = 0
last Open = 0
last (Register n) = n
last (Message n form) = form
last (Withdraw m n) = n
last (Board d t h n) = n
last Messages = 0
last Registered = 0
last Save = 0
last Load = 0
last (Parts n size form) = form
last (Bad k why) = 0

-- and the first
first : Order → ℕ
first Nothing = 0
first Open = 0
first (Register n) = n
first (Message n form) = n
first (Withdraw m n) = m
first (Board d t h n) = d
first Messages = 0
first Registered = 0
first Save = 0
first Load = 0
first (Parts n size form) = n
first (Bad k why) = 0

-- the size of a part
size_of : Order → ℕ
size_of Nothing = 0
size_of Open = 0
size_of (Register n) = 0
size_of (Message n form) = 0
size_of (Withdraw m n) = 0
size_of (Board d t h n) = 0
size_of Messages = 0
size_of Registered = 0
size_of Save = 0
size_of Load = 0
size_of (Parts n size form) = size
size_of (Bad k why) = 0

register-in-range : RegisterInRange
unfolding register_order asks last
register-in-range line n = go (eqb m 0) (ltb 255 m) (ltb 10 (length w)) refl refl refl
  where
    m : ℕ
    m = number_word 1 line

    w : List ℕ
    w = word_at 2 line

    go : (t u v : Bool) → eqb m 0 ≡ t → ltb 255 m ≡ u → ltb 10 (length w) ≡ v
        → on t (Bad 1 not_to_register) (on u (Bad 1 not_to_register) (on v (Bad 2 no_owner) (Register m))) ≡ Register n
        → (0 < n) × (n ≤ 255) × (length w ≤ 10)
    go true u v e f g q = absurd (omega (arith, ap asks q))
    go false true v e f g q = absurd (omega (arith, ap asks q))
    go false false true e f g q = absurd (omega (arith, ap asks q))
    go false false false e f g q =
        let z : m ≡ n = ap last q in
        let a = ltb-false 255 m f in
        let b = ltb-false 10 (length w) g in
        let p = eqb-false m 0 e in
        (omega (arith, z, p), omega (arith, z, a), b)

parts-in-range : PartsInRange
unfolding parts_order asks first size_of
parts-in-range line n size form = go (ltb 255 m) (eqb k 0) (ltb 65536 k) (eqb j no_number) refl refl refl
  where
    m : ℕ
    m = number_word 1 line

    k : ℕ
    k = number_word 3 line

    j : ℕ
    j = form_at 4 line

    go : (t u v w : Bool) → ltb 255 m ≡ t → eqb k 0 ≡ u → ltb 65536 k ≡ v
        → on t (Bad 1 no_sender) (on u (Bad 3 no_size) (on v (Bad 3 no_size) (on w (Bad 4 no_form) (Parts m k j)))) ≡ Parts n size form
        → (n ≤ 255) × (0 < size) × (size ≤ 65536)
    go true u v w e f g q = absurd (omega (arith, ap asks q))
    go false true v w e f g q = absurd (omega (arith, ap asks q))
    go false false true w e f g q = absurd (omega (arith, ap asks q))
    go false false false true e f g q = absurd (omega (arith, ap asks q))
    go false false false false e f g q =
        let y : m ≡ n = ap first q in
        let z : k ≡ size = ap size_of q in
        let a = ltb-false 255 m e in
        let b = ltb-false 65536 k g in
        let p = eqb-false k 0 f in
        (omega (arith, y, a), omega (arith, z, p), omega (arith, z, b))

-- a form that is left out is 0, and one that is stated its number
form-none : (k : ℕ) (line : List ℕ) → length (word_at k line) ≡ 0 → form_at k line ≡ 0
unfolding form_at
form-none k line e = rw (eq-eqb (length (word_at k line)) 0 e)

form-number : (k : ℕ) (line : List ℕ) → 0 < length (word_at k line) → form_at k line ≡ number_word k line
unfolding form_at
form-number k line h = rw (ne_eqb (length (word_at k line)) 0 (λ e. omega (arith, e, h)))

form-left-out-is-old : FormLeftOutIsOld
unfolding message_order parts_order
form-left-out-is-old line = (λ e. rw (form-none 3 line e), λ e. rw (form-none 4 line e))

message-as-stated : (line : List ℕ) (n form : ℕ) → message_order line ≡ Message n form → form ≡ form_at 3 line
unfolding message_order asks last
message-as-stated line n form = go (ltb 255 (number_word 1 line)) (eqb (form_at 3 line) no_number)
  where
    go : (t u : Bool) → on t (Bad 1 no_sender) (on u (Bad 3 no_form) (Message (number_word 1 line) (form_at 3 line))) ≡ Message n form → form ≡ form_at 3 line
    go true u q = absurd (omega (arith, ap asks q))
    go false true q = absurd (omega (arith, ap asks q))
    go false false q = sym (ap last q)

parts-as-stated : (line : List ℕ) (n size form : ℕ) → parts_order line ≡ Parts n size form → form ≡ form_at 4 line
unfolding parts_order asks last
parts-as-stated line n size form = go (ltb 255 (number_word 1 line)) (eqb (number_word 3 line) 0) (ltb 65536 (number_word 3 line)) (eqb (form_at 4 line) no_number)
  where
    go : (t u v w : Bool)
        → on t (Bad 1 no_sender) (on u (Bad 3 no_size) (on v (Bad 3 no_size) (on w (Bad 4 no_form) (Parts (number_word 1 line) (number_word 3 line) (form_at 4 line))))) ≡ Parts n size form
        → form ≡ form_at 4 line
    go true u v w q = absurd (omega (arith, ap asks q))
    go false true v w q = absurd (omega (arith, ap asks q))
    go false false true w q = absurd (omega (arith, ap asks q))
    go false false false true q = absurd (omega (arith, ap asks q))
    go false false false false q = sym (ap last q)

form-as-stated : FormAsStated
form-as-stated line n size form =
    (λ q h. message-as-stated line n form q ∙ form-number 3 line h, λ q h. parts-as-stated line n size form q ∙ form-number 4 line h)

board-in-range : BoardInRange
unfolding board_order asks last
board-in-range line date second horizon most = go (eqb (date_word line) no_number) (eqb (time_word line) no_number) (eqb (number_word 5 line) no_number) (ltb 2048 m) refl
  where
    m : ℕ
    m = places_at line

    go : (a b t u : Bool) → ltb 2048 m ≡ u
        → on a (Bad 3 no_date) (on b (Bad 4 no_time) (on t (Bad 5 no_horizon) (on u (Bad 6 no_places) (Board (date_word line) (time_word line) (number_word 5 line) m)))) ≡ Board date second horizon most
        → most ≤ 2048
    go true b t u f q = absurd (omega (arith, ap asks q))
    go false true t u f q = absurd (omega (arith, ap asks q))
    go false false true u f q = absurd (omega (arith, ap asks q))
    go false false false true f q = absurd (omega (arith, ap asks q))
    go false false false false f q =
        let z : m ≡ most = ap last q in
        let a = ltb-false 2048 m f in
        omega (arith, z, a)

-- of a sender's pair nothing is asked of a day
register-no-day : (line : List ℕ) → asks_day (register_order line) ≡ false
unfolding register_order
register-no-day line = go (eqb (number_word 1 line) 0) (ltb 255 (number_word 1 line)) (ltb 10 (length (word_at 2 line)))
  where
    go : (t u v : Bool) → asks_day (on t (Bad 1 not_to_register) (on u (Bad 1 not_to_register) (on v (Bad 2 no_owner) (Register (number_word 1 line))))) ≡ false
    go true u v = refl
    go false true v = refl
    go false false true = refl
    go false false false = refl

flag : Bool → ℕ
flag b = on b 1 0

-- nor by any command that is not about one
command-no-day : (c : ℕ) (line : List ℕ) → is_of_day c ≡ false → asks_day (order_by c line) ≡ false
unfolding is_of_day order_by flag
command-no-day c line = go (eqb c 0) (eqb c 1) (eqb c 2) (eqb c 3) (eqb c 4) (eqb c 5) (eqb c 6) (eqb c 7) (eqb c 8) (eqb c 9)
  where
    go : (t₀ t₁ t₂ t₃ t₄ t₅ t₆ t₇ t₈ t₉ : Bool)
        → on t₂ true (on t₃ true (on t₄ true (on t₅ true (on t₇ true (on t₉ true false))))) ≡ false
        → asks_day (on t₀ Open (on t₁ (register_order line) (on t₂ (message_order line) (on t₃ (withdraw_order line) (on t₄ (board_order line) (on t₅ Messages (on t₆ Registered (on t₇ Save (on t₈ Load (on t₉ (parts_order line) (wants c))))))))))) ≡ false
    go true t₁ t₂ t₃ t₄ t₅ t₆ t₇ t₈ t₉ e = refl
    go false true t₂ t₃ t₄ t₅ t₆ t₇ t₈ t₉ e = register-no-day line
    go false false true t₃ t₄ t₅ t₆ t₇ t₈ t₉ e = absurd (omega (arith, ap flag e))
    go false false false true t₄ t₅ t₆ t₇ t₈ t₉ e = absurd (omega (arith, ap flag e))
    go false false false false true t₅ t₆ t₇ t₈ t₉ e = absurd (omega (arith, ap flag e))
    go false false false false false true t₆ t₇ t₈ t₉ e = absurd (omega (arith, ap flag e))
    go false false false false false false true t₇ t₈ t₉ e = refl
    go false false false false false false false true t₈ t₉ e = absurd (omega (arith, ap flag e))
    go false false false false false false false false true t₉ e = refl
    go false false false false false false false false false true e = absurd (omega (arith, ap flag e))
    go false false false false false false false false false false e = refl

no-day-none-asked : NoDayNoneAsked
unfolding order_in commanded
no-day-none-asked line = go (is_silent (word_at 0 line)) (is_whole c line) (is_of_day c) refl
  where
    c : ℕ
    c = command_of (word_at 0 line)

    go : (t u v : Bool) → is_of_day c ≡ v → asks_day (on t Nothing (on u (on v (Bad 0 no-day) (order_by c line)) (wants c))) ≡ false
    go true u v e = refl
    go false true true e = refl
    go false true false e = command-no-day c line e
    go false false v e = refl

pub claims : All
claims = (register-in-range, parts-in-range, form-left-out-is-old, form-as-stated, board-in-range, no-day-none-asked)
