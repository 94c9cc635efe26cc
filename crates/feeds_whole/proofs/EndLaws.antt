use Prim.Native.Nat.{ℕ, ◌-◌, ◌*◌, ◌/◌, ◌≤◌, ◌<◌}
use native.Mathlib.Omega.{arith}
use native.Mathlib.Nat.{le-div_iff_mul-le}
use mathlib.Core.Path.{◌≡◌, refl, sym, ap, subst, ◌∙◌}
use mathlib.Core.Bool.{Bool, true, false, not, ◌&&◌}
use mathlib.Core.List.{List, [], ◌∷◌}
use borrow.Author.Tests.{lt-ltb, le-ltb, le-leb, leb-true, leb-false, ltb-true, ltb-false, eqb-true}
use lib.Dec.{eqb, leb, ltb}
use lib.ListN.{length, take, length-take}
use lib.Seq.{take_all, take-take}
use Rattle.std.specs.Prelude.{Result, Ok, Err, ⊤}
use Rattle.lists.specs.Logic.{on}
use Rattle.lists.specs.Each.{Each}
use Rattle.lists.specs.Part.{over}
use Rattle.lists.specs.Rows.{flat, rows_of, Wide}
use Rattle.lists.proofs.EachLaws.{each_take}
use Rattle.lists.proofs.LogicLaws.{and-false, and-true}
use Rattle.lists.proofs.OverLaws.{length_over, onto-fits}
use Rattle.lists.proofs.RowLaws.{take-rows_of}
use Rattle.lists.proofs.WideLaws.{length-flat, rows_of-flat}
use Rattle.syntax.specs.Machine.{accepting, fault}
use Rattle.syntax.proofs.GrammarLaws.{formed}
use Rattle.turbo_lines.specs.Lines.{lines, first_long, short_front}
use Rattle.turbo_lines.proofs.LongLaws.{none-long, front-whole, all_short}
use Rattle.turbo_lines.specs.Claims.{Short}
use Rattle.passage.specs.Layout.{body_wide, owner_of}
use Rattle.passage.specs.Ranges.{update_in_range}
use Rattle.columns.specs.declared.Form.{Form}
use Rattle.columns.specs.declared.Table.TheVariants.{Message}
use Rattle.columns.specs.Tables.{is_form, form_of, row_width, row_of}
use Rattle.columns.proofs.FormLaws.{message-wide}
use Rattle.register.specs.Register.{grants}
use Rattle.reader.specs.declared.Fault.TheVariants as Faults
use Rattle.reader.specs.Items.{Item, head, row, outside, items}
use Rattle.reader.specs.Rules.{Reading, largest, form_bad, is_wrong, faults, fault_place, is_line, items_of, answer_to, reading_of}
use Rattle.reader.specs.Staging.{fine, rows_up_to, laid}
use Rattle.reader.specs.inner.Settled.{answered_by, unless_long}
use Rattle.reader.proofs.RangeLaws.{rows-in-range}
use Rattle.reader.proofs.EachRowLaws.{rows-wide}
use Rattle.reader.proofs.AnswerLaws.{reading-looked, rows-counted, accepted-rows}
use Rattle.feeds.specs.declared.Feed.{Feed}
use Rattle.feeds.specs.Feed.{Fed}
use Rattle.feeds.specs.Kept.{feed_of, is_begun}
use Rattle.calls.specs.declared.Refusal.TheVariants.{Unsound, Owner, StagingShort, UnknownForm}
use Rattle.calls.specs.declared.Counts.{Counts}
use Rattle.calls.specs.Answers.{Answer, unless_refused}
use Rattle.calls.specs.Message.{message_sound, message_table, message_rows, room_for}
use Rattle.calls.specs.End.{least, staged_rows, all_in_range, any_denied, falls_short, most_rows, end_sound, reading_kept, post_answer, end_answer}
use Rattle.turbo_lines.specs.Ended.{ended_lines}
use Rattle.feeds_whole.specs.Parts.{valid_front}
use Rattle.turbo_lines.proofs.EndedLaws.{ended-lines}
use Rattle.feeds_whole.proofs.ByteLaws.{core_of}
use Rattle.feeds_whole.proofs.FoldLaws.{Final, least-low, least-high, lines-final}
use Rattle.feeds_whole.proofs.WeighLaws.{rows_few}
use Rattle.feeds_whole.proofs.WholeLaws.{Whole, front-fine, front-few}

-- The end of a feed to which all bytes of a dossier came. Assumes nothing.

-- ---- rows laid in an area

wide-message : (f : Form) → row_width (Message f) ≡ body_wide
wide-message f = message-wide f

over-rows : (w : ℕ) (rs : List (List ℕ)) (st : List ℕ) → Wide w rs → length rs * w ≤ length st → rows_of w (length rs) (over 0 (flat rs) st) ≡ rs
unfolding over
over-rows w rs st h f =
    let k : length (flat rs) ≤ length st = rw (length-flat w rs h) f in
    rw (onto-fits (flat rs) st k) (rows_of-flat w rs _ h)

-- as many as fit are read back
laid-rows : (w : ℕ) (rs : List (List ℕ)) (st : List ℕ) (k : ℕ) → 0 < w → Wide w rs → k ≤ length rs → k ≤ length st / w → rows_of w k (over 0 (flat (take (length st / w) rs)) st) ≡ take k rs
laid-rows w rs st k some wide few fits =
    let f = take (length st / w) rs in
    let n : length f ≤ length st / w = omega (arith, length-take (length st / w) rs) in
    let m : k ≤ length f = omega (arith, length-take (length st / w) rs, few, fits) in
    sym (take-rows_of w (length f) k (over 0 (flat f) st) m)
    ∙ ap (take k) (over-rows w f st (each_take (λ (r : List ℕ). length r ≡ w) (length st / w) rs wide) ((le-div_iff_mul-le some).0 n))
    ∙ take-take k (length st / w) rs fits

-- ---- what holds of each row

each-in-range : (rs : List (List ℕ)) → Each (λ (r : List ℕ). update_in_range r ≡ true) rs → all_in_range rs ≡ true
unfolding all_in_range
each-in-range [] h = refl
each-in-range (r ∷ rs) (p, h) = rw (p, each-in-range rs h) refl

each-granted : (register : List ℕ) (sender : ℕ) (rs : List (List ℕ)) → Each (λ (r : List ℕ). grants register sender (owner_of r) ≡ true) rs → any_denied register sender rs ≡ false
unfolding any_denied
each-granted register sender [] h = refl
each-granted register sender (r ∷ rs) (p, h) = rw (p, each-granted register sender rs h) refl

each_on : (P : List ℕ → Type 0) (b : Bool) (rs : List (List ℕ)) → Each P rs → Each P (on b rs [])
each_on P true rs h = h
each_on P false rs h = tt

rows-granted : (f : Form) (register : List ℕ) (sender : ℕ) (xs : List Item) → Each (λ (r : List ℕ). grants register sender (owner_of r) ≡ true) (rows_up_to (Message f) register sender xs)
unfolding rows_up_to
rows-granted f register sender [] = tt
rows-granted f register sender (head n ls ∷ xs) =
    each_on (λ (r : List ℕ). grants register sender (owner_of r) ≡ true) (fine (Message f) register sender (head n ls)) (rows_up_to (Message f) register sender xs) (rows-granted f register sender xs)
rows-granted f register sender (row n ls l ∷ xs) = go (grants register sender (owner_of (row_of (Message f) ls l))) refl (rows-granted f register sender xs)
  where
    go : (b : Bool) → grants register sender (owner_of (row_of (Message f) ls l)) ≡ b → Each (λ (r : List ℕ). grants register sender (owner_of r) ≡ true) (rows_up_to (Message f) register sender xs)
        → Each (λ (r : List ℕ). grants register sender (owner_of r) ≡ true)
        (on (not (form_bad (Message f) (row n ls l)) && (not (is_wrong (Message f) (row n ls l)) && not (not b))) (row_of (Message f) ls l ∷ rows_up_to (Message f) register sender xs) [])
    go true e h =
        each_on (λ (r : List ℕ). grants register sender (owner_of r) ≡ true) (not (form_bad (Message f) (row n ls l)) && (not (is_wrong (Message f) (row n ls l)) && true)) (row_of (Message f) ls l ∷ rows_up_to (Message f) register sender xs) (e, h)
    go false e h = rw (and-false (not (is_wrong (Message f) (row n ls l))), and-false (not (form_bad (Message f) (row n ls l)))) tt

-- ---- the reading

-- where the verdict is fine what comes next is the same
verdict-same : (b a : Bool) (n at : ℕ) (v : Result ⊤ ℕ) (x y : Reading) → on b (on a (Ok tt) (Err at)) (Err (n - 1)) ≡ v → (v ≡ Ok tt → x ≡ y)
    → on (not b) (Err (Faults.Syntax (n - 1))) (on (not a) (Err (Faults.Syntax at)) x) ≡ on (faults v) (Err (Faults.Syntax (fault_place v))) y
verdict-same false a n at v x y e h = ap (λ (u : Result ⊤ ℕ). on (faults u) (Err (Faults.Syntax (fault_place u))) y) e
verdict-same true false n at v x y e h = ap (λ (u : Result ⊤ ℕ). on (faults u) (Err (Faults.Syntax (fault_place u))) y) e
verdict-same true true n at v x y e h = h (sym e) ∙ ap (λ (u : Result ⊤ ℕ). on (faults u) (Err (Faults.Syntax (fault_place u))) y) e

long-then : (long : ℕ) (x y : Reading) → (long ≡ 0 → x ≡ y) → unless_long long x ≡ unless_long long y
long-then long x y h = go (eqb long 0) refl
  where
    go : (b : Bool) → eqb long 0 ≡ b → on (not b) (Err (Faults.Long long)) x ≡ on (not b) (Err (Faults.Long long)) y
    go true e = h (eqb-true long 0 e)
    go false e = refl

answered-rows : (form line column owner rows n : ℕ) → answered_by form line column owner rows ≡ Ok n → rows ≡ n
answered-rows form line column owner rows n = go (not (eqb form 0)) (not (eqb line 0)) (not (eqb owner 0))
  where
    go : (a b c : Bool) → on a (Err (Faults.Form form)) (on b (Err (Faults.Field line column)) (on c (Err (Faults.Owner owner)) (Ok rows))) ≡ Ok n → rows ≡ n
    go true b c e = absurd (let z : ◌≡◌ {A = ℕ} 0 1 = cc in omega arith)
    go false true c e = absurd (let z : ◌≡◌ {A = ℕ} 0 1 = cc in omega arith)
    go false false true e = absurd (let z : ◌≡◌ {A = ℕ} 0 1 = cc in omega arith)
    go false false false e = cc

-- a refusal of the dossier, or what comes next
next-same : (r : Reading) (x y : Answer) → ((n : ℕ) → r ≡ Ok n → x ≡ y) → unless_refused 0 r x ≡ unless_refused 0 r y
next-same (Err Faults.TooLong) x y h = refl
next-same (Err (Faults.Syntax i)) x y h = refl
next-same (Err (Faults.Long l)) x y h = refl
next-same (Err (Faults.Form l)) x y h = refl
next-same (Err (Faults.Field l c)) x y h = refl
next-same (Err (Faults.Owner l)) x y h = refl
next-same (Ok n) x y h = h n refl

-- ---- the least of two

least-most : (a b : ℕ) → least a b ≤ b
least-most a b = go (leb a b) refl
  where
    go : (t : Bool) → leb a b ≡ t → on t a b ≤ b
    go true e = leb-true a b e
    go false e = omega arith

least-few : (a b : ℕ) → least a b ≤ a
least-few a b = go (leb a b) refl
  where
    go : (t : Bool) → leb a b ≡ t → on t a b ≤ a
    go true e = omega arith
    go false e = let k : b < a = leb-false a b e in omega arith

module _ (register : List ℕ) (sender form : ℕ) (staging d : List ℕ) (y : Fed) (whole : Whole register sender form staging d y) where
  abbrev ls : List (List ℕ)
  ls = ended_lines [] (valid_front d)

  abbrev rs : List (List ℕ)
  rs = rows_up_to (message_table form) register sender (items (message_table form) outside 1 (short_front ls))

  abbrev kept-rows : ℕ
  kept-rows = y.feed.lines.rows

  final : Final (message_table form) register sender (short_front ls) staging (first_long 1 ls) (core_of y)
  final = subst (Final (message_table form) register sender (short_front ls) staging (first_long 1 ls)) (sym whole.core) (lines-final (message_table form) register sender staging ls)

  pub area-holds : y.staging ≡ laid (message_table form) rs staging
  area-holds = final.staging

  area-length : length y.staging ≡ length staging
  area-length = ap length area-holds ∙ length_over 0 _ staging

  -- how many rows are staged
  abbrev room : ℕ
  room = length staging / body_wide

  staged-is : y.feed.staged ≡ least kept-rows room
  staged-is = final.staged ∙ ap (λ (w : ℕ). least kept-rows (length staging / w)) (wide-message (form_of form))

  pub staged-rows : staged_rows y.staging y.feed ≡ take (least kept-rows room) rs
  unfolding staged_rows
  staged-rows =
      let k = least kept-rows room in
      let e : least y.feed.staged (length y.staging / body_wide) ≡ k =
      ap (λ (n : ℕ). least n (length y.staging / body_wide)) staged-is ∙ ap (λ (n : ℕ). least k (n / body_wide)) area-length ∙ least-low k room (least-most kept-rows room) in
      let wide : Wide body_wide rs = subst (λ (w : ℕ). Wide w rs) (wide-message (form_of form)) (rows-wide (message_table form) register sender (items (message_table form) outside 1 (short_front ls))) in
      ap (λ (n : ℕ). rows_of body_wide n y.staging) e
      ∙ ap (rows_of body_wide k) (area-holds ∙ ap (λ (w : ℕ). over 0 (flat (take (length staging / w) rs)) staging) (wide-message (form_of form)))
      ∙ laid-rows body_wide rs staging k (omega arith) wide (omega (arith, least-few kept-rows room, final.few)) (least-most kept-rows room)

  in-range : all_in_range (staged_rows y.staging y.feed) ≡ true
  in-range =
      ap all_in_range staged-rows
      ∙ each-in-range (take (least kept-rows room) rs) (each_take (λ (r : List ℕ). update_in_range r ≡ true) (least kept-rows room) rs (rows-in-range (form_of form) register sender (items (message_table form) outside 1 (short_front ls))))

  granted : any_denied register y.feed.sender (staged_rows y.staging y.feed) ≡ false
  granted =
      ap (λ (n : ℕ). any_denied register n (staged_rows y.staging y.feed)) whole.sent
      ∙ ap (any_denied register sender) staged-rows
      ∙ each-granted register sender (take (least kept-rows room) rs)
      (each_take (λ (r : List ℕ). grants register sender (owner_of r) ≡ true) (least kept-rows room) rs (rows-granted (form_of form) register sender (items (message_table form) outside 1 (short_front ls))))

  few-rows : leb kept-rows most_rows ≡ true
  few-rows =
      let k = front-few d in
      let m : length rs ≤ 2427 = subst (λ (v : List ℕ). length (rows_up_to (message_table form) register sender (items (message_table form) outside 1 (short_front (ended_lines [] v)))) ≤ 2427) (sym k.2) (rows_few (form_of form) register sender k.0 k.1) in
      le-leb kept-rows most_rows (omega (arith, m, final.few))

  -- ---- a dossier without a fault of syntax
  module _ (small : length d ≤ largest) (right : fault d ≡ Ok tt) where
    lines_are : ls ≡ lines d
    lines_are = ap (ended_lines []) (front-fine d small right) ∙ ended-lines d (formed d right)

    long-is : y.feed.long ≡ first_long 1 (lines d)
    long-is = final.long ∙ ap (first_long 1) lines_are

    all_lines : first_long 1 (lines d) ≡ 0 → short_front ls ≡ lines d
    all_lines z = ap short_front lines_are ∙ front-whole (lines d) (none-long 1 (lines d) (omega arith) z)

    answers : first_long 1 (lines d) ≡ 0
        → answered_by y.feed.lines.form y.feed.lines.wrong y.feed.lines.column y.feed.lines.owner kept-rows ≡ answer_to (message_table form) register sender (items_of (message_table form) d)
    answers z = final.answer (long-is ∙ z) ∙ ap (λ (x : List (List ℕ)). answer_to (message_table form) register sender (items (message_table form) outside 1 x)) (all_lines z)

    tail-is : unless_long y.feed.long (answered_by y.feed.lines.form y.feed.lines.wrong y.feed.lines.column y.feed.lines.owner kept-rows)
        ≡ unless_long (first_long 1 (lines d)) (answer_to (message_table form) register sender (items_of (message_table form) d))
    tail-is =
        ap (λ (n : ℕ). unless_long n (answered_by y.feed.lines.form y.feed.lines.wrong y.feed.lines.column y.feed.lines.owner kept-rows)) long-is
        ∙ long-then (first_long 1 (lines d)) _ _ answers

  -- ---- any dossier

  abbrev later : Reading
  later = unless_long y.feed.long (answered_by y.feed.lines.form y.feed.lines.wrong y.feed.lines.column y.feed.lines.owner kept-rows)

  reading-is : reading_kept y.feed ≡ reading_of (message_table form) register sender d
  unfolding reading_kept reading_of
  reading-is = go (ltb largest (length d)) refl
    where
      go : (b : Bool) → ltb largest (length d) ≡ b
          → on (ltb largest y.feed.at) (Err Faults.TooLong) (on (is_line y.feed.fault) (Err (Faults.Syntax (y.feed.fault - 1))) (on (not (accepting y.feed.machine)) (Err (Faults.Syntax y.feed.at)) later))
          ≡ on b (Err Faults.TooLong)
          (on (faults (fault d)) (Err (Faults.Syntax (fault_place (fault d)))) (unless_long (first_long 1 (lines d)) (answer_to (message_table form) register sender (items_of (message_table form) d))))
      go true e = rw (lt-ltb largest y.feed.at (whole.over (ltb-true largest (length d) e))) refl
      go false e =
          let small : length d ≤ largest = ltb-false largest (length d) e in
          rw (le-ltb largest y.feed.at (omega (arith, whole.at small)))
          (verdict-same (eqb y.feed.fault 0) (accepting y.feed.machine) y.feed.fault y.feed.at (fault d) later _ (whole.verdict small) (tail-is small))

  -- ---- the end, with the numbers of this feed
  module _ (book table : List ℕ) (c : Counts) (kept : List ℕ) (begun : is_begun kept ≡ true) (is : feed_of kept ≡ y.feed) where
    sound-is : end_sound register y.staging book table c kept ≡ message_sound register book table c
    unfolding end_sound
    sound-is =
        ap (λ (f : Feed). message_sound register book table c && (is_begun kept && (leb f.lines.rows most_rows && all_in_range (staged_rows y.staging f)))) is
        ∙ rw (begun, few-rows, in-range) (and-true (message_sound register book table c))

    -- where nothing is refused in the dossier
    module _ (n : ℕ) (e : reading_of (message_table form) register sender d ≡ Ok n) where
      short-lines : first_long 1 (lines d) ≡ 0
      short-lines = let k = reading-looked (message_table form) register sender d n e in none_found (lines d) k.2
        where
          none_found : (x : List (List ℕ)) → Each Short x → first_long 1 x ≡ 0
          none_found x h = all_short 1 x h

      rows_are : rs ≡ message_rows form d
      unfolding message_rows
      rows_are =
          let k = reading-looked (message_table form) register sender d n e in
          ap (λ (x : List (List ℕ)). rows_up_to (message_table form) register sender (items (message_table form) outside 1 x)) (all_lines k.0 k.1 short-lines) ∙ accepted-rows (message_table form) register sender d n e

      count-is : kept-rows ≡ length (message_rows form d)
      unfolding message_rows
      count-is =
          let k = reading-looked (message_table form) register sender d n e in
          answered-rows y.feed.lines.form y.feed.lines.wrong y.feed.lines.column y.feed.lines.owner kept-rows n (answers k.0 k.1 short-lines ∙ k.3) ∙ rows-counted (message_table form) register sender d n e

      -- and they fit
      pub all-staged : length (message_rows form d) ≤ room → staged_rows y.staging y.feed ≡ message_rows form d
      all-staged k =
          let m : least kept-rows room ≡ kept-rows = least-low kept-rows room (omega (arith, count-is, k)) in
          staged-rows ∙ ap (λ (i : ℕ). take i rs) m ∙ ap (take kept-rows) rows_are ∙ take_all kept-rows (message_rows form d) (omega (arith, count-is))

      post_is : post_answer register y.staging book table c y.feed ≡ on (ltb room (length (message_rows form d))) (Err StagingShort) (room_for (message_rows form d) book table c)
      unfolding post_answer
      post_is = ap (λ (b : Bool). on b (Err (Owner 0)) (on (falls_short y.staging y.feed) (Err StagingShort) (room_for (staged_rows y.staging y.feed) book table c))) granted ∙ go (ltb room (length (message_rows form d))) refl
        where
          go : (b : Bool) → ltb room (length (message_rows form d)) ≡ b → on (falls_short y.staging y.feed) (Err StagingShort) (room_for (staged_rows y.staging y.feed) book table c) ≡ on b (Err StagingShort) (room_for (message_rows form d) book table c)
          go true h =
              let k : room < length (message_rows form d) = ltb-true room (length (message_rows form d)) h in
              let m : y.feed.staged ≡ room = staged-is ∙ least-high kept-rows room (omega (arith, count-is)) in
              rw (lt-ltb y.feed.staged kept-rows (omega (arith, m, count-is, k))) refl
          go false h =
              let k : length (message_rows form d) ≤ room = ltb-false room (length (message_rows form d)) h in
              let m : least kept-rows room ≡ kept-rows = least-low kept-rows room (omega (arith, count-is)) in
              let fits : kept-rows * body_wide ≤ length y.staging = subst (λ (x : ℕ). kept-rows * body_wide ≤ x) (sym area-length) ((le-div_iff_mul-le (omega arith)).0 (let z : kept-rows ≤ room = omega (arith, count-is, k) in z)) in
              rw (le-ltb y.feed.staged kept-rows (omega (arith, staged-is, m)), le-ltb (length y.staging) (kept-rows * body_wide) fits) (ap (λ (x : List (List ℕ)). room_for x book table c) (all-staged k))

    pub end_is : end_answer register y.staging book table c kept
        ≡ on (message_sound register book table c)
        (on (is_form form)
        (unless_refused 0 (reading_of (message_table form) register sender d) (on (ltb room (length (message_rows form d))) (Err StagingShort) (room_for (message_rows form d) book table c)))
        (Err UnknownForm))
        (Err Unsound)
    unfolding end_answer
    end_is =
        ap (λ (b : Bool). on b (on (is_form (feed_of kept).form) (unless_refused 0 (reading_kept (feed_of kept)) (post_answer register y.staging book table c (feed_of kept))) (Err UnknownForm)) (Err Unsound)) sound-is
        ∙ ap (λ (f : Feed). on (message_sound register book table c) (on (is_form f.form) (unless_refused 0 (reading_kept f) (post_answer register y.staging book table c f)) (Err UnknownForm)) (Err Unsound)) is
        ∙ ap (λ (n : ℕ). on (message_sound register book table c) (on (is_form n) (unless_refused 0 (reading_kept y.feed) (post_answer register y.staging book table c y.feed)) (Err UnknownForm)) (Err Unsound)) whole.stated
        ∙ ap (λ (r : Reading). on (message_sound register book table c) (on (is_form form) (unless_refused 0 r (post_answer register y.staging book table c y.feed)) (Err UnknownForm)) (Err Unsound)) reading-is
        ∙ ap (λ (a : Answer). on (message_sound register book table c) (on (is_form form) a (Err UnknownForm)) (Err Unsound)) (next-same (reading_of (message_table form) register sender d) _ _ post_is)
