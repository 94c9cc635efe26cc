-- A plan passage has its fields from the pass time and the validity, and so is in range. Assumes nothing.
use Prim.Native.Nat.{ℕ, ◌+◌, ◌-◌, ◌≤◌, ◌<◌}
use native.Mathlib.Omega.{arith}
use mathlib.Core.Path.{◌≡◌, refl, sym, ap, subst, ◌∙◌}
use mathlib.Core.Bool.{Bool, true, false}
use mathlib.Core.List.{List, [], ◌∷◌, ◌++◌, append-nil, append_assoc}
use lib.ListN.{length, get_or, replicate}
use lib.Seq.{take_at}
use Rattle.lists.specs.Logic.{on}
use Rattle.lists.specs.Part.{part}
use Rattle.lists.specs.Rows.{flat}
use Rattle.lists.specs.Each.{Each}
use Rattle.lists.specs.BigEndian.{number}
use Rattle.lists.proofs.EachLaws.{each_append}
use Rattle.lists.proofs.PartLaws.{length_part, part-part, part_at}
use Rattle.clock.specs.Date.{is_date}
use Rattle.columns.specs.Layout.{total}
use Rattle.columns.proofs.PartLaws.{Fit, begins, flat-part}
use Rattle.passage.specs.Layout.{text_wide, date_wide, journey_wide, order_wide, stamp_wide, time_wide, owner_at, line_at, journey_at, fortify_at, stop_at, order_at, key_wide, stamp_at, status_at, arrival_at, departure_at, stop_type_at, show_cancelled_at, body_wide, key_of}
use Rattle.passage.specs.Ranges.{padded_text}
use Rattle.passage.specs.Facts.{PlanFacts, TimeFacts}
use Rattle.passage.proofs.RangeLaws.{facts-plan}
use Rattle.reader.specs.Passes.{pass_destination_at, pass_stop_type_at, pass_flexible_at, pass_wide, validity_date_at, validity_wide}
use Rattle.reader.specs.Staged.{PassFacts, ValidityFacts}
use Rattle.plan.specs.Passes.{pass_trip_at, trip_wide, pass_times_at, times_wide, plan_key, plan_rest, plan_body}
use Rattle.plan.proofs.BodyLaws.{key-length, body-length}
use Rattle.plan.specs.Rules.{matches, joined_with, joined}
use Rattle.plan.specs.Claims.{Passage}

-- timestamp and status of a body stand side by side, and so do show cancelled, flexible and monitored
abbrev pub unheard-wide : ℕ
unheard-wide = arrival_at - stamp_at

abbrev pub flags-wide : ℕ
flags-wide = body_wide - show_cancelled_at

module _ (p v : List ℕ) (h : length p ≡ pass_wide) (k : length v ≡ validity_wide) where
  abbrev body : List ℕ
  body = plan_body p v

  pub key-of-body : key_of body ≡ plan_key p v
  unfolding plan_body part
  key-of-body = take_at (plan_key p v) (plan_rest p) key_wide (key-length p v h k)

  -- ---- the pieces of a body, and where they begin

  abbrev pieces : List (List ℕ)
  pieces =
      part owner_at text_wide p
      ∷ part validity_date_at date_wide v
      ∷ part pass_trip_at trip_wide p
      ∷ part pass_destination_at text_wide p
      ∷ replicate unheard-wide 0
      ∷ part pass_times_at times_wide p
      ∷ (1 ∷ get_or p pass_flexible_at 0 ∷ 0 ∷ [])
      ∷ []

  abbrev widths : List ℕ
  widths = text_wide ∷ date_wide ∷ trip_wide ∷ text_wide ∷ unheard-wide ∷ times_wide ∷ flags-wide ∷ []

  fit : Fit widths pieces
  fit = (
    length_part owner_at text_wide p (omega arith),
    (length_part validity_date_at date_wide v (omega arith), (length_part pass_trip_at trip_wide p (omega arith), (length_part pass_destination_at text_wide p (omega arith), (refl, (length_part pass_times_at times_wide p (omega arith), (refl, tt)))))),
  )

  put-together : flat pieces ++ [] ≡ body
  unfolding plan_body flat
  put-together = simp (append-nil, append_assoc)

  pub piece : (j : ℕ) → j < 7 → part (begins widths j) (get_or widths j 0) body ≡ get_or pieces j []
  piece j l = ap (part (begins widths j) (get_or widths j 0)) (sym put-together) ∙ flat-part widths pieces [] fit j l

  -- a part of a piece of the pass time, and a byte of a piece
  pub of-pass : (at from m : ℕ) → part at m body ≡ part from m p → (off n : ℕ) → off + n ≤ m → part (at + off) n body ≡ part (from + off) n p
  of-pass at from m e off n l = sym (part-part off n at m body l) ∙ ap (part off n) e ∙ part-part off n from m p l

  pub byte_of : (at m : ℕ) (x : List ℕ) → part at m body ≡ x → (off : ℕ) → off < m → get_or body (at + off) 0 ≡ get_or x off 0
  byte_of at m x e off l = sym (part_at at m body off l) ∙ ap (λ (y : List ℕ). get_or y off 0) e

  pub byte-of-pass : (at from m : ℕ) → part at m body ≡ part from m p → (off : ℕ) → off < m → get_or body (at + off) 0 ≡ get_or p (from + off) 0
  byte-of-pass at from m e off l = byte_of at m (part from m p) e off l ∙ part_at from m p off l

  pub no-stamp : part stamp_at unheard-wide body ≡ replicate unheard-wide 0 → number (part stamp_at stamp_wide body) ≡ 0
  unfolding number part
  no-stamp e = ap number (sym (part-part 0 stamp_wide stamp_at unheard-wide body (omega arith)) ∙ ap (part 0 stamp_wide) e)

module _ (p v : List ℕ) (f : PassFacts p) (g : ValidityFacts v) where
  body-facts : PlanFacts (plan_body p v)
  unfolding total
  body-facts =
      let piece_of = piece p v f.wide g.wide in
      let key : part line_at trip_wide (plan_body p v) ≡ part pass_trip_at trip_wide p = piece_of 2 (omega arith) in
      let times : part arrival_at times_wide (plan_body p v) ≡ part pass_times_at times_wide p = piece_of 5 (omega arith) in
      let type : get_or (plan_body p v) stop_type_at 0 ≡ get_or p pass_stop_type_at 0 = byte-of-pass p v f.wide g.wide arrival_at pass_times_at times_wide times (stop_type_at - arrival_at) (omega arith) in
      let parted = of-pass p v f.wide g.wide in
      let flags = byte_of p v f.wide g.wide show_cancelled_at flags-wide (1 ∷ get_or p pass_flexible_at 0 ∷ 0 ∷ []) (piece_of 6 (omega arith)) in
      record {
        common =
            record {
              key =
                  record {
                    owner = ap padded_text (piece_of 0 (omega arith)) ∙ f.owner;
                    date = ap (λ (l : List ℕ). is_date (number l)) (piece_of 1 (omega arith)) ∙ g.date;
                    line = ap padded_text (parted line_at pass_trip_at trip_wide key 0 text_wide (omega arith)) ∙ f.line;
                    journey = subst (λ (l : List ℕ). number l < 1000000) (sym (parted line_at pass_trip_at trip_wide key (journey_at - line_at) journey_wide (omega arith))) f.journey;
                    fortify = subst (λ (n : ℕ). n < 100) (sym (byte-of-pass p v f.wide g.wide line_at pass_trip_at trip_wide key (fortify_at - line_at) (omega arith))) f.fortify;
                    stop = ap padded_text (parted line_at pass_trip_at trip_wide key (stop_at - line_at) text_wide (omega arith)) ∙ f.stop;
                    order = subst (λ (l : List ℕ). number l < 1000) (sym (parted line_at pass_trip_at trip_wide key (order_at - line_at) order_wide (omega arith))) f.order;
                  };
              destination = ap padded_text (piece_of 3 (omega arith)) ∙ f.destination;
              stop-type = subst (λ (n : ℕ). n ≤ 2) (sym type) f.stop-type;
              arrival = timed 0 (parted arrival_at pass_times_at times_wide times 0 time_wide (omega arith)) type f.arrival;
              departure = timed 2 (parted arrival_at pass_times_at times_wide times (departure_at - arrival_at) time_wide (omega arith)) type f.departure;
            };
        stamp = no-stamp p v f.wide g.wide (piece_of 4 (omega arith));
        status = byte_of p v f.wide g.wide stamp_at unheard-wide (replicate unheard-wide 0) (piece_of 4 (omega arith)) (status_at - stamp_at) (omega arith);
        show-cancelled = flags 0 (omega arith);
        flexible = subst (λ (n : ℕ). n ≤ 3) (sym (flags 1 (omega arith))) f.flexible;
        monitored = flags 2 (omega arith);
      }
    where
      timed : {x y : List ℕ} {m n : ℕ} (misses : ℕ) → x ≡ y → m ≡ n → TimeFacts misses n (number y) → TimeFacts misses m (number x)
      timed misses d e t = rw (d, e) t

  pub body-in-range : Passage (plan_body p v)
  body-in-range = (facts-plan (plan_body p v) body-facts, body-length p v f.wide g.wide)

-- ---- what joins

joined-with : (p : List ℕ) (vs : List (List ℕ)) → PassFacts p → Each ValidityFacts vs → Each Passage (joined_with p vs)
unfolding joined_with
joined-with p [] f g = tt
joined-with p (v ∷ vs) f g = go (matches p v) (joined-with p vs f g.1)
  where
    go : (b : Bool) → Each Passage (joined_with p vs) → Each Passage (on b (plan_body p v ∷ joined_with p vs) (joined_with p vs))
    go true h = (body-in-range p v f g.0, h)
    go false h = h

pub joined-in-range : (ps vs : List (List ℕ)) → Each PassFacts ps → Each ValidityFacts vs → Each Passage (joined ps vs)
unfolding joined
joined-in-range [] vs f g = tt
joined-in-range (p ∷ ps) vs f g = each_append Passage (joined_with p vs) (joined ps vs) (joined-with p vs f.0 g) (joined-in-range ps vs f.1 g)
