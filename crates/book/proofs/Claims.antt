-- The claims of `specs/Claims.antt` hold. Assumes nothing.
use native.Mathlib.Omega.{arith}
use Rattle.book.specs.Claims.{All, RoomExactly, EntriesByField, MessagesNumbered}
use Rattle.book.specs.Entries.{updates_in}
use Rattle.book.specs.Rules.{no_entry}
use Rattle.book.proofs.SoundLaws.{sound-facts, room_within, room-least}
use Rattle.book.proofs.SplitLaws.{split-whole, wide-updates}
use Rattle.book.proofs.MessageLaws.{numbers-rise, numbers-within, numbers-like}
use Rattle.book.proofs.FactLaws.{begins-at-1, sound-means, means-sound, plans-length, plan-place, updates-length, update-place}
use Rattle.book.proofs.AfterLaws.{after-message, after-withdrawal, after_open}
use Rattle.book.proofs.StandingLaws.{standing-append, standing-withdrawn, next-withdrawn}
use Rattle.book.proofs.WriteLaws.{length-entry_of, length-entries_of}
use Rattle.book.proofs.ChangeLaws.{entry-number, entry-sender, entry-body}
use Rattle.book.proofs.EntryLaws.{entry-kind, entries_at, stands, of-message, of_others, message-append, others-append, withdrawn-length, withdrawn-at}

room-exactly : RoomExactly
room-exactly n b = (λ h. let r = room_within b in (omega (arith, r.1), omega (arith, r.0)), λ h. room-least b n h.0 h.1)

messages-numbered : MessagesNumbered
messages-numbered used b sound =
    let us = updates_in used b in
    let c = (sound-facts used b sound).chain in
    (begins-at-1 us c, numbers-rise no_entry us c, numbers-within us c, numbers-like no_entry us c)

entries-by-field : EntriesByField
entries-by-field n s = (
  λ body small h. (length-entry_of n s body h, entry-kind n s body, entry-number n s small body, entry-sender n s body, entry-body n s body h),
  λ bodies. (length-entries_of n s bodies, entries_at n s bodies),
)

pub claims : All
claims = (
  λ used b. (sound-means used b, means-sound used b),
  room-exactly,
  λ used b f. (plans-length used b f, plan-place used b f, updates-length used b f, update-place used b f),
  split-whole,
  entries-by-field,
  λ used b sender bodies sound ranges least fits. after-message used b sound sender bodies ranges least fits,
  λ used b n sound. after-withdrawal used b sound n,
  after_open,
  messages-numbered,
  λ n us. (withdrawn-length n us, withdrawn-at n us),
  (standing-append, stands, message-append, λ n e. of-message e n, others-append, λ n e. of_others e n),
  λ used b n sound. (standing-withdrawn n (updates_in used b) (wide-updates used b sound), next-withdrawn n (updates_in used b)),
)
