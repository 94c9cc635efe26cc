-- All that is claimed of the calls holds. Assumes nothing.
use Rattle.calls.specs.Claims.{All}
use Rattle.calls.proofs.RefusalLaws.{acceptance-is-zero, refusals-give-back, numbers-listed}
use Rattle.calls.proofs.AcceptedLaws.{message-exactly, withdraw-exactly}
use Rattle.calls.proofs.KeyFieldLaws.{key-fields}
use Rattle.calls.proofs.TakenLaws.{rows-change}
use Rattle.calls.proofs.BytesLaws.{rows-are-lines, message-numbered, rows-to-book, freed-and-kept}
use Rattle.calls.proofs.AlikeLaws.{old-form-answers, forms-taken-alike}
use Rattle.calls.proofs.AgainLaws.{marks-entries, works-again}
use Rattle.calls.proofs.OpenedLaws.{leaves-plan, plan-exactly, reads-lengths}
use Rattle.calls.proofs.ApartLaws.{open-exactly}
use Rattle.calls.proofs.NumbersLaws.{numbers-are-tables}
use Rattle.calls.proofs.EndLaws.{end-numbers, end-listed, end-gives-back}
use Rattle.calls.proofs.UnknownLaws.{unknown-exactly}

pub claims : All
claims = (
  acceptance-is-zero,
  refusals-give-back,
  numbers-listed,
  numbers-are-tables,
  message-exactly,
  key-fields,
  rows-change,
  rows-are-lines,
  old-form-answers,
  forms-taken-alike,
  message-numbered,
  rows-to-book,
  freed-and-kept,
  open-exactly,
  leaves-plan,
  plan-exactly,
  reads-lengths,
  withdraw-exactly,
  marks-entries,
  works-again,
  end-gives-back,
  end-listed,
  end-numbers,
  unknown-exactly,
)
