use Rattle.texts.proofs.ReadingLaws.{Reading}
use Rattle.texts.proofs.read_text.Given as goal

abbrev pub invariant-loop-b : goal.invariant-loop-b
invariant-loop-b l = Reading l.field l.out l.n l.after l.b-index
