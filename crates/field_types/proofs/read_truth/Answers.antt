use native.Mathlib.Omega.{arith}
use Rattle.field_types.specs.Names.{truths, truth}
use Rattle.field_types.proofs.NameLaws.{Tried, untried, this-word, other_word, no_word}
use Rattle.field_types.proofs.read_truth.Goals as goal

pub returns-then-same_bytes : goal.returns-then-same_bytes
unfolding truth
returns-then-same_bytes c = this-word (untried 0 truths c.args.field.now) (omega arith) c.if-same_bytes.true c.same_bytes.ensures

pub returns-then-same_bytes-2 : goal.returns-then-same_bytes-2
unfolding truth
returns-then-same_bytes-2 c =
    let past1 : Tried 0 truths 1 = other_word (untried 0 truths c.args.field.now) (omega arith) c.if-same_bytes.false c.same_bytes.ensures in
    this-word past1 (omega arith) c.if-same_bytes-2.true c.same_bytes-2.ensures

pub returns : goal.returns
unfolding truth
returns c =
    let past1 : Tried 0 truths 1 = other_word (untried 0 truths c.args.field.now) (omega arith) c.if-same_bytes.false c.same_bytes.ensures in
    let past2 : Tried 0 truths 2 = other_word past1 (omega arith) c.if-same_bytes-2.false c.same_bytes-2.ensures in
    no_word past2
