use native.Mathlib.Omega.{arith}
use Rattle.field_types.specs.Names.{stop_types, stop_type}
use Rattle.field_types.proofs.NameLaws.{Tried, untried, this-word, other_word, no_word}
use Rattle.field_types.proofs.read_stop_type.Goals as goal

pub returns-then-same_bytes : goal.returns-then-same_bytes
unfolding stop_type
returns-then-same_bytes c = this-word (untried 0 stop_types c.args.field.now) (omega arith) c.if-same_bytes.true c.same_bytes.ensures

pub returns-then-same_bytes-2 : goal.returns-then-same_bytes-2
unfolding stop_type
returns-then-same_bytes-2 c =
    let past1 : Tried 0 stop_types 1 = other_word (untried 0 stop_types c.args.field.now) (omega arith) c.if-same_bytes.false c.same_bytes.ensures in
    this-word past1 (omega arith) c.if-same_bytes-2.true c.same_bytes-2.ensures

pub returns-then-same_bytes-3 : goal.returns-then-same_bytes-3
unfolding stop_type
returns-then-same_bytes-3 c =
    let past1 : Tried 0 stop_types 1 = other_word (untried 0 stop_types c.args.field.now) (omega arith) c.if-same_bytes.false c.same_bytes.ensures in
    let past2 : Tried 0 stop_types 2 = other_word past1 (omega arith) c.if-same_bytes-2.false c.same_bytes-2.ensures in
    this-word past2 (omega arith) c.if-same_bytes-3.true c.same_bytes-3.ensures

pub returns : goal.returns
unfolding stop_type
returns c =
    let past1 : Tried 0 stop_types 1 = other_word (untried 0 stop_types c.args.field.now) (omega arith) c.if-same_bytes.false c.same_bytes.ensures in
    let past2 : Tried 0 stop_types 2 = other_word past1 (omega arith) c.if-same_bytes-2.false c.same_bytes-2.ensures in
    let past3 : Tried 0 stop_types 3 = other_word past2 (omega arith) c.if-same_bytes-3.false c.same_bytes-3.ensures in
    no_word past3
