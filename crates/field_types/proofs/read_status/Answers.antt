use native.Mathlib.Omega.{arith}
use Rattle.field_types.specs.Names.{statuses, status}
use Rattle.field_types.proofs.NameLaws.{Tried, untried, this-word, other_word, no_word}
use Rattle.field_types.proofs.read_status.Goals as goal

pub returns-then-same_bytes : goal.returns-then-same_bytes
unfolding status
returns-then-same_bytes c = this-word (untried 0 statuses c.args.field.now) (omega arith) c.if-same_bytes.true c.same_bytes.ensures

pub returns-then-same_bytes-2 : goal.returns-then-same_bytes-2
unfolding status
returns-then-same_bytes-2 c =
    let past1 : Tried 0 statuses 1 = other_word (untried 0 statuses c.args.field.now) (omega arith) c.if-same_bytes.false c.same_bytes.ensures in
    this-word past1 (omega arith) c.if-same_bytes-2.true c.same_bytes-2.ensures

pub returns-then-same_bytes-3 : goal.returns-then-same_bytes-3
unfolding status
returns-then-same_bytes-3 c =
    let past1 : Tried 0 statuses 1 = other_word (untried 0 statuses c.args.field.now) (omega arith) c.if-same_bytes.false c.same_bytes.ensures in
    let past2 : Tried 0 statuses 2 = other_word past1 (omega arith) c.if-same_bytes-2.false c.same_bytes-2.ensures in
    this-word past2 (omega arith) c.if-same_bytes-3.true c.same_bytes-3.ensures

pub returns-then-same_bytes-4 : goal.returns-then-same_bytes-4
unfolding status
returns-then-same_bytes-4 c =
    let past1 : Tried 0 statuses 1 = other_word (untried 0 statuses c.args.field.now) (omega arith) c.if-same_bytes.false c.same_bytes.ensures in
    let past2 : Tried 0 statuses 2 = other_word past1 (omega arith) c.if-same_bytes-2.false c.same_bytes-2.ensures in
    let past3 : Tried 0 statuses 3 = other_word past2 (omega arith) c.if-same_bytes-3.false c.same_bytes-3.ensures in
    this-word past3 (omega arith) c.if-same_bytes-4.true c.same_bytes-4.ensures

pub returns-then-same_bytes-5 : goal.returns-then-same_bytes-5
unfolding status
returns-then-same_bytes-5 c =
    let past1 : Tried 0 statuses 1 = other_word (untried 0 statuses c.args.field.now) (omega arith) c.if-same_bytes.false c.same_bytes.ensures in
    let past2 : Tried 0 statuses 2 = other_word past1 (omega arith) c.if-same_bytes-2.false c.same_bytes-2.ensures in
    let past3 : Tried 0 statuses 3 = other_word past2 (omega arith) c.if-same_bytes-3.false c.same_bytes-3.ensures in
    let past4 : Tried 0 statuses 4 = other_word past3 (omega arith) c.if-same_bytes-4.false c.same_bytes-4.ensures in
    this-word past4 (omega arith) c.if-same_bytes-5.true c.same_bytes-5.ensures

pub returns-then-same_bytes-6 : goal.returns-then-same_bytes-6
unfolding status
returns-then-same_bytes-6 c =
    let past1 : Tried 0 statuses 1 = other_word (untried 0 statuses c.args.field.now) (omega arith) c.if-same_bytes.false c.same_bytes.ensures in
    let past2 : Tried 0 statuses 2 = other_word past1 (omega arith) c.if-same_bytes-2.false c.same_bytes-2.ensures in
    let past3 : Tried 0 statuses 3 = other_word past2 (omega arith) c.if-same_bytes-3.false c.same_bytes-3.ensures in
    let past4 : Tried 0 statuses 4 = other_word past3 (omega arith) c.if-same_bytes-4.false c.same_bytes-4.ensures in
    let past5 : Tried 0 statuses 5 = other_word past4 (omega arith) c.if-same_bytes-5.false c.same_bytes-5.ensures in
    this-word past5 (omega arith) c.if-same_bytes-6.true c.same_bytes-6.ensures

pub returns : goal.returns
unfolding status
returns c =
    let past1 : Tried 0 statuses 1 = other_word (untried 0 statuses c.args.field.now) (omega arith) c.if-same_bytes.false c.same_bytes.ensures in
    let past2 : Tried 0 statuses 2 = other_word past1 (omega arith) c.if-same_bytes-2.false c.same_bytes-2.ensures in
    let past3 : Tried 0 statuses 3 = other_word past2 (omega arith) c.if-same_bytes-3.false c.same_bytes-3.ensures in
    let past4 : Tried 0 statuses 4 = other_word past3 (omega arith) c.if-same_bytes-4.false c.same_bytes-4.ensures in
    let past5 : Tried 0 statuses 5 = other_word past4 (omega arith) c.if-same_bytes-5.false c.same_bytes-5.ensures in
    let past6 : Tried 0 statuses 6 = other_word past5 (omega arith) c.if-same_bytes-6.false c.same_bytes-6.ensures in
    no_word past6
