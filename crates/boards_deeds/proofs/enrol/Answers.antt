-- `enrol` meets its contract. Assumes nothing.
use Rattle.std.proofs.Common.{◌∙◌}
use Rattle.script_text.specs.Rules.{word_at}
use Rattle.boards_deeds.proofs.DeedLaws.{full-held, full-register, pair-held, pair-register}
use Rattle.boards_deeds.proofs.enrol.Goals as goal

pub returns-then-at-gt693 : goal.returns-then-at-gt693
returns-then-at-gt693 c = let a = c.args in record { state = c.bad.ensures ∙ full-held a.held c.if-at-gt693.true; pairs = full-register a.sender (word_at 2 a.line.now) a.held.register a.register.now c.if-at-gt693.true }

pub returns : goal.returns
returns c =
    let a = c.args in
    let left = c.if-at-gt693.false in
    record {
      state = pair-held a.held left;
      pairs = pair-register a.sender (word_at 2 a.line.now) _ a.held.register a.register.now _ _ left c.word.ensures c.append.ensures.bytes c.append-2.ensures.bytes;
    }
