use Rattle.reader.proofs.read_message.Goals as goal

pub returns : goal.returns
returns c = let t = c.read.ensures in record { answer = t.answer; area = t.area; numbers = t.numbers }
