use Prim.Native.Nat.{◌<◌}
use borrow.Author.Rules.{rules}
use Rattle.lists.specs.Part.{part}
use Rattle.passage.specs.Layout.{key_wide}
use Rattle.keys.proofs.StrideLaws.{keyed, length-keyed, key-keyed}
use Rattle.keys.proofs.find_key.Goals as goal

pub returns : goal.returns
returns c =
    let a = c.args in
    let n = length-keyed a.width a.offset a.count a.bytes.now in
    c.search_by.ensures (part a.from key_wide a.key.now) (keyed a.width a.offset a.count a.bytes.now) n c.requires.bytes_value
    (λ i o l q. let below : i < a.count = rw n at l in rw (key-keyed a.width a.offset a.count a.bytes.now i below c.requires.width_in_bounds.1) (search rules))
