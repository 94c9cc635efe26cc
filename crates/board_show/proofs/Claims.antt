-- The claims of `specs/Claims.antt` hold. Assumes nothing.
use mathlib.Core.Path.{◌≡◌}
use mathlib.Core.Bool.{true}
use borrow.Author.Tests.{lt-ltb, le-leb}
use Rattle.texts.proofs.KeptLaws.{test-facts, facts-test}
use Rattle.board_show.specs.Ask.{Question, asks_in_range}
use Rattle.board_show.specs.Claims.{AskFacts, All}
use Rattle.board_show.proofs.AskLaws.{asks-texts, asks-date, asks-second, asks-horizon}

module _ (q : Question) where
  asks-facts : asks_in_range q ≡ true → AskFacts q
  asks-facts e =
      let t = asks-texts q e in
      record {
        owner = test-facts 10 q.owner t.0;
        stop = test-facts 10 q.stop t.1;
        date = asks-date q e;
        second = asks-second q e;
        horizon = asks-horizon q e;
      }

  facts-asks : AskFacts q → asks_in_range q ≡ true
  unfolding asks_in_range
  facts-asks f =
      rw (
        facts-test 10 q.owner f.owner,
        facts-test 10 q.stop f.stop,
        f.date,
        lt-ltb q.second 86400 f.second,
        le-leb q.horizon 86400 f.horizon,
      )

pub claims : All
claims q = (asks-facts q, facts-asks q)
