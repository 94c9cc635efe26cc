use Rattle.std.proofs.Common.{◌≡◌, ◌∙◌, ◌/◌, ◌%◌}
use Rattle.lists.specs.Logic.{within}
use Rattle.lists.proofs.RangeLaws.{range-within}
use Rattle.clock.specs.Date.{is_date, days_in}
use Rattle.clock.proofs.is_date.Goals as goal

pub returns : goal.returns
unfolding is_date
returns c =
    let n = c.args.number in
    let y : c.contains.result ≡ within 2000 2099 (n / 10000) = c.contains.ensures.value ∙ range-within c.new.result 2000 2099 _ c.new.ensures.start c.new.ensures.end c.new.ensures.exhausted in
    let m : c.contains-2.result ≡ within 1 12 (n / 100 % 100) = c.contains-2.ensures.value ∙ range-within c.new-2.result 1 12 _ c.new-2.ensures.start c.new-2.ensures.end c.new-2.ensures.exhausted in
    let d : c.contains-3.result ≡ within 1 (days_in (n / 10000) (n / 100 % 100)) (n % 100) =
    c.contains-3.ensures.value ∙ range-within c.new-3.result 1 _ _ c.new-3.ensures.start (c.new-3.ensures.end ∙ c.days_in.ensures) c.new-3.ensures.exhausted in
    rw (y, m, d)
