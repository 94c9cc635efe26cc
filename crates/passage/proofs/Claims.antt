-- The claims on the ranges, proved. Assumes nothing.
use Rattle.passage.specs.Claims.{PaddedExactly, All}
use Rattle.passage.proofs.PaddedLaws.{padded-from, padded-text}
use Rattle.passage.proofs.RangeLaws.{key-facts, facts-key, update-facts, facts-update, plan-facts, facts-plan, row-facts, facts-row, update-key, plan-key, row-key}
use Rattle.passage.proofs.PlanLaws.{plan-row}

padded-exactly : PaddedExactly
padded-exactly l = (padded-from l, λ p. rw p.2 (padded-text p.0 p.1))

pub claims : All
claims = (
  padded-exactly,
  λ k. (key-facts k, facts-key k),
  λ b. (update-facts b, facts-update b),
  λ b. (plan-facts b, facts-plan b),
  λ r. (row-facts r, facts-row r),
  λ b. (update-key b, plan-key b, row-key b),
  plan-row,
)
