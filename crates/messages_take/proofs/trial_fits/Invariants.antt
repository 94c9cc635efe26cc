use Rattle.messages_take.proofs.TrialLaws.{Trying}
use Rattle.messages_take.proofs.trial_fits.Given as goal

abbrev pub invariant-loop-tried : goal.invariant-loop-tried
invariant-loop-tried l = Trying l.bodies l.initial.trial l.count l.updates l.most l.tried l.held l.trial
