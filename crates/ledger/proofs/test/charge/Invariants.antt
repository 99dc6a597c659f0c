-- The sums of the links passed have the record's share.
use Rattle.ledger.specs.Steps.{wrapped}
use Rattle.ledger.proofs.Reserving.{Charging}
use Rattle.ledger.proofs.test.charge.Given as goal

abbrev pub invariant-loop-link : goal.invariant-loop-link
invariant-loop-link l = Charging wrapped l.initial.sum-items l.entry l.sum-items l.link
