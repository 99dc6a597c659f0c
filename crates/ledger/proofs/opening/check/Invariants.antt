-- The invariant: the capacities of the links passed are in their range, and the ledger has them.
use Rattle.ledger.proofs.Deciding.{Passed}
use Rattle.ledger.proofs.opening.check.Given as goal

abbrev pub invariant-loop-link : goal.invariant-loop-link
invariant-loop-link l = Passed l.capacities l.ledger l.link
