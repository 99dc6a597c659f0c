-- The links passed are tested, and what each leaves is written.
use Rattle.ledger.proofs.Sparing.{Spared}
use Rattle.ledger.proofs.spare.spare_rates.Given as goal

abbrev pub invariant-loop-link : goal.invariant-loop-link
invariant-loop-link l = Spared l.ledger l.fit l.rates l.link
