-- The links passed hold.
use Rattle.std.proofs.Common.{◌≡◌}
use Rattle.quantity.specs.Sums.{every}
use Rattle.ledger.specs.Steps.{link_holds}
use Rattle.ledger.proofs.test.links_fit.Given as goal

abbrev pub invariant-loop-link : goal.invariant-loop-link
invariant-loop-link l = l.fit ≡ every (link_holds l.ledger l.rates l.links) l.link
