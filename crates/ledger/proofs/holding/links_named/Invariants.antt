-- The invariant: the bits of the links that the operators passed are on.
use Rattle.std.proofs.Common.{◌≡◌}
use Rattle.ledger.proofs.Naming.{bits_before}
use Rattle.ledger.proofs.holding.links_named.Given as goal

abbrev pub invariant-loop-linked : goal.invariant-loop-linked
invariant-loop-linked l = l.links ≡ bits_before l.fn.path.operators l.linked-index
