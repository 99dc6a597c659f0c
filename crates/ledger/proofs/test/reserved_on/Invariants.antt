-- The sum of the shares passed, wrapped.
use Rattle.std.proofs.Common.{◌≡◌, ◌%◌, ◌^◌, length}
use Rattle.ledger.specs.Steps.{sum_on}
use Rattle.ledger.proofs.test.reserved_on.Given as goal

abbrev pub invariant-loop-rate : goal.invariant-loop-rate
invariant-loop-rate l = l.sum ≡ sum_on l.rates l.links (length l.yielded) l.link % 2 ^ 32
