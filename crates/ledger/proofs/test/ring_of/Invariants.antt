-- The numbers passed are written.
use Rattle.ledger.specs.Steps.{ring_size, low_bits}
use Rattle.ledger.proofs.Numbers.{Written}
use Rattle.ledger.proofs.test.ring_of.Given as goal

abbrev pub invariant-loop-j : goal.invariant-loop-j
invariant-loop-j l = Written 0 (low_bits l.numbers) ring_size l.ring l.j
