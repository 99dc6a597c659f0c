-- The records passed are read, and the place is how many these are.
use Rattle.std.proofs.Common.{◌≡◌}
use Rattle.ledger.proofs.Reading.{Reading}
use Rattle.ledger.proofs.test.test.Given as goal

abbrev pub invariant-loop-j : goal.invariant-loop-j
invariant-loop-j l = (l.place ≡ l.j) × Reading l.count l.records l.fit l.fields l.j
