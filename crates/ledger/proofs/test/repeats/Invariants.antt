-- Whether one of the numbers passed is among the 32 behind it, as 1 or 0.
use Rattle.std.proofs.Common.{◌≡◌}
use Rattle.ledger.specs.Steps.{repeats_in}
use Rattle.ledger.proofs.test.repeats.Given as goal

abbrev pub invariant-loop-j : goal.invariant-loop-j
invariant-loop-j l = l.met ≡ repeats_in l.ring l.j
