-- How many of the numbers passed are 0.
use Rattle.std.proofs.Common.{◌≡◌, ◌≤◌, get_or}
use Rattle.ledger.specs.Steps.{zeros_in}
use Rattle.ledger.proofs.test.zeros.Given as goal

abbrev pub invariant-loop-number : goal.invariant-loop-number
invariant-loop-number l = (l.met ≤ l.number-index) × (l.met ≡ zeros_in (λ k. get_or l.numbers k 0) l.number-index)
