-- Whether the number is among those passed, as 1 or 0.
use Rattle.std.proofs.Common.{◌≡◌, get_or}
use Rattle.ledger.specs.Records.{among}
use Rattle.ledger.proofs.test.is_among.Given as goal

abbrev pub invariant-loop-other : goal.invariant-loop-other
invariant-loop-other l = l.met ≡ among (λ k. get_or l.numbers k 0) l.other-index l.number
