use Rattle.std.proofs.Common.{◌≡◌, arith}
use Rattle.ledger.specs.Ledgers.{record_count}
use Rattle.ledger.proofs.Differing.{ring-written}
use Rattle.ledger.proofs.test.ring_of.Goals as goal

pub returns : goal.returns
returns c =
    let done : c.loop-j.j ≡ record_count = omega arith in
    let (copied, same, rest) = c.copy_within.ensures.by_index in
    ring-written c.args.numbers.now (rw done at c.loop-j.invariant) c.copy_within.ensures.len same copied
