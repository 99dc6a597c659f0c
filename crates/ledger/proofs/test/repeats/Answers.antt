use Rattle.std.proofs.Common.{arith}
use Rattle.ledger.proofs.Differing.{behind-met, repeats-first, repeats-next}
use Rattle.ledger.proofs.test.repeats.Goals as goal

pub loop-j-init : goal.loop-j-init
loop-j-init c = repeats-first _

pub loop-j-preserved : goal.loop-j-preserved
loop-j-preserved c =
    let ring = c.args.ring.now in
    repeats-next ring c.loop-j.j c.loop-j.invariant (behind-met ring (omega arith) c.loop-j.j c.loop-j-test.true c.is_among-behind.ensures)
