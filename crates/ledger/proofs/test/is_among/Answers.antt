use Rattle.std.proofs.Common.{get_or}
use Rattle.ledger.proofs.Differing.{met-first, met_next}
use Rattle.ledger.proofs.test.is_among.Goals as goal

pub loop-other-init : goal.loop-other-init
loop-other-init c = met-first _ _

pub loop-other-preserved : goal.loop-other-preserved
loop-other-preserved c = met_next (λ k. get_or c.args.numbers.now k 0) c.args.number c.loop-other.other-index c.loop-other.invariant
