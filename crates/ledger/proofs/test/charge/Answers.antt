use Rattle.ledger.specs.Steps.{wrapped, charged}
use Rattle.ledger.proofs.Reserving.{charging-all}
use Rattle.ledger.proofs.test.charge.Goals as goal

pub returns : goal.returns
unfolding charged
returns c = charging-all wrapped c.args.rates c.args.entry c.loop-link.invariant c.loop-link-test.false
