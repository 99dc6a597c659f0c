use Rattle.ledger.specs.Steps.{discharged}
use Rattle.ledger.proofs.Reserving.{charging-all}
use Rattle.ledger.proofs.release.discharge.Goals as goal
use Rattle.ledger.proofs.release.discharge.Invariants.{lessened}

pub returns : goal.returns
unfolding discharged
returns c = charging-all lessened c.args.totals c.args.gone c.loop-link.invariant c.loop-link-test.false
