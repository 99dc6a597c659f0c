use Rattle.std.proofs.Common.{eqb}
use Rattle.ledger.specs.Ledgers.{record_clear}
use Rattle.ledger.proofs.Fitting.{four-joined}
use Rattle.ledger.proofs.test.clear.Goals as goal

pub returns : goal.returns
unfolding record_clear
returns c = let r = c.args.entry in four-joined (eqb r.number.0 0) (eqb r.rate.0 0) (eqb r.links 0) (eqb r.mark 0)
