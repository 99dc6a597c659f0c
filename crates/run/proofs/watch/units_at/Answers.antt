-- What the operator holds, and nothing behind the last.
use Rattle.run.proofs.WatchLaws.{units-here, units-behind}
use Rattle.run.proofs.watch.units_at.Goals as goal

pub returns-then-k-run : goal.returns-then-k-run
returns-then-k-run c words = units-here _ words _ c.if-k-run.true c.operator_of.ensures c.holds.ensures

pub returns-else-k-run : goal.returns-else-k-run
returns-else-k-run c words = units-behind _ words _ c.if-k-run.false
