use Rattle.std.proofs.Common.{refl, add-one}
use Rattle.run.specs.Steps.{totals_written}
use Rattle.run.proofs.stages.write_totals.Goals as goal

pub loop-k-init : goal.loop-k-init
unfolding totals_written
loop-k-init c = refl

pub loop-k-preserved : goal.loop-k-preserved
unfolding totals_written
loop-k-preserved c = rw add-one (rw c.loop-k.invariant at c.write_total.ensures)
