-- The arguments, then the run.
use Rattle.run.proofs.MovingLaws.{begun-fits}
use Rattle.run.proofs.SlotLaws.{begun-unfit, begun-fit}
use Rattle.run.proofs.slot.begin.Goals as goal

pub returns-then-arguments_fit : goal.returns-then-arguments_fit
returns-then-arguments_fit c = let same = begun-fit _ _ _ c.arguments_fit.ensures c.if-arguments_fit.true c.begin_run.ensures in record { begun = same; fits = begun-fits _ _ _ _ same }

pub returns-else-arguments_fit : goal.returns-else-arguments_fit
returns-else-arguments_fit c = record { begun = begun-unfit _ _ _ c.arguments_fit.ensures c.if-arguments_fit.false; fits = tt }
