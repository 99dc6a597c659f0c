-- The tests together.
use Rattle.operator.proofs.PartsLaws.{undecidable-joined}
use Rattle.operator.proofs.parts.undecidable.Goals as goal

pub returns : goal.returns
returns c = undecidable-joined _ _ _ _ _ c.unfit.ensures
