-- The declared class, before any filter or delayer.
use mathlib.Core.Path.{refl}
use Rattle.flow.specs.Declarations.{class_of}
use Rattle.figures.proofs.carried.start.Goals as goal

pub returns : goal.returns
unfolding class_of
returns c = rw (c.framed.ensures, c.from.ensures) (refl, refl, refl)
