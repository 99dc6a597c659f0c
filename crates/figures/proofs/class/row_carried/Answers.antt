-- The rate over the interval is the product of the definition.
use native.Mathlib.Nat.{mul_comm}
use Rattle.quantity.proofs.Quantities.{units-over}
use Rattle.flow.specs.Rows.{row_carried}
use Rattle.figures.proofs.class.row_carried.Goals as goal

pub returns : goal.returns
unfolding row_carried
returns c = rw (c.over.ensures, units-over, c.from.ensures, mul_comm c.args.rate.0 _)
