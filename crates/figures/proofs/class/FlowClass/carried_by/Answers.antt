-- The rate over the interval is the product of the definition; of rows one is carried where there is a first that is.
use native.Mathlib.Nat.{mul_comm}
use mathlib.Core.Path.{◌∙◌}
use Rattle.quantity.proofs.Quantities.{units-over}
use Rattle.flow.specs.Classes.{carries}
use Rattle.flow.specs.Declarations.{several_at}
use Rattle.figures.proofs.ClassLaws.{rows-within, reached-carried, one-carried}
use Rattle.figures.proofs.class.FlowClass.carried_by.Goals as goal

pub reach-requires : goal.reach-requires
reach-requires c = (rows-within c.args.source.now.declared.now c.args.self c.in-Rows.is c.requires).1

pub returns-in-Rows : goal.returns-in-Rows
unfolding carries
returns-in-Rows c =
    let declared = c.args.source.now.declared.now in
    rw c.in-Rows.is (c.is_some.ensures ∙ reached-carried (several_at declared) declared.count c.args.rate.0 c.reach.result c.reach.ensures)

pub returns-in-Smooth : goal.returns-in-Smooth
returns-in-Smooth c = rw (one-carried c.args.source.now.declared.now c.args.self c.args.rate.0 c.in-Smooth.is, c.over.ensures, units-over, mul_comm c.args.rate.0 _)
