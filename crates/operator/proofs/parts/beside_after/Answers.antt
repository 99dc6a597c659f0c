-- A filter's h, and that no other operator has one.
use Rattle.std.proofs.Common.{arith}
use Rattle.std.proofs.lemmas.Grind.{common_steps}
use Rattle.operator.specs.Held.{keeps}
use Rattle.operator.specs.Limiter.{limiter_after}
use Rattle.operator.specs.Compactor.{compactor_after}
use Rattle.operator.specs.Expander.{expander_after}
use Rattle.operator.specs.Filter.{beside_after, filter_after}
use Rattle.operator.specs.Delayer.{delayer_after}
use Rattle.operator.specs.Operators.{held_after}
use Rattle.operator.proofs.parts.beside_after.Goals as goal

pub returns-in-Filter : goal.returns-in-Filter
unfolding held_after filter_after beside_after
returns-in-Filter c x same s = rw (c.in-Filter.is, same) c.limited.ensures

pub returns-in_default : goal.returns-in_default
unfolding held_after limiter_after compactor_after expander_after delayer_after keeps
returns-in_default c x same s = grind (arith, common_steps)
