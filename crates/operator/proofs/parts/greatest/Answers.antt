-- By the kinds; the least output of a limiter and of a compactor is the greatest, by their definitions.
use Rattle.std.proofs.Common.{arith}
use Rattle.std.proofs.lemmas.Grind.{common_steps}
use Rattle.operator.specs.Limiter.{limiter_least, limiter_greatest}
use Rattle.operator.specs.Compactor.{compactor_least, compactor_greatest}
use Rattle.operator.specs.Expander.{expander_greatest}
use Rattle.operator.specs.Filter.{filter_greatest}
use Rattle.operator.specs.Delayer.{delayer_greatest}
use Rattle.operator.specs.Operators.{least_output, greatest_output}
use Rattle.operator.proofs.parts.greatest.Goals as goal

pub returns-in-Limiter : goal.returns-in-Limiter
unfolding least_output greatest_output limiter_least limiter_greatest compactor_least compactor_greatest
returns-in-Limiter c t x input low there = grind (arith, common_steps)

pub returns-in-Expander : goal.returns-in-Expander
unfolding greatest_output expander_greatest filter_greatest delayer_greatest
returns-in-Expander c t x input low there = grind (arith, common_steps)
