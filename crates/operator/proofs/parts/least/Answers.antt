-- Each variant in turn; an interval and a delay are 1 or more, and a delay is at most the 64 words.
use Rattle.std.proofs.Common.{◌-◌, min, sym, ap, ◌∙◌, arith}
use Rattle.quantity.specs.Ranges.{interval_range, delay_range}
use Rattle.quantity.proofs.Laws.{least-le, le-largest}
use Rattle.operator.specs.Limiter.{limiter_least}
use Rattle.operator.specs.Compactor.{compactor_least}
use Rattle.operator.specs.Expander.{expander_least}
use Rattle.operator.specs.Filter.{beside_after, filter_least}
use Rattle.operator.specs.Delayer.{delayer_least}
use Rattle.operator.specs.Operators.{least_output, number_in_range}
use Rattle.operator.proofs.SingleLaws.{of-age-past}
use Rattle.operator.proofs.parts.least.Goals as goal

pub compactor_sends-requires : goal.compactor_sends-requires
unfolding number_in_range
compactor_sends-requires c = omega (arith, least-le interval_range _ (sym (ap number_in_range c.in-Compactor.is) ∙ c.requires.operates.0))

pub expander_least-requires : goal.expander_least-requires
unfolding number_in_range
expander_least-requires c =
    (omega (arith, least-le interval_range _ (sym (ap number_in_range c.in-Expander.is) ∙ c.requires.operates.0)), c.requires.operates.2)

pub overflow_sub-oldest : goal.overflow_sub-oldest
unfolding number_in_range
overflow_sub-oldest c = least-le delay_range _ (sym (ap number_in_range c.in-Delayer.is) ∙ c.requires.operates.0)

pub bounds-words-oldest : goal.bounds-words-oldest
unfolding number_in_range
bounds-words-oldest c =
    let inside = sym (ap number_in_range c.in-Delayer.is) ∙ c.requires.operates.0 in
    omega (arith, least-le delay_range _ inside, le-largest delay_range _ inside)

pub returns-in-Limiter : goal.returns-in-Limiter
unfolding least_output limiter_least compactor_least expander_least filter_least beside_after delayer_least
returns-in-Limiter c = record { value = rw c.in-Limiter.is (c.min.ensures ∙ ap (min _) c.from.ensures); upper_bound = omega (arith, c.min.ensures) }

pub returns-in-Compactor : goal.returns-in-Compactor
unfolding least_output limiter_least compactor_least expander_least filter_least beside_after delayer_least
returns-in-Compactor c = record { value = rw c.in-Compactor.is c.compactor_sends.ensures.0; upper_bound = omega (arith, c.compactor_sends.ensures.1) }

pub returns-in-Expander : goal.returns-in-Expander
unfolding least_output limiter_least compactor_least expander_least filter_least beside_after delayer_least
returns-in-Expander c = record { value = rw c.in-Expander.is c.expander_least.ensures.0; upper_bound = omega (arith, c.expander_least.ensures.1) }

pub returns-in-Filter : goal.returns-in-Filter
unfolding least_output limiter_least compactor_least expander_least filter_least beside_after delayer_least
returns-in-Filter c = record { value = rw c.in-Filter.is (omega (arith, c.saturating_sub.ensures, c.limited.ensures)); upper_bound = omega (arith, c.saturating_sub.ensures) }

pub returns-in-Delayer : goal.returns-in-Delayer
unfolding least_output limiter_least compactor_least expander_least filter_least beside_after delayer_least number_in_range
returns-in-Delayer c =
    let inside = sym (ap number_in_range c.in-Delayer.is) ∙ c.requires.operates.0 in record { value = rw c.in-Delayer.is (c.from-in-Delayer.ensures ∙ sym (of-age-past _ _ _ (least-le delay_range _ inside))); upper_bound = omega (arith, c.from-in-Delayer.ensures, c.type_inv.words (c.in-Delayer.delay.0 - 1)) }
