-- Each operator has its case of the definitions; a compactor's is that of an expander that has no pair, and only an expander's delay asks for one.
use native.Mathlib.Nat.{add-zero}
use native.Mathlib.Omega.{arith}
use Rattle.operator.specs.Operators.{number_in_range}
use Rattle.figures.specs.Progress.{behind}
use Rattle.figures.specs.Figures.{held_figure, capacity, own_delay, is_framed, framed_after_filter, quota_behind, figure_too_large, rate_too_low}
use Rattle.figures.specs.Carried.{planned_of}
use Rattle.figures.proofs.Bounds.{inside_of}
use Rattle.figures.proofs.each.Place.plan.Goals as goal

pub limiter-requires : goal.limiter-requires
limiter-requires c = (c.requires.0, inside_of c.in-Limiter.is c.requires.1)

pub frame-requires : goal.frame-requires
unfolding number_in_range
frame-requires c = (c.requires.0, inside_of c.in-Compactor.is c.requires.1, tt, c.requires.0.arriving.1)

pub frame-requires-in-Expander : goal.frame-requires-in-Expander
frame-requires-in-Expander c = (c.requires.0, inside_of c.in-Expander.is c.requires.1, tt, omega arith)

pub filter-requires : goal.filter-requires
filter-requires c = (c.requires.0, inside_of c.in-Filter.is c.requires.1)

pub delayer-requires : goal.delayer-requires
delayer-requires c = (c.requires.0, inside_of c.in-Delayer.is c.requires.1)

pub returns-in-Limiter : goal.returns-in-Limiter
unfolding planned_of own_delay
returns-in-Limiter c = rw c.in-Limiter.is (record { answered = c.limiter.ensures.answered; carried = c.limiter.ensures.carried })

pub returns-in-Compactor : goal.returns-in-Compactor
unfolding planned_of framed_after_filter is_framed figure_too_large quota_behind held_figure rate_too_low own_delay capacity behind
returns-in-Compactor c =
    rw c.in-Compactor.is
    (record { answered = rw (← c.requires.0.arriving.0) c.frame.ensures.0; carried = c.frame.ensures.1 })

pub returns-in-Expander : goal.returns-in-Expander
unfolding planned_of capacity behind
returns-in-Expander c =
    rw (c.in-Expander.is, ← c.paired.ensures)
    (record { answered = rw add-zero at c.frame-in-Expander.ensures.0; carried = c.frame-in-Expander.ensures.1 })

pub returns-in-Filter : goal.returns-in-Filter
unfolding planned_of own_delay
returns-in-Filter c = rw c.in-Filter.is (record { answered = c.filter.ensures.answered; carried = c.filter.ensures.carried })

pub returns-in-Delayer : goal.returns-in-Delayer
unfolding planned_of own_delay
returns-in-Delayer c = rw c.in-Delayer.is (record { answered = c.delayer.ensures.answered; carried = c.delayer.ensures.carried })
