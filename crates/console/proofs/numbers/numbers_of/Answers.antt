-- The numbers that were read are within the two.
use Rattle.std.proofs.Common.{arith, length-take}
use Rattle.text.proofs.Answers.{decimals-within}
use Rattle.console.proofs.numbers.numbers_of.Goals as goal

pub slice_bounds-numbers-end : goal.slice_bounds-numbers-end
slice_bounds-numbers-end g c = omega (arith, decimals-within _ _ _ _ c.in_ok-count.ensures.0)

pub slice_bounds-first_chunk-end : goal.slice_bounds-first_chunk-end
slice_bounds-first_chunk-end g c = omega (arith, length-take c.in_ok-count.count c.decimals_from.new.numbers, decimals-within _ _ _ _ c.in_ok-count.ensures.0)
