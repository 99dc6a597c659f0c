-- By the block where the kind uses it, by the rows in one pass where there are several and no word is large, else by the scan.
use Rattle.std.proofs.Common.{ℕ, ◌%◌, sym, ap, ◌∙◌, arith}
use Rattle.meter.specs.Counting.{RowsTested}
use Rattle.meter.proofs.VisitedRows.{count-few, size, rows-rise, counted-rows}
use Rattle.meter.proofs.parts.counted_before.Goals as goal
use Rattle.meter.proofs.parts.counted_before.Goals.{Then-rows_tested}

tested : (c : Then-rows_tested) → RowsTested c.args.state c.args.words.now
tested c = c.rows_tested.ensures c.if-rows_tested.true

pub counted_in_block-requires : goal.counted_in_block-requires
counted_in_block-requires c = sym c.uses_block.ensures ∙ c.if-uses_block.true

pub nonzero_rem-at : goal.nonzero_rem-at
nonzero_rem-at c = omega (arith, c.ring_length-ring.ensures, (rows-rise _ _ (tested (goal.at.nonzero_rem-at c).Then-rows_tested) (omega arith)).inside)

pub slice_bounds-rows-end : goal.slice_bounds-rows-end
slice_bounds-rows-end c = omega (arith, count-few _ _ (tested (goal.at.slice_bounds-rows-end c).Then-rows_tested) (omega arith))

pub slice_bounds-rows_below-end : goal.slice_bounds-rows_below-end
slice_bounds-rows_below-end c = sym (size _ _ (tested (goal.at.slice_bounds-rows_below-end c).Then-rows_tested) (omega arith))

pub rows_below-below-requires : goal.rows_below-below-requires
rows_below-below-requires c = rw c.ring_length-ring.ensures (rows-rise _ _ (tested (goal.at.rows_below-below-requires c).Then-rows_tested) (omega arith))

pub bounds-words-at : goal.bounds-words-at
bounds-words-at c =
    let known = rows-rise _ _ (tested (goal.at.bounds-words-at c).Then-rows_tested) (omega arith) in
    omega (arith, ap (λ (n : ℕ). c.args.state.slot.0 % n) c.ring_length-ring.ensures, known.inside, known.ring_le, known.sized)

pub returns-then-below-words-le-MOST_EXACT : goal.returns-then-below-words-le-MOST_EXACT
returns-then-below-words-le-MOST_EXACT c =
    let ring = c.ring_length-ring.ensures in
    counted-rows _ _ (tested (goal.at.returns-then-below-words-le-MOST_EXACT c).Then-rows_tested) (omega arith) (rw ring at c.rows_below-below.ensures) (rw ring at c.if-below-words-le-MOST_EXACT.true)
    (ap (λ (n : ℕ). c.args.state.slot.0 % n) ring)

pub counted_by_scan-requires : goal.counted_by_scan-requires
counted_by_scan-requires c = sym c.uses_block.ensures ∙ c.if-uses_block.false
