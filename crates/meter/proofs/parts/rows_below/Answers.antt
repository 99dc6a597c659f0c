use Rattle.std.proofs.Common.{◌≡◌, ◌+◌, ◌-◌, length, min, ap, ◌∙◌, arith}
use Rattle.meter.specs.Counting.{given_row}
use Rattle.meter.proofs.VisitedRows.{visited-none, visited-next, visited-all}
use Rattle.meter.proofs.parts.rows_below.Goals as goal

pub loop-row-init : goal.loop-row-init
loop-row-init c = visited-none _ _ _ _ c.requires c.args.first

pub overflow_sub-end : goal.overflow_sub-end
overflow_sub-end c = c.requires.large c.loop-row.row-index c.loop-row-test.true

pub ring_gather-requires : goal.ring_gather-requires
ring_gather-requires c =
    let i = c.loop-row.row-index in
    let known = c.requires in
    (known.sized, known.ring_le, known.inside, omega (arith, c.loop-row.invariant.next c.loop-row-test.true), omega (arith, known.within i c.loop-row-test.true))

pub loop-row-preserved : goal.loop-row-preserved
loop-row-preserved c =
    let row = given_row c.args.rows.now c.loop-row.row-index in
    visited-next _ _ _ _ c.requires c.args.first c.loop-row.invariant c.loop-row-test.true c.ring_gather.ensures c.with-gathered.ensures
    (c.min-least.ensures ∙ ap (min c.loop-row.least) c.left_below.ensures ∙ ap (λ (n : _). min c.loop-row.least (row.quota + 1 - n)) c.from.ensures)

pub returns : goal.returns
returns c =
    let all : c.loop-row.row-index ≡ length c.args.rows.now = omega arith in
    visited-all _ _ _ _ c.requires c.args.first (rw all at c.loop-row.invariant)
