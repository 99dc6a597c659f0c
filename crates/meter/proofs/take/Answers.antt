-- Each way out is what the parts answered in turn.
use Rattle.std.proofs.Common.{arith}
use Rattle.std.proofs.lemmas.Result.{err_from_is_err_and}
use Rattle.meter.proofs.MeterAnswers.{take-above, take-refused, take-breaks, take-noted, slot-left}
use Rattle.meter.proofs.take.Goals as goal

pub returns-then-input-gt-LARGEST : goal.returns-then-input-gt-LARGEST
returns-then-input-gt-LARGEST c = take-above _ _ _ c.if-input-gt-LARGEST.true

pub returns-in_err-awaited : goal.returns-in_err-awaited
returns-in_err-awaited c =
    let p = err_from_is_err_and c.from_residual.result c.from_residual.ensures.1 in
    rw (p.1, p.2) (take-refused _ _ _ c.if-input-gt-LARGEST.false _ c.in_err-awaited.ensures)

pub returns-then-awaited-input : goal.returns-then-awaited-input
returns-then-awaited-input c = take-breaks _ _ _ c.if-input-gt-LARGEST.false c.in_ok-awaited.ensures c.if-awaited-input.true

pub overflow_add-result : goal.overflow_add-result
overflow_add-result c =
    let start = c.args in
    omega (arith, slot-left start.state start.words.now start.input.0 c.if-input-gt-LARGEST.false c.in_ok-awaited.ensures)

pub returns : goal.returns
returns c = take-noted _ _ _ c.if-input-gt-LARGEST.false c.in_ok-awaited.ensures c.if-awaited-input.false c.block_behind.ensures c.note_input.ensures
