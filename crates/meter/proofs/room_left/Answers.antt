-- Each way out by what the count answered, and whether any input is below it.
use Rattle.std.proofs.lemmas.Result.{err_from_is_err_and}
use Rattle.meter.proofs.MeterAnswers.{room-refused, room-none, room-some}
use Rattle.meter.proofs.room_left.Goals as goal

pub returns-in_err-awaited : goal.returns-in_err-awaited
returns-in_err-awaited c =
    let p = err_from_is_err_and c.from_residual.result c.from_residual.ensures.1 in
    rw (p.1, p.2) (room-refused _ _ _ c.in_err-awaited.ensures)

pub returns-then-end-eq0 : goal.returns-then-end-eq0
returns-then-end-eq0 c = room-none _ _ c.in_ok-awaited.ensures c.if-end-eq0.true

pub returns : goal.returns
returns c = room-some _ _ c.in_ok-awaited.ensures c.if-end-eq0.false
