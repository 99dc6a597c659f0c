-- What is decided is refused, or appended behind the records that stand.
use Rattle.std.proofs.Common.{arith}
use Rattle.std.proofs.lemmas.Result.{err_from_is_err_and}
use Rattle.ledger.proofs.Lent.{hold-refused, hold-inside, hold-accepted}
use Rattle.ledger.proofs.holding.hold.Goals as goal

pub returns-in_err-appending : goal.returns-in_err-appending
returns-in_err-appending c =
    let args = c.args in
    let p = err_from_is_err_and c.from_residual.result c.from_residual.ensures.1 in
    rw (p.1, p.2) (hold-refused args.ledger args.records.now args.number args.sheet.now c.decide.ensures c.in_err-appending.was)

pub append-requires : goal.append-requires
append-requires c =
    let args = c.args in
    let (sized, room) = hold-inside args.ledger args.records.now args.number args.sheet.now c.decide.ensures c.in_ok-appending.was in
    (omega (arith, sized, room), room)

pub returns : goal.returns
returns c =
    let args = c.args in
    rw c.append.ensures (hold-accepted args.ledger args.records.now args.number args.sheet.now c.decide.ensures c.in_ok-appending.was)
