-- The path of the number is found or refused; its record's share is taken off each link, and the gap is closed.
use Rattle.std.proofs.Common.{ap, ◌∙◌, arith}
use Rattle.std.proofs.lemmas.Result.{err_from_is_err_and}
use Rattle.quantity.specs.declared.refusal.Refusal.TheVariants.{PathNumberWrong}
use Rattle.ledger.specs.declared.test.Standing.{Standing}
use Rattle.ledger.proofs.Deciding.{standing-err, standing-ok, standing-sized, standing-below, standing-inside, standing-share}
use Rattle.ledger.proofs.Lent.{release-refused, release-stands}
use Rattle.ledger.proofs.release.release.Goals as goal

pub returns-in_err-standing : goal.returns-in_err-standing
returns-in_err-standing c =
    let args = c.args in
    let p = err_from_is_err_and c.from_residual.result c.from_residual.ensures.1 in
    rw (p.1, p.2) (release-refused args.ledger args.records.now args.number (standing-err PathNumberWrong args.ledger args.records.now args.number c.find.ensures c.in_err-standing.was))

pub discharge-left-requires : goal.discharge-left-requires
discharge-left-requires c link less =
    let args = c.args in
    let (none, same) = standing-ok PathNumberWrong args.ledger args.records.now args.number c.find.ensures c.in_ok-standing.was in
    rw same (standing-share args.ledger args.records.now args.number none link less)

pub close_up-requires : goal.close_up-requires
close_up-requires c =
    let args = c.args in
    let (none, same) = standing-ok PathNumberWrong args.ledger args.records.now args.number c.find.ensures c.in_ok-standing.was in
    (standing-sized args.ledger args.records.now args.number none, omega (arith, ap (λ (s : Standing). s.at) same, standing-inside args.ledger args.records.now args.number none))

pub overflow_sub-result : goal.overflow_sub-result
overflow_sub-result c =
    let args = c.args in
    let (none, same) = standing-ok PathNumberWrong args.ledger args.records.now args.number c.find.ensures c.in_ok-standing.was in
    omega (arith, standing-below args.ledger args.records.now args.number none)

pub returns : goal.returns
returns c =
    let args = c.args in
    let (none, same) = standing-ok PathNumberWrong args.ledger args.records.now args.number c.find.ensures c.in_ok-standing.was in
    let (answer, left) = release-stands args.ledger args.records.now args.number none (ap (λ (s : Standing). s.at) same) (ap (λ (s : Standing). s.found) same) c.discharge-left.ensures in
    (answer, c.close_up.ensures ∙ left)
