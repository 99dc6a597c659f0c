-- The path of the number is found or refused, and its mark decides; where it is held, its record is marked.
use Rattle.std.proofs.Common.{set, ap, ◌∙◌, sym, arith}
use Rattle.std.proofs.lemmas.Result.{err_from_is_err_and}
use Rattle.quantity.specs.declared.refusal.Refusal.TheVariants.{PathNumberWrong}
use Rattle.ledger.specs.declared.test.Standing.{Standing}
use Rattle.ledger.specs.Records.{record_at}
use Rattle.ledger.specs.Confirming.{confirmed_record}
use Rattle.ledger.proofs.Deciding.{standing-err, standing-ok, standing-sized, standing-inside}
use Rattle.ledger.proofs.Lent.{confirm-refused, confirm-already, confirm-held}
use Rattle.ledger.proofs.confirming.confirm.Goals as goal

pub returns-in_err-standing : goal.returns-in_err-standing
returns-in_err-standing c =
    let args = c.args in
    let p = err_from_is_err_and c.from_residual.result c.from_residual.ensures.1 in
    rw (p.1, p.2) (confirm-refused args.ledger args.records.now args.number (standing-err PathNumberWrong args.ledger args.records.now args.number c.find.ensures c.in_err-standing.was))

pub returns-then-standing-eq-CONFIRMED : goal.returns-then-standing-eq-CONFIRMED
returns-then-standing-eq-CONFIRMED c =
    let args = c.args in
    let (none, same) = standing-ok PathNumberWrong args.ledger args.records.now args.number c.find.ensures c.in_ok-standing.was in
    confirm-already args.ledger args.records.now args.number none (sym (ap (λ (s : Standing). s.found.mark) same) ∙ c.if-standing-eq-CONFIRMED.true)

pub offset_bounds-records-standing : goal.offset_bounds-records-standing
offset_bounds-records-standing c =
    let args = c.args in
    let (none, same) = standing-ok PathNumberWrong args.ledger args.records.now args.number c.find.ensures c.in_ok-standing.was in
    record { fits = omega (arith, ap (λ (s : Standing). s.at) same, standing-inside args.ledger args.records.now args.number none) }

pub bounds-records-standing : goal.bounds-records-standing
bounds-records-standing c =
    let args = c.args in
    let (none, same) = standing-ok PathNumberWrong args.ledger args.records.now args.number c.find.ensures c.in_ok-standing.was in
    omega (arith, ap (λ (s : Standing). s.at) same, standing-sized args.ledger args.records.now args.number none, standing-inside args.ledger args.records.now args.number none)

pub returns : goal.returns
unfolding confirmed_record
returns c =
    let args = c.args in
    let (none, same) = standing-ok PathNumberWrong args.ledger args.records.now args.number c.find.ensures c.in_ok-standing.was in
    let (answer, left) = confirm-held args.ledger args.records.now args.number none (λ one. c.if-standing-eq-CONFIRMED.false (ap (λ (s : Standing). s.found.mark) same ∙ one)) in
    (answer, ap (λ (s : Standing). set args.records.now s.at (confirmed_record (record_at args.records.now s.at))) same ∙ left)
