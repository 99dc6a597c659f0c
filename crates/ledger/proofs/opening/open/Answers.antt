-- Each way out by the test of the records' number, and by that of the capacities; past both the records are cleared.
use Rattle.std.proofs.Common.{ℕ, replicate, ◌∙◌, ap₂}
use Rattle.std.proofs.lemmas.Result.{err_from_is_err_and}
use Rattle.quantity.specs.declared.refusal.Refusal.TheVariants.{OutOfRange}
use Rattle.ledger.specs.declared.Record.{Record}
use Rattle.ledger.proofs.Answering.{ok_or-err, ok_or-ok}
use Rattle.ledger.proofs.Lent.{open-unsized, open-outside, open-fit}
use Rattle.ledger.proofs.opening.open.Goals as goal

pub returns-then-records-ne-RECORDS : goal.returns-then-records-ne-RECORDS
returns-then-records-ne-RECORDS c = open-unsized c.args.capacities c.args.records.now c.if-records-ne-RECORDS.true

pub returns-in_err-ledger : goal.returns-in_err-ledger
returns-in_err-ledger c =
    let p = err_from_is_err_and c.from_residual.result c.from_residual.ensures.1 in
    let (none, same) = ok_or-err (OutOfRange 0) c.check.result c.ok_or.ensures.value c.in_err-ledger.was in
    rw (p.1, p.2, same) (open-outside c.args.capacities c.args.records.now c.if-records-ne-RECORDS.false c.check.ensures none)

pub returns : goal.returns
returns c =
    let (answer, cleared) = open-fit c.args.capacities c.args.records.now c.if-records-ne-RECORDS.false c.check.ensures (ok_or-ok (OutOfRange 0) c.check.result c.ok_or.ensures.value c.in_ok-ledger.was) in
    (answer, c.fill.ensures.after (λ y same. same) ∙ ap₂ (λ (n : ℕ) (r : Record). replicate n r) c.if-records-ne-RECORDS.false c.no_record.ensures ∙ cleared)
