-- Each round reads one record. Where there are not 64, none is read; behind the loop all are.
use Rattle.std.proofs.Common.{◌≡◌, ◌<◌, refl, sym, ap, ◌∙◌, arith}
use Rattle.quantity.specs.Sums.{every}
use Rattle.ledger.specs.Records.{record_at}
use Rattle.ledger.specs.Ledgers.{record_count, record_fits}
use Rattle.ledger.proofs.Reading.{reading-first, reading-next, read-fields}
use Rattle.ledger.proofs.Testing.{tested-unsized}
use Rattle.ledger.proofs.test.test.Goals as goal

pub returns-then-records-ne-RECORDS : goal.returns-then-records-ne-RECORDS
returns-then-records-ne-RECORDS c = tested-unsized c.args.ledger c.args.records.now c.args.number c.if-records-ne-RECORDS.true

pub loop-j-init : goal.loop-j-init
loop-j-init c = (refl, reading-first c.args.ledger.count c.args.records.now)

pub loop-j-preserved : goal.loop-j-preserved
loop-j-preserved c =
    let (placed, reading) = c.loop-j.invariant in
    let records = c.args.records.now in
    let less : c.loop-j.j < record_count = omega arith in
    let below : c.loop-j.place < record_count = omega (arith, placed, less) in
    let fits = c.fits-fit.ensures records (ap (record_at records) (sym placed)) below in
    (omega (arith, placed), reading-next c.args.ledger.count records reading less c.fits-fit.result (fits ∙ ap (record_fits c.args.ledger.count records) placed))

pub returns : goal.returns
returns c =
    let (placed, reading) = c.loop-j.invariant in
    let records = c.args.records.now in
    let count = c.args.ledger.count in
    let all : c.loop-j.j ≡ record_count = omega (arith, reading.numbers_are.few) in
    c.judge.ensures records c.if-records-ne-RECORDS.false (reading.fit_is ∙ ap (every (record_fits count records)) all) (read-fields count records reading (omega (arith, all)))
