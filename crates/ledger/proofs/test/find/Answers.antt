-- Each way out by the test of the number, by that of the ledger, and by whether the number was found.
use Rattle.std.proofs.Common.{refl, ap, ◌∙◌}
use Rattle.std.proofs.lemmas.Result.{err_from_is_err_and}
use Rattle.quantity.specs.Ranges.{path_number_range}
use Rattle.quantity.proofs.Laws.{checked-told}
use Rattle.ledger.specs.Steps.{standing_of}
use Rattle.ledger.proofs.Deciding.{number-told, standing-outside, standing-unusable, standing-found}
use Rattle.ledger.proofs.Testing.{tested-err, tested-ok}
use Rattle.ledger.proofs.test.find.Goals as goal

pub returns-in_default : goal.returns-in_default
returns-in_default c = standing-outside c.args.unknown c.args.ledger c.args.records.now c.args.number ((checked-told path_number_range _ refl c.checked.ensures).outside c.in_default.is)

pub returns-in_err-test : goal.returns-in_err-test
returns-in_err-test c =
    let p = err_from_is_err_and c.from_residual.result c.from_residual.ensures.1 in
    let (inside, same) = number-told c.args.number c.checked.ensures c.in-Some.is in
    let (unusable, why) = tested-err c.args.ledger c.args.records.now c.in-Some.number.0 c.test.ensures c.in_err-test.was in
    rw (p.1, p.2, why) (standing-unusable c.args.unknown c.args.ledger c.args.records.now c.in-Some.number.0 inside unusable ∙ ap (standing_of c.args.unknown c.args.ledger c.args.records.now) same)

pub returns : goal.returns
returns c =
    let (inside, same) = number-told c.args.number c.checked.ensures c.in-Some.is in
    let (usable, is) = tested-ok c.args.ledger c.args.records.now c.in-Some.number.0 c.test.ensures c.in_ok-test.was in
    rw (c.ok_or.ensures.value, is) (standing-found c.args.unknown c.args.ledger c.args.records.now c.in-Some.number.0 inside usable ∙ ap (standing_of c.args.unknown c.args.ledger c.args.records.now) same)
