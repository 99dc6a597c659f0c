-- Each way out by the test of the number, by that of the ledger and by the sheet's figures.
use Rattle.std.proofs.Common.{◌≡◌, ℕ, is_some, Option, Ok, refl, sym, ap, ◌∙◌}
use Rattle.std.proofs.lemmas.Result.{err_from_is_err_and}
use Rattle.quantity.specs.Ranges.{path_number_range}
use Rattle.quantity.proofs.Laws.{checked-told}
use Rattle.sheet.specs.Sheets.{path_in}
use Rattle.figures.specs.Answers.{figures_of}
use Rattle.ledger.specs.declared.test.Standing.{Standing}
use Rattle.ledger.specs.Steps.{appending_of}
use Rattle.ledger.proofs.Deciding.{number-told}
use Rattle.ledger.proofs.DecidingHold.{accepted-inside, accepted-path, accepted-delay, accepted-decidable, holding-outside, holding-unusable, holding-refused, holding-standing}
use Rattle.ledger.proofs.Testing.{tested-err, tested-ok, found-some}
use Rattle.ledger.proofs.holding.decide.Goals as goal

pub returns-in_default : goal.returns-in_default
returns-in_default c = holding-outside c.args.ledger c.args.records.now c.args.number c.args.sheet.now ((checked-told path_number_range _ refl c.checked.ensures).outside c.in_default.is)

pub returns-in_err-standing : goal.returns-in_err-standing
returns-in_err-standing c =
    let args = c.args in
    let p = err_from_is_err_and c.from_residual.result c.from_residual.ensures.1 in
    let (inside, same) = number-told c.args.number c.checked.ensures c.in-Some.is in
    let (unusable, why) = tested-err args.ledger args.records.now c.in-Some.number.0 c.test.ensures c.in_err-standing.was in
    rw (p.1, p.2, why) (holding-unusable args.ledger args.records.now c.in-Some.number.0 args.sheet.now inside unusable ∙ ap (λ (number : ℕ). appending_of args.ledger args.records.now number args.sheet.now) same)

pub returns-in_err-planned : goal.returns-in_err-planned
returns-in_err-planned c =
    let args = c.args in
    let p = err_from_is_err_and c.from_residual-in_err-planned.result c.from_residual-in_err-planned.ensures.1 in
    let (inside, same) = number-told c.args.number c.checked.ensures c.in-Some.is in
    let (usable, is) = tested-ok args.ledger args.records.now c.in-Some.number.0 c.test.ensures c.in_ok-standing.was in
    rw (p.1, p.2)
    (holding-refused args.ledger args.records.now c.in-Some.number.0 args.sheet.now inside usable (sym c.figures.ensures ∙ c.in_err-planned.was)
    ∙ ap (λ (number : ℕ). appending_of args.ledger args.records.now number args.sheet.now) same)

pub decide_standing-requires : goal.decide_standing-requires
decide_standing-requires c =
    let (usable, is) = tested-ok c.args.ledger c.args.records.now c.in-Some.number.0 c.test.ensures c.in_ok-standing.was in
    accepted-decidable c.args.sheet.now (sym c.figures.ensures ∙ c.in_ok-planned.was) c.args.ledger c.args.records.now usable

pub returns : goal.returns
returns c =
    let args = c.args in
    let (inside, same) = number-told c.args.number c.checked.ensures c.in-Some.is in
    let (usable, is) = tested-ok args.ledger args.records.now c.in-Some.number.0 c.test.ensures c.in_ok-standing.was in
    let sheet = args.sheet.now in
    let accepted : figures_of sheet ≡ Ok c.in_ok-planned.planned = sym c.figures.ensures ∙ c.in_ok-planned.was in
    let known = c.is_some.ensures ∙ ap (λ (o : Option Standing). is_some o) is ∙ found-some args.ledger args.records.now c.in-Some.number.0 in
    c.decide_standing.ensures args.records.now (path_in sheet) usable known (accepted-inside sheet accepted) (accepted-path sheet accepted) (accepted-delay sheet accepted)
    ∙ holding-standing args.ledger args.records.now c.in-Some.number.0 sheet inside usable accepted
    ∙ ap (λ (number : ℕ). appending_of args.ledger args.records.now number sheet) same
