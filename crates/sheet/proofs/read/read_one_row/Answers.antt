-- The field is judged by its header, then by its body; one row is in order.
use Rattle.std.proofs.Common.{sym}
use Rattle.std.proofs.lemmas.Result.{err_from_is_err_and}
use Rattle.quantity.specs.declared.refusal.Refusal.TheVariants.{OutOfRange}
use Rattle.sheet.specs.Bodies.{declaration_in, declaration_fits}
use Rattle.sheet.specs.Fields.{declaration_format, body_at}
use Rattle.sheet.proofs.AnswerLaws.{ToldOr, told-or}
use Rattle.sheet.proofs.DeclarationField.{first-of-one, declared-of-one}
use Rattle.sheet.proofs.RowsRead.{one-in-order}
use Rattle.sheet.proofs.FirstRead.{first-header-refuses, first-body-refuses, first_passes}
use Rattle.sheet.proofs.read.read_one_row.Goals as goal
use Rattle.sheet.proofs.read.read_one_row.Goals.{After-ok_or}

pub returns-in_err-body : goal.returns-in_err-body
returns-in_err-body c =
    let sheet = c.args.sheet.now in
    let p = err_from_is_err_and c.from_residual.result c.from_residual.ensures.1 in
    rw (p.1, p.2) (sym (first-header-refuses sheet declaration_format (first-of-one sheet c.requires) (declaration_in (body_at sheet 0 7)) (declared-of-one sheet c.requires) c.in_err-body.ensures))

-- what the reader answers of the body
answered : (c : After-ok_or) → let body = body_at c.args.sheet.now 0 7 in ToldOr (declaration_fits body) (declaration_in body) (OutOfRange 0) c.ok_or.result
answered c = told-or _ _ _ (rw c.in_ok-body.ensures.is at c.read_declaration.ensures) c.ok_or.ensures.value

pub returns-in_err-declaration : goal.returns-in_err-declaration
returns-in_err-declaration c =
    let sheet = c.args.sheet.now in
    let (out, why) = (answered (goal.at.returns-in_err-declaration c).After-ok_or).outside c.in_err-declaration.was in
    let p = err_from_is_err_and c.from_residual-in_err-declaration.result c.from_residual-in_err-declaration.ensures.1 in
    rw (p.1, p.2, why) (sym (first-body-refuses sheet declaration_format (first-of-one sheet c.requires) (declaration_in (body_at sheet 0 7)) (declared-of-one sheet c.requires) c.in_ok-body.ensures.judged out))

pub returns : goal.returns
returns c =
    let sheet = c.args.sheet.now in
    let body = body_at sheet 0 7 in
    let (inside, same) = (answered (goal.at.returns c).After-ok_or).within c.in_ok-declaration.was in
    rw (c.end.ensures, same) (sym (first_passes sheet declaration_format (first-of-one sheet c.requires) (declaration_in body) (declared-of-one sheet c.requires) c.in_ok-body.ensures.judged inside (one-in-order body)))
