-- Behind the first field the second is judged by its header, then by its body.
use mathlib.Core.Path.{◌≡◌, sym, ◌∙◌}
use mathlib.Core.List.{[]}
use Prim.Native.Nat.{◌≤◌}
use native.Mathlib.Omega.{arith}
use Rattle.std.specs.Prelude.{Ok}
use Rattle.std.proofs.lemmas.Result.{err_from_is_err_and}
use Rattle.quantity.specs.Ranges.{checked_in}
use Rattle.quantity.specs.declared.refusal.Refusal.TheVariants.{OutOfRange}
use Rattle.sheet.specs.Bodies.{wanted_in, wanted_fits}
use Rattle.sheet.specs.Fields.{wanted_format, body_at}
use Rattle.sheet.specs.Sheets.{head_answer}
use Rattle.sheet.proofs.AnswerLaws.{ToldOr, told-or}
use Rattle.sheet.proofs.ReadLaws.{field-refused, field-outside, field-passed}
use Rattle.sheet.proofs.HeadRead.{head_behind, head_from, first-refuses, first-near, first-passed}
use Rattle.sheet.proofs.read.read_head.Goals as goal
use Rattle.sheet.proofs.read.read_head.Goals.{After-ok_or, In_ok-first}

pub returns-in_err-first : goal.returns-in_err-first
returns-in_err-first c =
    let p = err_from_is_err_and c.from_residual.result c.from_residual.ensures.1 in
    rw (p.1, p.2) (sym (first-refuses c.args.sheet.now c.read_first.ensures c.in_err-first.was))

-- behind a first field that passes
near : (c : In_ok-first) → c.in_ok-first.first.end ≤ 27
near c = first-near c.args.sheet.now c.read_first.ensures c.in_ok-first.was

passed : (c : In_ok-first)
    → let sheet = c.args.sheet.now in head_answer sheet ≡ head_from sheet c.in_ok-first.first
passed c = first-passed c.args.sheet.now c.read_first.ensures c.in_ok-first.was

pub body-requires : goal.body-requires
body-requires c = omega (arith, near (goal.at.body-requires c).In_ok-first)

pub end-requires : goal.end-requires
end-requires c = omega (arith, near (goal.at.end-requires c).In_ok-first)

pub returns-in_err-body : goal.returns-in_err-body
returns-in_err-body c =
    let sheet = c.args.sheet.now in
    let p = err_from_is_err_and c.from_residual-in_err-body.result c.from_residual-in_err-body.ensures.1 in
    rw (p.1, p.2) (sym (passed (goal.at.returns-in_err-body c).In_ok-first ∙ field-refused (Ok (head_behind sheet c.in_ok-first.first)) sheet _ wanted_format [] c.in_err-body.ensures))

-- what the reader answers of the body
answered : (c : After-ok_or) → let at = c.in_ok-first.first.end in let body = body_at c.args.sheet.now at 4 in ToldOr (wanted_fits body) (record { 0 = wanted_in body }) (OutOfRange at) c.ok_or.result
unfolding wanted_fits checked_in
answered c = told-or _ _ _ (rw c.in_ok-body.ensures.is at c.read_wanted.ensures) c.ok_or.ensures.value

pub returns-in_err-wanted : goal.returns-in_err-wanted
returns-in_err-wanted c =
    let sheet = c.args.sheet.now in
    let (out, why) = (answered (goal.at.returns-in_err-wanted c).After-ok_or).outside c.in_err-wanted.was in
    let p = err_from_is_err_and c.from_residual-in_err-wanted.result c.from_residual-in_err-wanted.ensures.1 in
    rw (p.1, p.2, why)
    (sym (passed (goal.at.returns-in_err-wanted c).In_ok-first ∙ field-outside (Ok (head_behind sheet c.in_ok-first.first)) sheet _ wanted_format [] c.in_ok-body.ensures.judged out))

pub returns : goal.returns
returns c =
    let sheet = c.args.sheet.now in
    let (fits, same) = (answered (goal.at.returns c).After-ok_or).within c.in_ok-wanted.was in
    rw (c.end.ensures, same) (sym (passed (goal.at.returns c).In_ok-first ∙ field-passed (Ok (head_behind sheet c.in_ok-first.first)) sheet _ wanted_format [] c.in_ok-body.ensures.judged fits))
