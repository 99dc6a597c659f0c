use Rattle.std.proofs.Common.{◌≡◌, ◌≤◌, ◌<◌, false, length, sym, ◌∙◌, arith}
use Rattle.std.proofs.lemmas.Result.{err_from_is_err_and}
use Rattle.quantity.specs.declared.refusal.Refusal.TheVariants.{OutOfRange}
use Rattle.sheet.specs.Bodies.{operator_in, operator_fits}
use Rattle.sheet.specs.Fields.{body_at}
use Rattle.sheet.specs.Sheets.{in_house_form, read_sheet}
use Rattle.sheet.proofs.AnswerLaws.{ToldOr, told-or}
use Rattle.sheet.proofs.HouseRead.{read-in-house, read-in-fields}
use Rattle.sheet.proofs.HeadRead.{head-refuses, head-inside, head_passed}
use Rattle.sheet.proofs.OperatorsRead.{due_at, due_from, reading-first, header-refuses, body-refuses, operator-passes, end-refuses, end-accepts}
use Rattle.sheet.proofs.read.read.Goals as goal
use Rattle.sheet.proofs.read.read.Goals.{After-read_head, After-ok_or, In-loop-k, After-ended, In_ok-head}

pub returns-then-begins_with : goal.returns-then-begins_with
unfolding in_house_form
returns-then-begins_with c = c.read_profile.ensures ∙ read-in-house c.args.sheet.now (sym c.begins_with.ensures ∙ c.if-begins_with.true)

-- what the fields answer is then what is read
in-fields : (c : After-read_head) → in_house_form c.args.sheet.now ≡ false
unfolding in_house_form
in-fields c = sym c.begins_with.ensures ∙ c.if-begins_with.false

pub returns-in_err-head : goal.returns-in_err-head
returns-in_err-head c =
    let sheet = c.args.sheet.now in
    let p = err_from_is_err_and c.from_residual.result c.from_residual.ensures.1 in
    rw (p.1, p.2) (sym (head-refuses sheet c.read_head.ensures c.in_err-head.was) ∙ read-in-fields sheet (in-fields (goal.at.returns-in_err-head c).After-read_head))

-- the operators begin within the sheet, and near
near : (c : In_ok-head) → (c.in_ok-head.head.end ≤ 34) × (c.in_ok-head.head.end ≤ length c.args.sheet.now)
near c = head-inside c.args.sheet.now c.read_head.ensures c.in_ok-head.was

-- and decide what is read
decided : (c : In_ok-head) → let sheet = c.args.sheet.now in let head = c.in_ok-head.head in due_at sheet head.end head.declaration head.wanted 15 head.end ≡ read_sheet sheet
unfolding in_house_form
decided c =
    let sheet = c.args.sheet.now in
    sym (head_passed sheet c.read_head.ensures c.in_ok-head.was) ∙ read-in-fields sheet (sym c.begins_with.ensures ∙ c.if-begins_with.false)

pub overflow_sub-sheet : goal.overflow_sub-sheet
overflow_sub-sheet c = (near (goal.at.overflow_sub-sheet c).In_ok-head).1

pub loop-k-init : goal.loop-k-init
loop-k-init c =
    let head = c.in_ok-head.head in
    reading-first c.args.sheet.now head.end head.declaration head.wanted (near (goal.at.loop-k-init c).In_ok-head).1

-- one more operator is due
more : (c : In-loop-k) → c.loop-k.k < due_from c.args.sheet.now c.in_ok-head.head.end
more c = rw c.operators_due-count.ensures at c.loop-k-test.true

pub body-requires : goal.body-requires
body-requires c = omega (arith, more (goal.at.body-requires c).In-loop-k, c.loop-k.invariant.begins, (near (goal.at.body-requires c).In_ok-head).0)

pub end-at-requires : goal.end-at-requires
end-at-requires c = omega (arith, more (goal.at.end-at-requires c).In-loop-k, c.loop-k.invariant.begins, (near (goal.at.end-at-requires c).In_ok-head).0)

pub returns-in_err-body : goal.returns-in_err-body
returns-in_err-body c =
    let head = c.in_ok-head.head in
    let due = more (goal.at.returns-in_err-body c).In-loop-k in
    let p = err_from_is_err_and c.from_residual-in_err-body.result c.from_residual-in_err-body.ensures.1 in
    rw (p.1, p.2)
    (sym (header-refuses c.args.sheet.now head.end head.declaration head.wanted _ _ _ c.loop-k.invariant due c.in_err-body.ensures)
    ∙ decided (goal.at.returns-in_err-body c).In_ok-head)

-- what the reader answers of the body
answered : (c : After-ok_or) → let body = body_at c.args.sheet.now c.loop-k.at 6 in ToldOr (operator_fits body) (operator_in body) (OutOfRange c.loop-k.at) c.ok_or.result
answered c = told-or _ _ _ (rw c.in_ok-body.ensures.is at c.read_linked.ensures) c.ok_or.ensures.value

pub returns-in_err-operators : goal.returns-in_err-operators
returns-in_err-operators c =
    let head = c.in_ok-head.head in
    let due = more (goal.at.returns-in_err-operators c).In-loop-k in
    let (out, why) = (answered (goal.at.returns-in_err-operators c).After-ok_or).outside c.in_err-operators.was in
    let p = err_from_is_err_and c.from_residual-in_err-operators.result c.from_residual-in_err-operators.ensures.1 in
    rw (p.1, p.2, why)
    (sym (body-refuses c.args.sheet.now head.end head.declaration head.wanted _ _ _ c.loop-k.invariant due c.in_ok-body.ensures.judged out)
    ∙ decided (goal.at.returns-in_err-operators c).In_ok-head)

pub loop-k-preserved : goal.loop-k-preserved
loop-k-preserved c =
    let head = c.in_ok-head.head in
    let due = more (goal.at.loop-k-preserved c).In-loop-k in
    let (fits, same) = (answered (goal.at.loop-k-preserved c).After-ok_or).within c.in_ok-operators.was in
    operator-passes c.args.sheet.now head.end head.declaration head.wanted _ _ _ c.loop-k.invariant due c.in_ok-body.ensures.judged fits _ same _ (omega (arith, c.end-at.ensures))

-- all that are due are read
all_read : (c : After-ended) → c.loop-k.k ≡ due_from c.args.sheet.now c.in_ok-head.head.end
all_read c = let done : c.loop-k.k ≡ c.operators_due-count.result = omega arith in done ∙ c.operators_due-count.ensures

pub returns-in_err-ended : goal.returns-in_err-ended
returns-in_err-ended c =
    let p = err_from_is_err_and c.from_residual-in_err-ended.result c.from_residual-in_err-ended.ensures.1 in
    rw (p.1, p.2)
    (sym (end-refuses _ _ _ _ _ _ _ c.loop-k.invariant (all_read (goal.at.returns-in_err-ended c).After-ended) c.ended.ensures c.in_err-ended.was)
    ∙ decided (goal.at.returns-in_err-ended c).In_ok-head)

pub returns : goal.returns
returns c =
    let done : c.operators_due-count.result ≡ c.loop-k.k = omega arith in
    rw (done, ← decided (goal.at.returns c).In_ok-head) (sym (end-accepts _ _ _ _ _ _ _ c.loop-k.invariant (all_read (goal.at.returns c).After-ended) c.ended.ensures c.in_ok-ended.was))
