-- A refusal of the figures is handed on, and else the path's lines are put one behind the other.
use Prim.Native.Nat.{◌≤◌, ◌<◌}
use mathlib.Core.Path.{◌≡◌, sym, ap, ◌∙◌}
use mathlib.Core.List.{List}
use native.Mathlib.Omega.{arith}
use lib.ListN.{length, take, get_or}
use Rattle.std.specs.Prelude.{Ok}
use Rattle.std.proofs.lemmas.Result.{err_from_is_err_and}
use Rattle.sheet.specs.Paths.{no_linked_operator, link_at}
use Rattle.sheet.specs.Sheets.{path_in}
use Rattle.sheet.specs.declared.LinkedOperator.{LinkedOperator}
use Rattle.figures.specs.Answers.{operator_at, figures_of}
use Rattle.page.proofs.Accepted.{few-operators, count_same, operators-same, figure-same, delay-same, link-le}
use Rattle.page.proofs.Answering.{paging-unsized, paging-refused, paging-accepted}
use Rattle.page.proofs.Promise.{page-length}
use Rattle.page.proofs.Writing.{written_none, written-full, written_next, written_all}
use Rattle.page.proofs.page.Goals as goal
use Rattle.page.proofs.page.Goals.{In_ok-answer, In-loop-k}

-- the figures were answered
accepted : (c : In_ok-answer) → figures_of c.args.sheet.now ≡ Ok c.in_ok-answer.answer
accepted c = sym c.figures.ensures ∙ c.in_ok-answer.was

-- the operators are the path's
listed : (c : In_ok-answer) → take c.in_ok-answer.answer.path.count c.in_ok-answer.answer.path.operators ≡ (path_in c.args.sheet.now).operators
listed c = operators-same c.args.sheet.now (accepted c)

-- the one whose line comes next
next : (c : In-loop-k) → c.loop-k.k < length (path_in c.args.sheet.now).operators
next c = omega (arith, ap length (listed (goal.at.In-loop-k c).In_ok-answer))

few : (c : In-loop-k) → c.loop-k.k ≤ 15
few c = omega (arith, next c, few-operators c.args.sheet.now (accepted (goal.at.In-loop-k c).In_ok-answer))

link-here : (c : In-loop-k) → (get_or (take c.in_ok-answer.answer.path.count c.in_ok-answer.answer.path.operators) c.loop-k.k no_linked_operator).link.0 ≡ link_at (path_in c.args.sheet.now) c.loop-k.k
link-here c = ap (λ (operators : List LinkedOperator). (get_or operators c.loop-k.k no_linked_operator).link.0) (listed (goal.at.In-loop-k c).In_ok-answer)

operator-here : (c : In-loop-k) → (get_or (take c.in_ok-answer.answer.path.count c.in_ok-answer.answer.path.operators) c.loop-k.k no_linked_operator).operator ≡ operator_at (path_in c.args.sheet.now) c.loop-k.k
unfolding operator_at
operator-here c = ap (λ (operators : List LinkedOperator). (get_or operators c.loop-k.k no_linked_operator).operator) (listed (goal.at.In-loop-k c).In_ok-answer)

pub returns-then-lent-ne1037 : goal.returns-then-lent-ne1037
returns-then-lent-ne1037 c = paging-unsized c.args.sheet.now c.args.lent.now c.if-lent-ne1037.true

pub returns-in_err-answer : goal.returns-in_err-answer
returns-in_err-answer c =
    let p = err_from_is_err_and c.from_residual.result c.from_residual.ensures.1 in
    rw (p.1, p.2) (paging-refused c.args.sheet.now c.args.lent.now c.if-lent-ne1037.false (sym c.figures.ensures ∙ c.in_err-answer.was))

pub shared_ref_as_front-linked-items : goal.shared_ref_as_front-linked-items
shared_ref_as_front-linked-items c =
    let yes = accepted (goal.at.shared_ref_as_front-linked-items c).In_ok-answer in
    omega (arith, count_same c.args.sheet.now yes, few-operators c.args.sheet.now yes)

pub loop-k-init : goal.loop-k-init
loop-k-init c = written_none (path_in c.args.sheet.now) c.args.lent.now

pub put_operator-requires : goal.put_operator-requires
put_operator-requires c =
    let sheet = c.args.sheet.now in
    let inside = (goal.at.put_operator-requires c).In-loop-k in
    let yes = accepted (goal.at.put_operator-requires c).In_ok-answer in
    (few inside, rw (link-here inside) (link-le sheet yes c.loop-k.k), omega (arith, few inside, written-full sheet yes c.loop-k.invariant, c.if-lent-ne1037.false))

pub loop-k-preserved : goal.loop-k-preserved
loop-k-preserved c =
    let sheet = c.args.sheet.now in
    let inside = (goal.at.loop-k-preserved c).In-loop-k in
    let yes = accepted (goal.at.loop-k-preserved c).In_ok-answer in
    let less = next inside in
    written_next sheet yes c.loop-k.invariant less (operator-here inside) (link-here inside) (figure-same sheet yes c.loop-k.k _ less) c.put_operator.ensures c.plus-capacity.ensures

-- behind the last operator comes the path's line
all : (c : In_ok-answer) → c.in_ok-answer.answer.path.count ≡ length (path_in c.args.sheet.now).operators
all c = count_same c.args.sheet.now (accepted c)

pub put_path-requires : goal.put_path-requires
put_path-requires c =
    let sheet = c.args.sheet.now in
    let here = (goal.at.put_path-requires c).In_ok-answer in
    omega (arith, all here, few-operators sheet (accepted here), written-full sheet (accepted here) c.loop-k.invariant, c.if-lent-ne1037.false)

pub returns : goal.returns
returns c =
    let sheet = c.args.sheet.now in
    let here = (goal.at.returns c).In_ok-answer in
    let yes = accepted here in
    let ended : c.loop-k.k ≡ c.in_ok-answer.answer.path.count = omega (arith, ap length (listed here), all here) in
    let (length-is, stored) = written_all sheet yes (rw ended at c.loop-k.invariant) (all here) (delay-same sheet yes) c.put_path.ensures in
    rw length-is (paging-accepted sheet c.args.lent.now c.if-lent-ne1037.false yes (omega (arith, page-length sheet yes, few-operators sheet yes)) stored)
