use Rattle.std.proofs.Common.{◌≡◌, ◌+◌, ◌*◌, length, get_or, take, refl, ap, ◌∙◌, arith}
use lib.Seq.{length-sets, take_all}
use Rattle.sheet.specs.Paths.{no_linked_operator}
use Rattle.sheet.specs.Bodies.{operator_body}
use Rattle.sheet.specs.Fields.{field_of}
use Rattle.sheet.specs.Sheets.{operator_fields}
use Rattle.sheet.proofs.Runs.{run-behind}
use Rattle.sheet.proofs.InRange.{operators-at}
use Rattle.sheet.proofs.OperatorRows.{length-operator_fields}
use Rattle.sheet.proofs.WriteLaws.{operator_fields-next, length-operator_fields-take}
use Rattle.sheet.proofs.write.write_operators.Goals as goal
use Rattle.sheet.proofs.write.write_operators.Goals.{At-loop-linked}

full : (c : At-loop-linked) → length c.loop-linked.sheet ≡ 256
full c = ap length c.loop-linked.invariant.1 ∙ simp length-sets (omega arith)

pub loop-linked-init : goal.loop-linked-init
unfolding operator_fields
loop-linked-init c = (omega arith, refl)

pub write_linked-requires : goal.write_linked-requires
write_linked-requires c =
    let at = (goal.at.write_linked-requires c).At-loop-linked in (
      operators-at c.args.operators.now c.loop-linked.linked-index no_linked_operator c.requires.0 c.loop-linked-test.true,
      omega (arith, full at, c.loop-linked.invariant.0),
    )

pub loop-linked-preserved : goal.loop-linked-preserved
loop-linked-preserved c =
    let operators = c.args.operators.now in
    let k = c.loop-linked.linked-index in
    let size : length (operator_fields (take k operators)) ≡ 9 * k = length-operator_fields-take operators k (omega arith) in (
      omega arith,
      rw (operator_fields-next operators k no_linked_operator c.loop-linked-test.true)
          (run-behind c.args.sheet.now c.args.from c.loop-linked.at (operator_fields (take k operators)) (field_of 0x03 (operator_body (get_or operators k no_linked_operator))) c.loop-linked.invariant.1 c.write_linked.ensures (omega arith)),
    )

pub returns : goal.returns
returns c =
    let operators = c.args.operators.now in
    let size = length-operator_fields operators in
    let end : c.loop-linked.at ≡ c.args.from + length (operator_fields operators) = omega arith in
    (end, rw (take_all c.loop-linked.linked-index operators c.loop-linked-test.false) at c.loop-linked.invariant.1)
