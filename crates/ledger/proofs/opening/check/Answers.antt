use Rattle.std.proofs.Common.{◌≡◌, arith}
use Rattle.ledger.specs.Ledgers.{link_count}
use Rattle.ledger.proofs.Deciding.{passed_first, passed-next, passed_none, passed-all}
use Rattle.ledger.proofs.opening.check.Goals as goal

pub loop-link-init : goal.loop-link-init
loop-link-init c = passed_first c.args.capacities c.no_ledger-ledger.ensures

pub returns-in_err-capacity : goal.returns-in_err-capacity
returns-in_err-capacity c = rw c.from_residual.ensures (passed_none c.args.capacities c.loop-link.invariant c.loop-link-test.true c.checked.ensures c.in_err-capacity.was)

pub loop-link-preserved : goal.loop-link-preserved
loop-link-preserved c =
    passed-next c.args.capacities c.loop-link.invariant c.loop-link-test.true c.checked.ensures c.in_ok-capacity.was

pub returns : goal.returns
returns c =
    let ends : c.loop-link.link ≡ link_count = omega (arith, c.loop-link.invariant.few) in
    passed-all c.args.capacities (rw ends at c.loop-link.invariant)
