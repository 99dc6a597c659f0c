use Rattle.std.proofs.Common.{Bool, Some, None, sym, ap, ◌∙◌}
use Rattle.quantity.specs.Choice.{pick}
use Rattle.ledger.proofs.Sparing.{spared-first, spared-next, spared-all}
use Rattle.ledger.proofs.Numbers.{and-both}
use Rattle.ledger.proofs.spare.spare_rates.Goals as goal

pub loop-link-init : goal.loop-link-init
loop-link-init c = spared-first c.args.ledger

pub loop-link-preserved : goal.loop-link-preserved
loop-link-preserved c =
    spared-next c.args.ledger c.loop-link.invariant c.loop-link-test.true c.left-rate.ensures c.fits-fit.ensures (and-both c.loop-link.fit c.fits-fit.result)

pub returns-then-fit : goal.returns-then-fit
returns-then-fit c =
    ap (λ (fit : Bool). pick fit (Some c.loop-link.rates) None) (sym c.if-fit.true) ∙ spared-all c.args.ledger c.loop-link.invariant c.loop-link-test.false

pub returns-else-fit : goal.returns-else-fit
returns-else-fit c =
    ap (λ (fit : Bool). pick fit (Some c.loop-link.rates) None) (sym c.if-fit.false) ∙ spared-all c.args.ledger c.loop-link.invariant c.loop-link-test.false
